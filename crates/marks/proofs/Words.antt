-- The words of the four marks lie apart: a mark that is written holds what was written, and all others hold what they held.
use mathlib.Core.Path.{◌≡◌, sym, ap, ◌∙◌}
use mathlib.Core.Bool.{true}
use mathlib.Core.List.{List, ◌++◌}
use mathlib.Core.Logic.{◌≢◌}
use Prim.Native.Nat.{ℕ, ◌+◌, ◌-◌, ◌≤◌, ◌<◌}
use native.Mathlib.Decide.{dec_lt}
use native.Mathlib.Omega.{arith}
use lib.ListN.{length, take, drop, length-drop}
use lib.Seq.{take_at, drop_at, drop-drop, drop-append-le, take-append-le, length-take-le}
use Rattle.lists.specs.Fields.{part, part_take}
use Rattle.lists.specs.Put.{put, put_behind, put_length}
use Rattle.marks.specs.Marks.{is_mark, place_of, mark_in}
use Rattle.marks.proofs.Numbers.{mark_range, place_fits}

module _ (store words : List ℕ) (e : length store ≡ 32780) (l : length words ≡ 8195) (k : ℕ) (m : is_mark k ≡ true) where
  abbrev i : ℕ
  i = place_of k

  -- the store has room for the words
  fits : i + length words ≤ length store
  fits = omega (arith, place_fits k m, e, l)

  pub written_length : length (put store i words) ≡ 32780
  written_length = put_length store i words fits ∙ e

  pub written_mark : mark_in (put store i words) k ≡ words
  unfolding mark_in put
  written_mark =
      ap (take 8195) (drop_at (take i store) (words ++ drop (i + length words) store) i (length-take-le i store (omega (arith, fits))))
      ∙ take_at words (drop (i + length words) store) 8195 l

  -- a part that ends before the words, and one that begins behind them
  part_before : (j : ℕ) → j + 8195 ≤ i → part j 8195 (put store i words) ≡ part j 8195 store
  unfolding put
  part_before j h =
      let t : length (take i store) ≡ i = length-take-le i store (omega (arith, fits)) in
      let rest : List ℕ = words ++ drop (i + length words) store in
      ap (take 8195) (drop-append-le j (take i store) rest (omega (arith, t)))
      ∙ take-append-le 8195 (drop j (take i store)) rest (omega (arith, length-drop j (take i store), t))
      ∙ part_take j 8195 i store h

  part_behind : (j : ℕ) → i + 8195 ≤ j → part j 8195 (put store i words) ≡ part j 8195 store
  part_behind j h =
      let n : ℕ = i + length words in
      let q : n + (j - n) ≡ j = omega (arith, l) in
      ap (take 8195)
      (ap (λ (x : ℕ). drop x (put store i words)) (sym q) ∙ sym (drop-drop (j - n) n (put store i words))
      ∙ ap (drop (j - n)) (put_behind store i words fits)
      ∙ drop-drop (j - n) n store ∙ ap (λ (x : ℕ). drop x store) q)

  pub other_mark : (j : ℕ) → is_mark j ≡ true → j ≢ k → mark_in (put store i words) j ≡ mark_in store j
  unfolding mark_in place_of
  other_mark j n d = go (dec_lt j k)
    where
      go : Dec (j < k) → part (place_of j) 8195 (put store i words) ≡ part (place_of j) 8195 store
      go (yes b) = part_before (place_of j) (omega (arith, b, (mark_range j n).0))
      go (no b) = part_behind (place_of j) (omega (arith, b, d, (mark_range k m).0))
