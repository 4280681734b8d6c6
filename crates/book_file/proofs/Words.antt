-- Words filled in order: after i turns the first i stand, and what is left of the definition is known.
use mathlib.Core.Path.{◌≡◌, refl, sym, ap, ◌∙◌}
use mathlib.Core.List.{List, [], ◌∷◌, ◌++◌, append_assoc, append-nil}
use Prim.Native.Nat.{ℕ, suc, ◌+◌, ◌-◌, ◌*◌, ◌≤◌, ◌<◌}
use native.Mathlib.Nat.{sub-zero}
use native.Mathlib.Numerals.{add-one}
use native.Mathlib.Omega.{arith}
use lib.ListN.{length, take, drop, set, length-set}
use lib.Seq.{take-suc-set, take-length, drop-drop}
use Rattle.lists.specs.Numbers.{number_of}
use Rattle.lists.specs.Fields.{part}
use Rattle.book_file.specs.BookFile.{words_in, calendar_in, tables_in}

pub record Filling (bytes : List ℕ) (at : ℕ) (words₀ words : List ℕ) (i : ℕ) : Type 0 where
  pub small : i ≤ length words₀
  pub sized : length words ≡ length words₀
  pub rest : words_in (length words₀) (drop at bytes) ≡ take i words ++ words_in (length words₀ - i) (drop (at + 4 * i) bytes)

pub fill_start : (bytes : List ℕ) (at : ℕ) (words : List ℕ) → Filling bytes at words words 0
fill_start bytes at words =
    let z : at + 4 * 0 ≡ at = omega arith in
    record { small = omega arith; sized = refl; rest = rw (sub-zero, z) refl }

pub fill_step : {bytes words₀ words : List ℕ} {at i w : ℕ} → i < length words → w ≡ number_of (part (at + 4 * i) 4 bytes) → Filling bytes at words₀ words i
    → Filling bytes at words₀ (set words i w) (i + 1)
unfolding words_in
fill_step {bytes} {words₀} {words} {at} {i} {w} h e k =
    let m : length words₀ - i ≡ suc (length words₀ - (i + 1)) = omega (arith, k.sized) in
    let n : at + 4 * (i + 1) ≡ at + 4 * i + 4 = omega arith in
    record {
      small = omega (arith, k.sized);
      sized = length-set words i w ∙ k.sized;
      rest = k.rest
          ∙ rw (m, n, ← drop-drop 4 (at + 4 * i) bytes, add-one, take-suc-set words i w h, ← e)
          (sym (append_assoc (take i words) (w ∷ []) (words_in (length words₀ - suc i) (drop 4 (drop (at + 4 * i) bytes)))));
    }

pub fill_end : {bytes words₀ words : List ℕ} {at i : ℕ} → length words ≤ i → Filling bytes at words₀ words i
    → words ≡ words_in (length words₀) (drop at bytes)
unfolding words_in
fill_end {bytes} {words₀} {words} {at} {i} h k =
    let z : length words₀ - i ≡ 0 = omega (arith, k.sized) in
    let l : i ≡ length words = omega (arith, k.sized, k.small) in
    sym (k.rest ∙ rw z (append-nil (take i words) ∙ ap (λ (n : ℕ). take n words) l ∙ take-length words))

-- ---- the parts of book.dat

pub calendar_words_lem : (bytes words : List ℕ) (n : ℕ) → n ≡ 480 → words ≡ words_in n (drop 0 bytes) → words ≡ calendar_in bytes
unfolding calendar_in
calendar_words_lem bytes words n e q = q ∙ ap (λ (k : ℕ). words_in k bytes) e

pub table_words_lem : (bytes words : List ℕ) (n : ℕ) → n ≡ 1824 → words ≡ words_in n (drop 1920 bytes) → words ≡ tables_in bytes
unfolding tables_in
table_words_lem bytes words n e q = q ∙ ap (λ (k : ℕ). words_in k (drop 1920 bytes)) e
