-- What the loop that copies words keeps: after i turns the first i are copied and the rest are as they were.
use mathlib.Core.Path.{◌≡◌, refl, sym, ap, ◌∙◌}
use mathlib.Core.List.{List, ◌++◌, append-nil}
use Prim.Native.Nat.{ℕ, suc, ◌+◌, ◌≤◌, ◌<◌}
use native.Mathlib.Numerals.{add-one}
use native.Mathlib.Omega.{arith}
use lib.ListN.{length, get_or, set, take, drop, length-set, drop_of_length-le}
use lib.Seq.{take-suc, take-length, drop-cons, append_snoc, set_at, length-take-le}

pub record Copying (from to₀ to : List ℕ) (i : ℕ) : Type 0 where
  pub small : i ≤ length from
  pub room : length from ≤ length to₀
  pub sized : length to ≡ length to₀
  pub stored : to ≡ take i from ++ drop i to₀

pub copy_start : (from to : List ℕ) → length from ≤ length to → Copying from to to 0
copy_start from to h = record { small = omega arith; room = h; sized = refl; stored = refl }

pub copy_step : {from to₀ to : List ℕ} {i : ℕ} → i < length from → Copying from to₀ to i
    → Copying from to₀ (set to i (get_or from i 0)) (i + 1)
copy_step {from} {to₀} {to} {i} h k =
    record {
      small = omega arith;
      room = k.room;
      sized = length-set to i (get_or from i 0) ∙ k.sized;
      stored =
          ap (λ (l : List ℕ). set l i (get_or from i 0)) (k.stored ∙ ap (λ (l : List ℕ). take i from ++ l) (drop-cons to₀ i 0 (omega (arith, k.room))))
          ∙ set_at (take i from) _ (drop (suc i) to₀) (get_or from i 0) i (length-take-le i from (omega arith))
          ∙ (rw (add-one i, take-suc from i 0 h) (sym (append_snoc (take i from) (get_or from i 0) (drop (suc i) to₀))));
    }

pub copy_end : {from to₀ to : List ℕ} {i : ℕ} → length from ≤ i → Copying from to₀ to i
    → to ≡ from ++ drop (length from) to₀
copy_end {from} {to₀} {to} {i} h k =
    let e : i ≡ length from = omega (arith, k.small) in
    k.stored ∙ rw (e, take-length from)

-- words copied over as many
pub copied_whole : (from to₀ to : List ℕ) → length from ≡ length to₀ → to ≡ from ++ drop (length from) to₀ → to ≡ from
copied_whole from to₀ to e h = h ∙ rw (drop_of_length-le to₀ {i = length from} (omega (arith, e))) (append-nil from)
