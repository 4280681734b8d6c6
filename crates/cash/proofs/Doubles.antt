-- Whole numbers up to 2 ^ 53 as doubles: each is exact, and so is the difference of two of them.
use mathlib.Core.Path.{◌≡◌, refl, sym, ◌∙◌, subst}
use mathlib.Core.Bool.{Bool, true, false, cond}
use Prim.Native.Nat.{ℕ, zero, suc, ◌-◌, ◌≤◌, ◌<◌}
use native.Mathlib.Nat.{add-zero, sub-zero}
use native.Mathlib.Omega.{arith}
use lib.Dec.{T, ltb, le→leb, lt→ltb, leb→le, ltb→lt}
use lib.IntN.{ℤ, pos, negsuc, ◌-ℤ◌}
use lib.Ieee.{binary64, in_float, of_int, round, units, odd, size, span, climb}
use lib.Ieee.Back.{round_whole}
use borrow.Author.Tests.{ltb-true, ltb-false}
use Rattle.cash.specs.Cash.{exact_limit}
use Rattle.cash.specs.Exact.{Exactly, positive_zero}

-- ---- receive less pay, by which of the two is larger

pub by_order : (P : ℤ → Type 0) (a b : ℕ) → (b ≤ a → P (pos (a - b))) → (a < b → P (negsuc (b - suc a))) → P (pos a -ℤ pos b)
by_order P a zero h k = subst (λ (n : ℕ). P (pos n)) (sub-zero a ∙ sym (add-zero a)) (h (omega arith))
by_order P a (suc b) h k = go (ltb a (suc b)) refl
  where
    go : (t : Bool) → ltb a (suc b) ≡ t → P (cond t (negsuc (suc b - suc a)) (pos (a - suc b)))
    go true e = k (ltb-true a (suc b) e)
    go false e = h (ltb-false a (suc b) e)

-- ---- whole numbers that a double holds

pub whole_in : (n : ℕ) → n ≤ exact_limit → T (in_float binary64 (pos n))
unfolding in_float
whole_in n h = le→leb n exact_limit h

pub difference_in : (a b : ℕ) → a ≤ exact_limit → b ≤ exact_limit → T (in_float binary64 (pos a -ℤ pos b))
unfolding in_float
difference_in a b ha hb =
    by_order (λ z. T (in_float binary64 z)) a b (λ h. le→leb (a - b) exact_limit (omega arith))
    (λ h. lt→ltb (b - suc a) exact_limit (omega arith))

-- ---- each is exact

pub exact : (z : ℤ) → T (in_float binary64 z) → Exactly (of_int binary64 z) z
unfolding in_float of_int
exact (pos n) t = round_whole binary64 false n (leb→le n exact_limit t)
exact (negsuc n) t = round_whole binary64 true (suc n) (ltb→lt n exact_limit t)

pub zero_double : of_int binary64 (pos 0) ≡ positive_zero
unfolding of_int round units odd size span climb
zero_double = refl
