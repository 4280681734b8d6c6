-- The lengths of the months of 1999 to 2039: each law is one computed test over all of them. The calendar's 480 begin with 2000; 1999 comes
-- up half a year before a day of 2000.
use mathlib.Core.Path.{◌≡◌, refl, sym, ap₂, ◌∙◌}
use mathlib.Core.Bool.{Bool, true}
use Prim.Native.Nat.{ℕ, ◌+◌, ◌-◌, ◌*◌, ◌/◌, ◌%◌, ◌≤◌, ◌<◌}
use native.Mathlib.Omega.{arith}
use lib.Dec.{eqb, leb, lit≤}
use borrow.Author.Tests.{eqb-true, leb-true}
use Rattle.lists.specs.Tests.{below, below_at}
use Rattle.days.specs.Days.{leap_day, month_length, length_of}

-- f holds of each month of the years 1999 to 2039
unfoldable months : (ℕ → ℕ → Bool) → Bool
months f = below (λ y. below (λ m. f (1999 + y) (1 + m)) 12) 41

at_month : (f : ℕ → ℕ → Bool) → months f ≡ true → (y m : ℕ) → 1999 ≤ y → y < 2040 → 1 ≤ m → m ≤ 12 → f y m ≡ true
unfolding months
at_month f t y m hy ly hm lm =
    let ey : 1999 + (y - 1999) ≡ y = omega arith in
    let em : 1 + (m - 1) ≡ m = omega arith in
    sym (ap₂ f ey em)
    ∙ below_at (λ m. f (1999 + (y - 1999)) (1 + m)) 12
    (below_at (λ y. below (λ m. f (1999 + y) (1 + m)) 12) 41 t (y - 1999) (omega arith)) (m - 1) (omega arith)

module _ (y m : ℕ) (hy : 1999 ≤ y) (ly : y < 2040) (hm : 1 ≤ m) (lm : m ≤ 12) where
  pub length_le : month_length y m ≤ 31
  unfolding month_length leap_day months below
  length_le = leb-true _ _ (at_month (λ y m. leb (month_length y m) 31) refl y m hy ly hm lm)

  pub length_ge : 28 ≤ month_length y m
  unfolding month_length leap_day months below
  length_ge = leb-true _ _ (at_month (λ y m. leb 28 (month_length y m)) refl y m hy ly hm lm)

-- the month of a word
pub word_length_le : (m : ℕ) → m < 480 → length_of m ≤ 31
unfolding length_of
word_length_le m h = length_le (2000 + m / 12) (m % 12 + 1) (omega arith) (omega arith) (omega arith) (omega arith)

-- ---- the code's arithmetic

-- in these years every fourth has the leap day
pub leap_fourth : (y : ℕ) → 1999 ≤ y → y < 2040 → (4 - y % 4) / 4 ≡ leap_day y
unfolding leap_day months below
leap_fourth y hy ly = eqb-true _ _ (at_month (λ y m. eqb ((4 - y % 4) / 4) (leap_day y)) refl y 1 hy ly (lit≤ tt) (lit≤ tt))

-- the length from the leap day and the month's number
abbrev formula : ℕ → ℕ → ℕ
formula leap m = 30 + (m + m / 8) % 2 - (m + 9) % 12 / 11 * (2 - leap)

-- for each of these months it is the length that is written out
pub by_formula : (y m leap : ℕ) → leap ≡ leap_day y → 1999 ≤ y → y < 2040 → 1 ≤ m → m ≤ 12 → formula leap m ≡ month_length y m
unfolding month_length leap_day months below
by_formula y m leap e hy ly hm lm =
    rw e (eqb-true _ _ (at_month (λ y m. eqb (formula (leap_day y) m) (month_length y m)) refl y m hy ly hm lm))
