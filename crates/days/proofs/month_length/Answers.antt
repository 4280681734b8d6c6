-- The arithmetic gives the length that the definition has written out.
use Prim.Native.Nat.{ℕ, ◌*◌, ◌≤◌}
use native.Mathlib.Nat.{le_trans, lt_of_le_of_lt, mul-le-mul}
use native.Mathlib.Omega.{arith}
use lib.Dec.{lit<}
use Rattle.days.proofs.Lengths.{leap_fourth, by_formula}
use Rattle.days.proofs.month_length.Goals as goal

-- what is taken off is at most two days
product_le : (a b : ℕ) → a ≤ 1 → b ≤ 2 → a * b ≤ 2
product_le a b h l = mul-le-mul h l

pub overflow_sub-result : goal.overflow_sub-result
overflow_sub-result c = let p = c.requires in omega (arith, c.leap_day.ensures, leap_fourth _ p.0 p.1)

pub overflow_mul-result : goal.overflow_mul-result
overflow_mul-result c = record { fits = lt_of_le_of_lt (product_le _ _ (omega arith) (omega arith)) (lit< tt) }

pub overflow_sub-result-2 : goal.overflow_sub-result-2
overflow_sub-result-2 c = le_trans (product_le _ _ (omega arith) (omega arith)) (omega arith)

pub returns : goal.returns
returns c = let p = c.requires in omega (arith, by_formula _ _ _ c.leap_day.ensures p.0 p.1 p.2 p.3)
