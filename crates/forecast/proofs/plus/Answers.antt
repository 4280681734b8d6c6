-- `plus` meets its contract: where the rest up to the first number past the limit is at most the amount, the sum is that number.
use native.Mathlib.Omega.{arith}
use Rattle.forecast.specs.Adding.{capped}
use Rattle.forecast.proofs.plus.Goals as goal

pub returns-then-sum-amount : goal.returns-then-sum-amount
unfolding capped
returns-then-sum-amount c = omega arith

pub returns-else-sum-amount : goal.returns-else-sum-amount
unfolding capped
returns-else-sum-amount c = omega arith
