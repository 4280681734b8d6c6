-- Each arm asks for the change of its codes.
use native.Mathlib.Omega.{arith}
use Rattle.book.proofs.Posted.{asks_increase, asks_decrease, asks_nothing, adds_first, adds, takes, takes_last}
use Rattle.loans.proofs.change_of.Goals as goal

pub returns-in-1 : goal.returns-in-1
returns-in-1 c = let e = c.tracked-tracking.ensures in asks_increase _ _ _ e.0 e.1 (adds_first c.in-1.is)

pub returns-in-1-2 : goal.returns-in-1-2
returns-in-1-2 c = let e = c.tracked-tracking.ensures in asks_increase _ _ _ e.0 e.1 (adds (omega arith) (omega arith))

pub returns-in-2 : goal.returns-in-2
returns-in-2 c = let e = c.tracked-tracking.ensures in asks_decrease _ _ _ e.0 e.1 (takes_last c.in-2.is)

pub returns-in-2-2 : goal.returns-in-2-2
returns-in-2-2 c = let e = c.tracked-tracking.ensures in asks_decrease _ _ _ e.0 e.1 (takes (omega arith) (omega arith))

pub returns-in_default : goal.returns-in_default
returns-in_default c = let e = c.tracked-tracking.ensures in asks_nothing _ _ _ e.0 e.1 (λ m a b q. omega arith)

pub returns-in_default-2 : goal.returns-in_default-2
returns-in_default-2 c = let e = c.tracked-tracking.ensures in asks_nothing _ _ _ e.0 e.1 (λ m a b q. omega arith)
