-- Only a decrease takes from a balance.
use Rattle.book.specs.Loans.{clears_balance}
use Rattle.book.proofs.Posted.{no_decrease}
use Rattle.loans.proofs.clears_balance.Goals as goal

pub returns-in-Decrease : goal.returns-in-Decrease
unfolding clears_balance
returns-in-Decrease c = rw (← c.change_of.ensures, c.in-Decrease.is, c.par.ensures)

pub returns-in_default : goal.returns-in_default
returns-in_default c = rw (← c.change_of.ensures) (no_decrease _ _ _ c.in_default.not-Decrease)
