-- `forecast` meets its contract: its figures, or the number of the refusal and three zeros.
use Rattle.forecast.specs.Adding.{answered}
use Rattle.forecast.proofs.forecast.Goals as goal

pub returns-in-Ok : goal.returns-in-Ok
unfolding answered
returns-in-Ok c = c.in-Ok.ensures

pub returns-in-Err : goal.returns-in-Err
unfolding answered
returns-in-Err c = rw (c.number.ensures, c.cash_of.ensures) c.in-Err.ensures
