-- `good_rows` judges the rows in order: the rows from i on decide.
use Rattle.securities.proofs.Checks.{Rowed}
use Rattle.securities.proofs.good_rows.Given as goal

abbrev pub invariant-loop-i : goal.invariant-loop-i
invariant-loop-i l = Rowed l.last l.rows l.record_date l.beneficiary_date l.i
