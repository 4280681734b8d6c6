-- The loop keeps that the words from year y on decide.
use Rattle.days.proofs.Months.{Yearly}
use Rattle.days.proofs.Calendar.is_bad.Given as goal

abbrev pub invariant-loop-y : goal.invariant-loop-y
invariant-loop-y l = Yearly l.self-inside.months.now l.y
