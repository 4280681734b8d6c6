-- The loop keeps that the words below m decide; the zeros above the top bit give the day.
use Rattle.days.proofs.Months.{Falling}
use Rattle.days.proofs.Calendar.last_open.Given as goal

abbrev pub invariant-loop-m : goal.invariant-loop-m
invariant-loop-m l = Falling l.self-inside.months.now l.m
