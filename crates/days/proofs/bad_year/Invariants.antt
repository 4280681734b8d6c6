-- The loop keeps that the words from m on decide; each word is below its month's power exactly when no bit is left of it.
use Prim.Native.Nat.{◌*◌}
use Rattle.days.proofs.Months.{Judging}
use Rattle.days.proofs.bad_year.Given as goal

abbrev pub invariant-loop-m : goal.invariant-loop-m
invariant-loop-m l = Judging l.words (12 * l.y) l.m
