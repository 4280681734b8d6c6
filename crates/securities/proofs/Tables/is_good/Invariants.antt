-- The securities are judged from the last down: those below s decide.
use Rattle.securities.proofs.Checks.{Judging}
use Rattle.securities.proofs.Tables.is_good.Given as goal

abbrev pub invariant-loop-s : goal.invariant-loop-s
invariant-loop-s l = Judging l.calendar l.self-inside.words.now l.s
