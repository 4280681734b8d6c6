-- `number_at` gives the number of the bytes. The loop goes from the highest byte down, so a turn is one step of `number_of`.
use Rattle.reading.proofs.Loops.{Getting}
use Rattle.reading.proofs.number_at.Given as goal

abbrev pub invariant-loop-i : goal.invariant-loop-i
invariant-loop-i l = Getting l.s l.at l.width l.n l.i
