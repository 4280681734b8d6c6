-- `copy` stores the words in order.
use Rattle.book.proofs.Copied.{Copying}
use Rattle.book.proofs.copy.Given as goal

abbrev pub invariant-loop-w : goal.invariant-loop-w
invariant-loop-w l = Copying l.from l.initial.to l.to l.w
