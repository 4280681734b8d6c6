-- The loop keeps that n is the count of the first i bytes.
use Rattle.lists.specs.Sums.{Adding}
use Rattle.tags.specs.Quick.{brace_of}
use Rattle.tags.proofs.braces.Given as goal

abbrev pub invariant-loop-i : goal.invariant-loop-i
invariant-loop-i l = Adding brace_of 1 l.line l.n l.i
