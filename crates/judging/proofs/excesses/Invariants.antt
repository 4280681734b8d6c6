-- The loop keeps that total is what the balances so far have above the largest: a test's answer is at most 2 ^ 30 for each.
use Rattle.lists.specs.Sums.{Adding}
use Rattle.judging.specs.Quick.{excess_of}
use Rattle.judging.proofs.excesses.Given as goal

abbrev pub invariant-loop-par : goal.invariant-loop-par
invariant-loop-par l = Adding excess_of 1073741824 l.balances l.total l.par-index
