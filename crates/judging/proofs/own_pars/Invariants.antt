-- The loop keeps that total is the sum of the diagonal's first n words, each at most the largest balance.
use Rattle.judging.proofs.Quick.{Owning}
use Rattle.judging.proofs.own_pars.Given as goal

abbrev pub invariant-loop-n : goal.invariant-loop-n
invariant-loop-n l = Owning l.balances l.total l.n
