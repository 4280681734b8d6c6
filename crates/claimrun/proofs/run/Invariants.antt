-- Each turn writes, reads and takes a step; what is held is what the steps left.
use Rattle.program.specs.Steps.{holding}
use Rattle.claimrun.proofs.Loop.{Looping}
use Rattle.claimrun.proofs.run.Given as goal

abbrev pub invariant-loop : goal.invariant-loop
invariant-loop g l = Looping l.calendar l.tables (holding l.initial.held l.initial.balances l.initial.input l.initial.output) l.initial.balances l.initial.input l.initial.output l.balances l.input l.output l.held
