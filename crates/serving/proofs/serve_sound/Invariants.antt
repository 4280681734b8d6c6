-- Each turn works one record; what is left of the definition is kept, and each return is its end.
use Prim.Native.Nat.{◌-◌}
use lib.ListN.{length}
use Rattle.stream.proofs.Runs.{Going}
use Rattle.serving.proofs.serve_sound.Given as goal

abbrev pub invariant-loop-output : goal.invariant-loop-output
invariant-loop-output l = Going l.market.calendar l.market.tables l.ended l.initial.b l.initial.balances l.input l.initial.output l.balances l.output l.b l.at l.out

abbrev pub decreases-loop-output : goal.decreases-loop-output
decreases-loop-output l = length l.input - l.at
