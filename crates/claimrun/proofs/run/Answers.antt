-- The loop's first turn, and the next one from a read and a step.
use Rattle.std.proofs.Common.{rules}
use Rattle.claimrun.proofs.Loop.{looping_first, looping_read, looping_step}
use Rattle.claimrun.proofs.run.Goals as goal

pub loop-init : goal.loop-init
loop-init g c = looping_first _ _ _ _ _ _ (search rules) (search rules)

pub loop-preserved : goal.loop-preserved
loop-preserved g c =
    looping_step (looping_read c.loop.invariant c.read_in.new.buf (search rules)) _ (search rules) c.in-Some.ensures.1 _ _ _ _
    c.step-held.ensures (search rules) (search rules) (search rules)
