use native.Mathlib.Omega.{arith}
use Rattle.book.proofs.Copied.{copy_start, copy_step, copy_end}
use Rattle.book.proofs.copy.Goals as goal

pub loop-w-init : goal.loop-w-init
loop-w-init c = copy_start _ _ c.requires

pub loop-w-preserved : goal.loop-w-preserved
loop-w-preserved c = copy_step (omega (arith, c.loop-w-test.true)) c.loop-w.invariant

pub returns : goal.returns
returns c = copy_end (omega (arith, c.loop-w-test.false)) c.loop-w.invariant
