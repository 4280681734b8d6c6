use native.Mathlib.Omega.{arith}
use Rattle.book_file.proofs.Words.{fill_start, fill_step, fill_end}
use Rattle.book_file.proofs.take_words.Goals as goal

pub loop-i-init : goal.loop-i-init
loop-i-init c = fill_start _ _ _

pub loop-i-preserved : goal.loop-i-preserved
loop-i-preserved c =
    fill_step (omega (arith, c.loop-i-test.true, c.loop-i.invariant.sized)) c.u32_at.ensures c.loop-i.invariant

pub returns : goal.returns
returns c = fill_end (omega (arith, c.loop-i-test.false, c.loop-i.invariant.sized)) c.loop-i.invariant
