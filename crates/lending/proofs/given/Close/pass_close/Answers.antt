use Rattle.claims.specs.Passes.{turn_start, turn_free, turn_end}
use Rattle.claims.proofs.Passes.{turn_step}
use Rattle.claims.proofs.Turns.{close_turns}
use Rattle.lending.proofs.given.Close.pass_close.Goals as goal

pub loop-security-init : goal.loop-security-init
loop-security-init c = turn_start _ _ 16 _ _

pub pass_security-m-requires : goal.pass_security-m-requires
pass_security-m-requires c = (c.loop-security-test.true, turn_free _ (rw close_turns at c.requires) c.loop-security.invariant c.loop-security-test.true)

pub loop-security-preserved : goal.loop-security-preserved
loop-security-preserved c =
    let d = c.pass_security-m in
    turn_step _ (rw close_turns at c.requires) c.loop-security.invariant c.loop-security-test.true d.ensures d.auto.buffer

pub returns : goal.returns
returns c = rw close_turns (turn_end _ (rw close_turns at c.requires) c.loop-security.invariant c.loop-security-test.false)
