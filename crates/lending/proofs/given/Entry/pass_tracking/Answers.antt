use Rattle.std.proofs.Common.{◌≡◌, ◌+◌, ◌-◌, ◌*◌, arith, rules}
use Rattle.lists.specs.Fields.{part_length}
use Rattle.claims.specs.Passes.{turn_start, turn_free, turn_end}
use Rattle.claims.proofs.Passes.{turn_step}
use Rattle.claims.proofs.Turns.{tracking_turn, small_part}
use Rattle.lending.proofs.given.Entry.pass_tracking.Goals as goal

pub loop-lender-init : goal.loop-lender-init
loop-lender-init c = turn_start _ _ 16 _ _

pub pass_lender-m-requires : goal.pass_lender-m-requires
pass_lender-m-requires c =
    let p = c.requires in
    let l = c.loop-lender.lender in
    let e : 16 * l + 16 - 16 * l ≡ 16 = omega arith in
    let h = p.0 in
    rw e (
      part_length (16 * l) 16 c.args.held.now (search rules),
      small_part (16 * l) 16 c.args.held.now p.1,
      turn_free _ (rw tracking_turn at p.2) c.loop-lender.invariant c.loop-lender-test.true,
    )

pub loop-lender-preserved : goal.loop-lender-preserved
loop-lender-preserved c =
    let l = c.loop-lender.lender in
    let d = c.pass_lender-m in
    let e : 16 * l + 16 - 16 * l ≡ 16 = omega arith in
    turn_step _ (rw tracking_turn at c.requires.2) c.loop-lender.invariant c.loop-lender-test.true (rw e at d.ensures) d.auto.buffer

pub returns : goal.returns
returns c = rw tracking_turn (turn_end _ (rw tracking_turn at c.requires.2) c.loop-lender.invariant c.loop-lender-test.false)
