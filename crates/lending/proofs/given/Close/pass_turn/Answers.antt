-- The three cases of a row: on or before the day, after the next open day, crossed.
use Rattle.claims.specs.Passes.{passed_nothing}
use Rattle.claims.proofs.Turns.{turn_early, turn_late, turn_crossed, crossed_ready}
use Rattle.lending.proofs.given.Close.pass_turn.Goals as goal
use Rattle.lending.proofs.given.Close.pass_turn.Goals.{else-self-row-via-then-self-row+else-row-self, else-self-row-via-else-self-row}

pub pass_row-requires : goal.pass_row-requires
pass_row-requires c =
    let p = c.requires in
    (crossed_ready _ _ _ _ _ _ p.0 c.if-self-row.true c.if-row-self.true, rw (turn_crossed _ _ _ _ _ _ c.args.row c.if-self-row.true c.if-row-self.true) at p.1)

pub returns-then-row-self : goal.returns-then-row-self
returns-then-row-self c = rw (turn_crossed _ _ _ _ _ _ c.args.row c.if-self-row.true c.if-row-self.true) c.pass_row.ensures

pub returns-else-self-row : goal.returns-else-self-row
returns-else-self-row c =
    passed_nothing _ _ _ _
    (elim c.else-self-row.branch [
      | else-self-row-via-then-self-row+else-row-self w ↦ turn_late _ _ _ _ _ _ _ w.if-self-row.true w.if-row-self.false
      | else-self-row-via-else-self-row w ↦ turn_early _ _ _ _ _ _ _ w.if-self-row.false
    ])
