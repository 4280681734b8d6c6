-- A row that is not claimed adds nothing; of another the claim is counted, or stored at its place.
use Rattle.std.proofs.Common.{rules}
use Rattle.claims.specs.Passes.{passed_nothing, passed_store, room_one}
use Rattle.fails.proofs.Turns.{row_none, row_claim, row_counted, row_count, rows_start, rows_free, rows_step, rows_end}
use Rattle.fails.proofs.transfer_claims.Goals as goal
use Rattle.fails.proofs.transfer_claims.Goals.{in-Some, then-write, else-write, in_default}

pub loop-index-init : goal.loop-index-init
loop-index-init c = rows_start _ _ _ _ _ _ _ _

pub put_claim-requires : goal.put_claim-requires
put_claim-requires c =
    let s = c in
    let free = rows_free _ _ _ _ _ _ _ c.requires.3 c.loop-index.invariant c.loop-index.auto.index c.loop-index-test.true in
    room_one _ _ _ _
    (row_claim _ _ _ _ _ _ _ s.row-row.ensures s.due_type.ensures s.in-Some.is s.dollars.ensures (rw s.number.ensures at s.claim_on-c.ensures))
    (free.room c.if-write.true)

pub overflow_add-n : goal.overflow_add-n
overflow_add-n c =
    let s = c in
    let free = rows_free _ _ _ _ _ _ _ c.requires.3 c.loop-index.invariant c.loop-index.auto.index c.loop-index-test.true in
    let few = row_counted _ _ _ _ _ _ _ s.row-row.ensures s.due_type.ensures s.in-Some.is free in
    search rules

pub loop-index-preserved : goal.loop-index-preserved
loop-index-preserved c =
    let s = c in
    rows_step _ _ _ _ _ _ _ c.requires.3 c.loop-index.invariant c.loop-index.auto.index c.loop-index-test.true
    (elim c.match-due_type.branch [
      | in-Some w ↦ rw (w.buffer-is, w.n-is) (elim w.if-write.branch [
        | then-write w' ↦ rw w'.buffer-is (passed_store _ _ _ _ _ _ w'.if-write.true
            (row_claim _ _ _ _ _ _ _ s.row-row.ensures s.due_type.ensures w.in-Some.is w'.dollars.ensures (rw w'.number.ensures at w'.claim_on-c.ensures))
            w'.put_claim.ensures)
        | else-write w' ↦ rw w'.buffer-is (row_count _ _ _ _ _ _ _ s.row-row.ensures s.due_type.ensures w.in-Some.is _ w'.if-write.false)
      ])
      | in_default w ↦ rw (w.buffer-is, w.n-is) (passed_nothing _ _ _ _ (row_none _ _ _ _ _ _ _ s.row-row.ensures s.due_type.ensures w.in_default.not-Some))
    ]) c.match-due_type.auto.buffer

pub returns : goal.returns
returns c = rows_end _ _ _ _ _ _ _ c.requires.3 c.loop-index.invariant c.loop-index-test.false
