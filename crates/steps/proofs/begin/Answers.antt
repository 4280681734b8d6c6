-- The size is judged, then the opening.
use Rattle.records.specs.Refusals.{refusal_number}
use Rattle.program.proofs.Coded.{begins_refused, begins_opened, begins_number}
use Rattle.steps.proofs.begin.Goals as goal

pub returns-then-file-ne-BOOK_BYTES : goal.returns-then-file-ne-BOOK_BYTES
unfolding refusal_number
returns-then-file-ne-BOOK_BYTES c = begins_refused _ _ _ _ _ c.if-file-ne-BOOK_BYTES.true _ _ (rw c.number.ensures at c.refuse.ensures)

pub returns-then-done-ne0 : goal.returns-then-done-ne0
returns-then-done-ne0 c =
    let l = c.load-day.ensures in
    begins_number _ _ _ _ _ c.if-file-ne-BOOK_BYTES.false _ _ _ _ _ l.0 l.1 l.2 c.open-done.ensures.0 c.if-done-ne0.true _ _ c.refuse-then-done-ne0.ensures

pub returns : goal.returns
returns c =
    let l = c.load-day.ensures in
    begins_opened _ _ _ _ _ c.if-file-ne-BOOK_BYTES.false _ _ _ _ _ l.0 l.1 l.2 c.open-done.ensures.0 c.if-done-ne0.false
