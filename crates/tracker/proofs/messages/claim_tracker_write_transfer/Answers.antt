-- The number and the buffer are the definition's, by what the writer of records does.
use Rattle.tracker.proofs.messages.claim_tracker_write_transfer.Goals as goal

pub returns : goal.returns
returns c = rw c.answered_number.ensures c.write_transfer.ensures
