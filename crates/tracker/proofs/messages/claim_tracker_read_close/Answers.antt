-- The number is the definition's, by what the reader of records finds.
use mathlib.Core.Path.{◌∙◌}
use Rattle.records.specs.Refusals.{refusal_number}
use Rattle.tracker.proofs.Readings.{close_read, close_refused}
use Rattle.tracker.proofs.messages.claim_tracker_read_close.Goals as goal

pub returns-then-read_close : goal.returns-then-read_close
returns-then-read_close c = close_read _ c.read_close.ensures c.if-read_close.true

pub returns-else-read_close : goal.returns-else-read_close
unfolding refusal_number
returns-else-read_close c = c.number.ensures ∙ close_refused _ c.read_close.ensures c.if-read_close.false
