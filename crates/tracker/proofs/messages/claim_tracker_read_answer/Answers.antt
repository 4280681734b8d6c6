-- The answer is the definition's, by what the reader of records finds.
use Rattle.records.specs.Refusals.{refusal_number}
use Rattle.tracker.proofs.Readings.{answer_read, answer_refused}
use Rattle.tracker.proofs.messages.claim_tracker_read_answer.Goals as goal

pub returns-in-Some : goal.returns-in-Some
returns-in-Some c = answer_read _ c.read_answer.ensures c.in-Some.is

pub returns-in-None : goal.returns-in-None
unfolding refusal_number
returns-in-None c = rw (c.number.ensures, c.default.ensures) (answer_refused _ c.read_answer.ensures c.in-None.is)
