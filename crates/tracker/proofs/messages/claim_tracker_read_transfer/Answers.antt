-- The answer is the definition's, by what the reader of records finds; a record that is found is long enough for its two lines.
use mathlib.Core.Path.{ap, ◌∙◌}
use lib.ListN.{length, replicate}
use Rattle.records.specs.Refusals.{refusal_number}
use Rattle.records.proofs.Answers.{transfer_is}
use Rattle.records.proofs.Readings.{first_line_length, second_line_length}
use Rattle.tracker.proofs.Readings.{transfer_read, transfer_refused}
use Rattle.tracker.proofs.messages.claim_tracker_read_transfer.Goals as goal

pub returns-in_default : goal.returns-in_default
unfolding refusal_number
returns-in_default c =
    let z = c.default.ensures in
    (λ i. record {
      number = c.number.ensures i;
      transfer = record { sender = z.0 i; receiver = z.1.0 i; security = z.1.1.0 i; class = z.1.1.1.0 i; code = z.1.1.1.1.0 i; par = z.1.1.1.1.1 i };
      first_line = replicate 64 0;
      second_line = replicate 64 0;
    })
    ∙ transfer_refused _ c.read_transfer.ensures c.in_default.is

pub first_line-requires : goal.first_line-requires
first_line-requires c = (transfer_is _ c.read_transfer.ensures c.in-Some.is).long

pub line_of-requires : goal.line_of-requires
line_of-requires c = ap length c.first_line.ensures ∙ first_line_length _ (transfer_is _ c.read_transfer.ensures c.in-Some.is).long

pub second_line-requires : goal.second_line-requires
second_line-requires c = (transfer_is _ c.read_transfer.ensures c.in-Some.is).long

pub line_of-requires-2 : goal.line_of-requires-2
line_of-requires-2 c = ap length c.second_line.ensures ∙ second_line_length _ (transfer_is _ c.read_transfer.ensures c.in-Some.is).long

pub returns : goal.returns
returns c =
    transfer_read _ c.read_transfer.ensures c.in-Some.is (c.line_of.ensures ∙ c.first_line.ensures) (c.line_of-2.ensures ∙ c.second_line.ensures)
