-- The answer is the definition's, by what the reader of records finds.
use mathlib.Core.Path.{◌∙◌}
use Rattle.records.specs.Refusals.{refusal_number}
use Rattle.tracker.proofs.Readings.{claim_read, claim_refused}
use Rattle.tracker.proofs.messages.claim_tracker_read_claim.Goals as goal

pub returns-in-Some : goal.returns-in-Some
returns-in-Some c = claim_read _ c.read_claim.ensures c.in-Some.is

pub returns-in-None : goal.returns-in-None
unfolding refusal_number
returns-in-None c =
    let z = c.default.ensures in
    (λ i. record {
      number = c.number.ensures i;
      claim = record {
        claim_type = z.0 i;
        outcome = z.1.0 i;
        payer = z.1.1.0 i;
        payee = z.1.1.1.0 i;
        security = z.1.1.1.1.0 i;
        row = z.1.1.1.1.1.0 i;
        transfer = z.1.1.1.1.1.1.0 i;
        interest = record { 0 = z.1.1.1.1.1.1.1.0 i };
        principal = record { 0 = z.1.1.1.1.1.1.1.1.0 i };
        release = z.1.1.1.1.1.1.1.1.1.0 i;
        slot = z.1.1.1.1.1.1.1.1.1.1 i;
      };
    })
    ∙ claim_refused _ c.read_claim.ensures c.in-None.is
