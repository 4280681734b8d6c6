-- What the exported readers answer (document 01, section Message records): number and fields beside each other. A reader refuses with 5
-- and no fields: then every field is zero.
use Rattle.std.specs.Prelude.{cond, List, ℕ, replicate}
use Rattle.records.specs.MessageRecords.{transfer_kind, claim_kind, answer_kind, transfer_of, claim_of, answer_of, first_line, second_line, reads}
use Rattle.tracker.specs.declared.messages.TransferReading.{TransferReading}
use Rattle.tracker.specs.declared.messages.ClaimReading.{ClaimReading}
use Rattle.tracker.specs.declared.messages.AnswerReading.{AnswerReading}

-- A line of free text of zeros.
unfoldable pub no_line : List ℕ
no_line = replicate 64 0

unfoldable pub transfer_reading : List ℕ → TransferReading
transfer_reading s =
    cond (reads transfer_kind s)
    (record { number = 0; transfer = transfer_of s; first_line = first_line s; second_line = second_line s })
    (record {
      number = 5;
      transfer = record { sender = 0; receiver = 0; security = 0; class = 0; code = 0; par = 0 };
      first_line = no_line;
      second_line = no_line;
    })

unfoldable pub claim_reading : List ℕ → ClaimReading
claim_reading s =
    cond (reads claim_kind s)
    (record { number = 0; claim = claim_of s })
    (record {
      number = 5;
      claim = record {
        claim_type = 0;
        outcome = 0;
        payer = 0;
        payee = 0;
        security = 0;
        row = 0;
        transfer = 0;
        interest = record { 0 = 0 };
        principal = record { 0 = 0 };
        release = 0;
        slot = 0;
      };
    })

unfoldable pub answer_reading : List ℕ → AnswerReading
answer_reading s = cond (reads answer_kind s) (record { number = 0; answer = answer_of s }) (record { number = 5; answer = record { number = 0 } })
