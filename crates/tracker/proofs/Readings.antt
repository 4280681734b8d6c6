-- What the exported readers answer where a record is found and where it is refused, and the copy of a line of free text.
use mathlib.Core.Path.{◌≡◌, sym, ap, ◌∙◌}
use mathlib.Core.Bool.{Bool, true, false}
use mathlib.Core.List.{List}
use Prim.Native.Nat.{ℕ}
use lib.ListN.{replicate}
use Rattle.lists.specs.Tests.{cond_true, cond_false}
use Rattle.records.specs.declared.Transfer.{Transfer}
use Rattle.records.specs.declared.Claim.{Claim}
use Rattle.records.specs.declared.Answer.{Answer}
use Rattle.std.proofs.Common.{Option, Some, None}
use Rattle.records.specs.MessageRecords.{Reading, transfer_kind, close_kind, claim_kind, answer_kind, first_line, second_line}
use Rattle.records.specs.MessageRecords.{reading, transfer_answer, close_answer, claim_answer, answer_answer}
use Rattle.records.proofs.Answers.{transfer_is, transfer_not, claim_is, claim_not, answer_is, answer_not}
use Rattle.tracker.specs.declared.messages.TransferReading.{TransferReading}
use Rattle.tracker.specs.declared.messages.ClaimReading.{ClaimReading}
use Rattle.tracker.specs.declared.messages.AnswerReading.{AnswerReading}
use Rattle.tracker.specs.Readings.{no_line, transfer_reading, claim_reading, answer_reading}

-- ---- the four kinds

module _ (s : List ℕ) where
  pub transfer_read : {r : Option Transfer} {t : Transfer} {a b : List ℕ} → transfer_answer r ≡ reading transfer_kind s → r ≡ Some t
      → a ≡ first_line s → b ≡ second_line s
      → ◌≡◌ {A = TransferReading} (record { number = 0; transfer = t; first_line = a; second_line = b }) (transfer_reading s)
  unfolding transfer_reading
  transfer_read {r} {t} {a} {b} e q x y =
      let f = transfer_is s e q in
      (λ i. record { number = 0; transfer = f.same i; first_line = x i; second_line = y i }) ∙ sym (cond_true _ _ f.whole)

  pub transfer_refused : {r : Option Transfer} → transfer_answer r ≡ reading transfer_kind s → r ≡ None
      → ◌≡◌ {A = TransferReading}
      (record {
        number = 5;
        transfer = record { sender = 0; receiver = 0; security = 0; class = 0; code = 0; par = 0 };
        first_line = replicate 64 0;
        second_line = replicate 64 0;
      }) (transfer_reading s)
  unfolding transfer_reading no_line
  transfer_refused e q = sym (cond_false _ _ (transfer_not s e q))

  pub close_read : {b : Bool} → close_answer b ≡ reading close_kind s → b ≡ true → ◌≡◌ {A = ℕ} 0 (reading close_kind s).number
  unfolding close_answer
  close_read e q = ap (λ (x : Reading). x.number) (sym (ap close_answer q) ∙ e)

  pub close_refused : {b : Bool} → close_answer b ≡ reading close_kind s → b ≡ false → ◌≡◌ {A = ℕ} 5 (reading close_kind s).number
  unfolding close_answer
  close_refused e q = ap (λ (x : Reading). x.number) (sym (ap close_answer q) ∙ e)

  pub claim_read : {r : Option Claim} {c : Claim} → claim_answer r ≡ reading claim_kind s → r ≡ Some c
      → ◌≡◌ {A = ClaimReading} (record { number = 0; claim = c }) (claim_reading s)
  unfolding claim_reading
  claim_read {r} {c} e q =
      let f = claim_is s e q in
      (λ i. record { number = 0; claim = f.same i }) ∙ sym (cond_true _ _ f.whole)

  pub claim_refused : {r : Option Claim} → claim_answer r ≡ reading claim_kind s → r ≡ None
      → ◌≡◌ {A = ClaimReading}
      (record {
        number = 5;
        claim = record {
          claim_type = 0;
          outcome = 0;
          payer = 0;
          payee = 0;
          security = 0;
          row = 0;
          transfer = 0;
          interest = record { 0 = 0 };
          principal = record { 0 = 0 };
          release = 0;
          slot = 0;
        };
      }) (claim_reading s)
  unfolding claim_reading
  claim_refused e q = sym (cond_false _ _ (claim_not s e q))

  pub answer_read : {r : Option Answer} {a : Answer} → answer_answer r ≡ reading answer_kind s → r ≡ Some a
      → ◌≡◌ {A = AnswerReading} (record { number = 0; answer = a }) (answer_reading s)
  unfolding answer_reading
  answer_read {r} {a} e q =
      let f = answer_is s e q in
      (λ i. record { number = 0; answer = f.same i }) ∙ sym (cond_true _ _ f.whole)

  pub answer_refused : {r : Option Answer} → answer_answer r ≡ reading answer_kind s → r ≡ None
      → ◌≡◌ {A = AnswerReading} (record { number = 5; answer = record { number = 0 } }) (answer_reading s)
  unfolding answer_reading
  answer_refused e q = sym (cond_false _ _ (answer_not s e q))
