-- The four kinds of message record: a two-byte length of what follows, a two-byte kind, then the body.
-- The body is numbers, each in a width of its own, lowest byte first; a transfer has two lines of free text behind them.
use Rattle.std.specs.Prelude.{Bool, true, false, Option, Some, None, Result, cond, ◌&&◌, List, [], ◌∷◌, ◌++◌, ℕ, ◌+◌, leb, eqb, length, drop}
use Rattle.lists.specs.Numbers.{number_of}
use Rattle.lists.specs.Fields.{part, encode, decode}
use Rattle.records.specs.declared.Transfer.{Transfer}
use Rattle.records.specs.declared.Claim.{Claim}
use Rattle.records.specs.declared.Answer.{Answer}
use Rattle.records.specs.Refusals.{judged_number}
use Rattle.records.specs.declared.Refusal.{Refusal}

-- ---- the kinds

-- A kind of record: its number, the length of what follows the length field, the widths of the numbers behind the
-- header, and how many bytes of free text stand behind these.
pub record Kind : Type 0 where
  pub kind : ℕ
  pub following : ℕ
  pub widths : List ℕ
  pub text : ℕ

-- Sender, receiver, security, class and tracking code, par; two lines of 64 bytes.
unfoldable pub transfer_kind : Kind
transfer_kind = record { kind = 1; following = 139; widths = 1 ∷ 1 ∷ 1 ∷ 1 ∷ 1 ∷ 4 ∷ []; text = 128 }

unfoldable pub close_kind : Kind
close_kind = record { kind = 2; following = 2; widths = []; text = 0 }

-- Claim type, outcome, payer, payee, security and row; transfer number; interest and principal in cents; release date; slot.
unfoldable pub claim_kind : Kind
claim_kind = record { kind = 3; following = 33; widths = 1 ∷ 1 ∷ 1 ∷ 1 ∷ 1 ∷ 1 ∷ 4 ∷ 8 ∷ 8 ∷ 4 ∷ 1 ∷ []; text = 0 }

-- The answer's number.
unfoldable pub answer_kind : Kind
answer_kind = record { kind = 4; following = 4; widths = 2 ∷ []; text = 0 }

-- The bytes of a whole record: the length field counts all but its own two.
unfoldable pub size : Kind → ℕ
size k = 2 + k.following

-- ---- the bytes of a record

unfoldable pub record_bytes : Kind → List ℕ → List ℕ → List ℕ
record_bytes k values text = encode (2 ∷ 2 ∷ k.widths) (k.following ∷ k.kind ∷ values) ++ text

-- The numbers of a record, in its order.
unfoldable pub transfer_values : Transfer → List ℕ
transfer_values t = t.sender ∷ t.receiver ∷ t.security ∷ t.class ∷ t.code ∷ t.par ∷ []

unfoldable pub claim_values : Claim → List ℕ
claim_values c =
    c.claim_type ∷ c.outcome ∷ c.payer ∷ c.payee ∷ c.security ∷ c.row ∷ c.transfer ∷ c.interest.0 ∷ c.principal.0
    ∷ c.release ∷ c.slot ∷ []

unfoldable pub answer_values : Answer → List ℕ
answer_values a = a.number ∷ []

-- ---- what stands in bytes

unfoldable pub transfer_of : List ℕ → Transfer
transfer_of s =
    record {
      sender = number_of (part 4 1 s);
      receiver = number_of (part 5 1 s);
      security = number_of (part 6 1 s);
      class = number_of (part 7 1 s);
      code = number_of (part 8 1 s);
      par = number_of (part 9 4 s);
    }

unfoldable pub claim_of : List ℕ → Claim
claim_of s =
    record {
      claim_type = number_of (part 4 1 s);
      outcome = number_of (part 5 1 s);
      payer = number_of (part 6 1 s);
      payee = number_of (part 7 1 s);
      security = number_of (part 8 1 s);
      row = number_of (part 9 1 s);
      transfer = number_of (part 10 4 s);
      interest = record { 0 = number_of (part 14 8 s) };
      principal = record { 0 = number_of (part 22 8 s) };
      release = number_of (part 30 4 s);
      slot = number_of (part 34 1 s);
    }

unfoldable pub answer_of : List ℕ → Answer
answer_of s = record { number = number_of (part 4 2 s) }

-- The two lines of free text of a transfer.
unfoldable pub first_line : List ℕ → List ℕ
first_line s = part 13 64 s

unfoldable pub second_line : List ℕ → List ℕ
second_line s = part 77 64 s

-- ---- reading

-- Whether the first four bytes are the length and kind of a record.
unfoldable pub header : ℕ → ℕ → List ℕ → Bool
header following kind s = eqb (number_of (part 0 2 s)) following && eqb (number_of (part 2 2 s)) kind

-- Whether the bytes begin with a record of the kind: it is not cut short, and length and kind are right for it.
unfoldable pub headed : ℕ → ℕ → List ℕ → Bool
headed following kind s = leb (2 + following) (length s) && header following kind s

unfoldable pub reads : Kind → List ℕ → Bool
reads k s = headed k.following k.kind s

-- What reading answers: a number, and the values of the fields.
pub record Reading : Type 0 where
  pub number : ℕ
  pub values : List ℕ

-- Reading refuses with 5 and no fields, and judges no field.
unfoldable pub reading : Kind → List ℕ → Reading
reading k s = cond (reads k s) (record { number = 0; values = decode k.widths 4 s }) (record { number = 5; values = [] })

-- The number and the values of each answer of a reader.
unfoldable pub transfer_answer : Option Transfer → Reading
transfer_answer (Some t) = record { number = 0; values = transfer_values t }
transfer_answer None = record { number = 5; values = [] }

unfoldable pub close_answer : Bool → Reading
close_answer true = record { number = 0; values = [] }
close_answer false = record { number = 5; values = [] }

unfoldable pub claim_answer : Option Claim → Reading
claim_answer (Some c) = record { number = 0; values = claim_values c }
claim_answer None = record { number = 5; values = [] }

unfoldable pub answer_answer : Option Answer → Reading
answer_answer (Some a) = record { number = 0; values = answer_values a }
answer_answer None = record { number = 5; values = [] }

-- ---- writing

-- What writing answers and leaves: a number, and the buffer.
pub record Writing : Type 0 where
  pub number : ℕ
  pub buffer : List ℕ

-- The record stands at the buffer's start, and the bytes behind it are untouched; writing refuses with 10, for too short
-- a buffer, which it leaves as it was.
unfoldable pub writing : Kind → List ℕ → List ℕ → List ℕ → Writing
writing k values text buffer =
    cond (leb (size k) (length buffer))
    (record { number = 0; buffer = record_bytes k values text ++ drop (size k) buffer })
    (record { number = 10; buffer = buffer })

-- The number of each answer of a writer.
abbrev pub wrote_number : Result Unit Refusal → ℕ
wrote_number r = judged_number r
