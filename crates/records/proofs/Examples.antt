-- Document 01's example of claimrun and records that are refused, by computation: each row is written and read back, or read and refused with 5.
use mathlib.Core.Path.{◌≡◌, refl}
use mathlib.Core.Bool.{Bool, true, false, ◌&&◌}
use mathlib.Core.List.{List, [], ◌∷◌, ◌++◌}
use Prim.Native.Nat.{ℕ}
use lib.Dec.{eqb}
use lib.ListN.{replicate, take, drop}
use Rattle.lists.specs.All.{all}
use Rattle.records.specs.declared.Transfer.{Transfer}
use Rattle.records.specs.declared.Claim.{Claim}
use Rattle.records.specs.MessageRecords.{Kind, transfer_kind, close_kind, claim_kind, answer_kind, record_bytes}
use Rattle.records.specs.MessageRecords.{transfer_values, claim_values, transfer_of, claim_of, answer_of}
use Rattle.records.specs.MessageRecords.{reading, writing, first_line, second_line}
use Rattle.records.proofs.Opened.{opened_records}

-- two lists of numbers are the same
unfoldable pub same : List ℕ → List ℕ → Bool
same [] [] = true
same [] (y ∷ ys) = false
same (x ∷ xs) [] = false
same (x ∷ xs) (y ∷ ys) = eqb x y && same xs ys

-- ---- whole records

pub record Row : Type 0 where
  pub kind : Kind
  pub values : List ℕ
  pub text : List ℕ
  pub bytes : List ℕ

-- the row's bytes are its record, and reading them, with other bytes behind, answers 0 and its values
unfoldable pub holds : Row → Bool
holds r =
    same (record_bytes r.kind r.values r.text) r.bytes
    && (eqb (reading r.kind (r.bytes ++ (7 ∷ []))).number 0 && same (reading r.kind (r.bytes ++ (7 ∷ []))).values r.values)

-- the claim and the answer that claimrun writes
unfoldable pub claim_bytes : List ℕ
claim_bytes =
    33 ∷ 0 ∷ 3 ∷ 0 ∷ 1 ∷ 0 ∷ 1 ∷ 2 ∷ 0 ∷ 0 ∷ 1 ∷ 0 ∷ 0 ∷ 0 ∷ 160 ∷ 134 ∷ 1 ∷ 0 ∷ 0 ∷ 0 ∷ 0 ∷ 0 ∷ 0 ∷ 0 ∷ 0 ∷ 0 ∷ 0
    ∷ 0 ∷ 0 ∷ 0 ∷ 17 ∷ 177 ∷ 52 ∷ 1 ∷ 3 ∷ []

unfoldable pub answer_bytes : List ℕ
answer_bytes = 4 ∷ 0 ∷ 4 ∷ 0 ∷ 0 ∷ 0 ∷ []

-- the transfer that it is given: {98A:CNTR/20230315} and spaces, then a line of spaces
unfoldable pub line1 : List ℕ
line1 = (123 ∷ 57 ∷ 56 ∷ 65 ∷ 58 ∷ 67 ∷ 78 ∷ 84 ∷ 82 ∷ 47 ∷ 50 ∷ 48 ∷ 50 ∷ 51 ∷ 48 ∷ 51 ∷ 49 ∷ 53 ∷ 125 ∷ [])
    ++ replicate 45 32

unfoldable pub line2 : List ℕ
line2 = replicate 64 32

unfoldable pub transfer_bytes : List ℕ
transfer_bytes = (139 ∷ 0 ∷ 1 ∷ 0 ∷ 1 ∷ 2 ∷ 0 ∷ 0 ∷ 0 ∷ 64 ∷ 13 ∷ 3 ∷ 0 ∷ []) ++ (line1 ++ line2)

unfoldable pub wholes : List Row
wholes =
    record { kind = claim_kind; values = 1 ∷ 0 ∷ 1 ∷ 2 ∷ 0 ∷ 0 ∷ 1 ∷ 100000 ∷ 0 ∷ 20230417 ∷ 3 ∷ []; text = []; bytes = claim_bytes }
    ∷ record { kind = answer_kind; values = 0 ∷ []; text = []; bytes = answer_bytes }
    ∷ record { kind = answer_kind; values = 138 ∷ []; text = []; bytes = 4 ∷ 0 ∷ 4 ∷ 0 ∷ 138 ∷ 0 ∷ [] }
    ∷ record { kind = close_kind; values = []; text = []; bytes = 2 ∷ 0 ∷ 2 ∷ 0 ∷ [] }
    ∷ record { kind = transfer_kind; values = 1 ∷ 2 ∷ 0 ∷ 0 ∷ 0 ∷ 200000 ∷ []; text = line1 ++ line2; bytes = transfer_bytes }
    ∷ []

pub written_and_read : all holds wholes ≡ true
unfolding opened_records holds wholes claim_bytes answer_bytes transfer_bytes line1 line2 same
written_and_read = refl

-- the lines of that transfer
pub lines_read : same (first_line transfer_bytes) line1 && same (second_line transfer_bytes) line2 ≡ true
unfolding opened_records transfer_bytes line1 line2 same
lines_read = refl

-- ---- every byte at its place: bytes that count up from the header on

unfoldable pub counted : List ℕ
counted =
    1 ∷ 2 ∷ 3 ∷ 4 ∷ 5 ∷ 6 ∷ 7 ∷ 8 ∷ 9 ∷ 10 ∷ 11 ∷ 12 ∷ 13 ∷ 14 ∷ 15 ∷ 16 ∷ 17 ∷ 18 ∷ 19 ∷ 20 ∷ 21 ∷ 22 ∷ 23 ∷ 24 ∷ 25 ∷ 26
    ∷ 27 ∷ 28 ∷ 29 ∷ 30 ∷ 31 ∷ []

unfoldable pub counted_transfer : Transfer
counted_transfer = record { sender = 1; receiver = 2; security = 3; class = 4; code = 5; par = 151521030 }

unfoldable pub counted_claim : Claim
counted_claim =
    record {
      claim_type = 1;
      outcome = 2;
      payer = 3;
      payee = 4;
      security = 5;
      row = 6;
      transfer = 168364039;
      interest = record { 0 = 1301839424133073931 };
      principal = record { 0 = 1880560806837687315 };
      release = 505224219;
      slot = 31;
    }

pub record Counted : Type 0 where
  pub transfer_fields : transfer_of (139 ∷ 0 ∷ 1 ∷ 0 ∷ counted) ≡ counted_transfer
  pub transfer_bytes_lem : record_bytes transfer_kind (transfer_values counted_transfer) [] ≡ 139 ∷ 0 ∷ 1 ∷ 0 ∷ take 9 counted
  pub claim_fields : claim_of (33 ∷ 0 ∷ 3 ∷ 0 ∷ counted) ≡ counted_claim
  pub claim_bytes_lem : record_bytes claim_kind (claim_values counted_claim) [] ≡ 33 ∷ 0 ∷ 3 ∷ 0 ∷ counted
  pub answer_field : answer_of (4 ∷ 0 ∷ 4 ∷ 0 ∷ counted) ≡ record { number = 513 }

pub counted_up : Counted
unfolding opened_records counted counted_transfer counted_claim
counted_up =
    record { transfer_fields = refl; transfer_bytes_lem = refl; claim_fields = refl; claim_bytes_lem = refl; answer_field = refl }

-- ---- writing to a buffer

-- a buffer that is longer keeps the bytes behind, and one that is too short keeps all
pub record Buffers : Type 0 where
  pub longer : writing answer_kind (138 ∷ []) [] (replicate 8 9) ≡ record { number = 0; buffer = 4 ∷ 0 ∷ 4 ∷ 0 ∷ 138 ∷ 0 ∷ 9 ∷ 9 ∷ [] }
  pub exact : writing close_kind [] [] (replicate 4 9) ≡ record { number = 0; buffer = 2 ∷ 0 ∷ 2 ∷ 0 ∷ [] }
  pub shorter : writing answer_kind (138 ∷ []) [] (replicate 5 9) ≡ record { number = 10; buffer = replicate 5 9 }

pub buffers : Buffers
unfolding opened_records
buffers = record { longer = refl; exact = refl; shorter = refl }

-- ---- refusals

pub record Refusal : Type 0 where
  pub kind : Kind
  pub bytes : List ℕ

unfoldable pub refuses : Refusal → Bool
refuses r = eqb (reading r.kind r.bytes).number 5 && same (reading r.kind r.bytes).values []

unfoldable pub refusals : List Refusal
refusals =
    -- one byte short
    record { kind = claim_kind; bytes = take 34 claim_bytes }
    ∷ record { kind = answer_kind; bytes = take 5 answer_bytes }
    ∷ record { kind = transfer_kind; bytes = take 140 transfer_bytes }
    ∷ record { kind = close_kind; bytes = 2 ∷ 0 ∷ 2 ∷ [] }
    -- nothing at all
    ∷ record { kind = close_kind; bytes = [] }
    -- a wrong length, and a right one with another high byte
    ∷ record { kind = claim_kind; bytes = 34 ∷ drop 1 claim_bytes }
    ∷ record { kind = answer_kind; bytes = 4 ∷ 1 ∷ drop 2 answer_bytes }
    -- a wrong kind
    ∷ record { kind = claim_kind; bytes = 33 ∷ 0 ∷ 4 ∷ drop 3 claim_bytes }
    ∷ record { kind = transfer_kind; bytes = 139 ∷ 0 ∷ 1 ∷ 1 ∷ drop 4 transfer_bytes }
    ∷ record { kind = close_kind; bytes = 2 ∷ 0 ∷ 1 ∷ 0 ∷ [] }
    ∷ []

pub refused_with_5 : all refuses refusals ≡ true
unfolding opened_records refuses refusals claim_bytes answer_bytes transfer_bytes line1 line2 same
refused_with_5 = refl
