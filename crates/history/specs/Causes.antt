-- Document 01, section What can be refused, and document 02, cards 5, 6 and 7: the causes of each call in the papers' order, in groups, and the
-- number of the first.
use Rattle.std.specs.Prelude.{Bool, not, ◌||◌, List, [], ◌∷◌, ◌++◌, ℕ, ◌*◌, eqb, ltb, leb, length}
use Rattle.lists.specs.First.{Cause, cause, first_of}
use Rattle.days.specs.Days.{open_after}
use Rattle.records.specs.declared.Claim.{Claim}
use Rattle.records.specs.declared.Transfer.{Transfer}
use Rattle.records.specs.MessageRecords.{Kind, transfer_kind, close_kind, transfer_of, reads}
use Rattle.securities.specs.Securities.{security_of, type_of}
use Rattle.tags.specs.declared.Tag.{Tag}
use Rattle.tags.specs.ContractDateTag.{edit_causes}
use Rattle.claims.specs.Fails.{contract_tag}
use Rattle.claims.specs.Written.{claim_size}
use Rattle.book.specs.declared.Book.{Book}
use Rattle.book.specs.Loans.{posting_causes}
use Rattle.book.specs.Soundness.{book_causes, lent_book_causes, opening_causes}
use Rattle.history.specs.Calls.{Call, transfer, close, claims_of}

-- The record is cut short, or its length or kind is wrong for the call: number 5.
unfoldable pub record_causes : Kind → List ℕ → List Cause
record_causes kind message = cause 5 (not (reads kind message)) ∷ []

-- A transfer's par is 1 to 100,000,000.
abbrev pub largest_par : ℕ
largest_par = 100000000

-- Account, security (or unused), class, code over 12 or par out of range; sender = receiver: number 6.
unfoldable pub out_of_range : List ℕ → Transfer → Bool
out_of_range tables t =
    leb 16 t.sender || leb 16 t.receiver || leb 16 t.security || eqb (type_of (security_of tables t.security)) 0
    || ltb 1 t.class || ltb 12 t.code || eqb t.par 0 || ltb largest_par t.par || eqb t.sender t.receiver

unfoldable pub field_causes : List ℕ → Transfer → List Cause
field_causes tables t = cause 6 (out_of_range tables t) ∷ []

-- The count is already 4,294,967,295: number 11.
abbrev pub largest_count : ℕ
largest_count = 4294967295

unfoldable pub count_causes : ℕ → List Cause
count_causes count = cause 11 (leb largest_count count) ∷ []

-- No open day after E, the next open day: number 9.
unfoldable pub last_day_causes : List ℕ → ℕ → List Cause
last_day_causes calendar day = cause 9 (eqb (open_after calendar (open_after calendar day)) 0) ∷ []

-- The claims don't fit the claim buffer: number 10.
abbrev pub no_room : List Claim → List ℕ → Bool
no_room claims buffer = ltb (length buffer) (claim_size * length claims)

unfoldable pub room_causes : List Claim → List ℕ → List Cause
room_causes claims buffer = cause 10 (no_room claims buffer) ∷ []

-- ---- the causes of a call

-- Those of a transfer that reads, by its fields and its tag, before room is asked for.
unfoldable pub transfer_causes : List ℕ → List ℕ → Book → List ℕ → Transfer → Tag → List Cause
transfer_causes tables pieces book balances t tag =
    field_causes tables t
    ++ (edit_causes tag t.class book.day
    ++ (count_causes book.count
    ++ posting_causes pieces book.day balances t))

-- Those behind the causes of what it is lent.
unfoldable pub call_causes : List ℕ → List ℕ → Book → List ℕ → Call → List Cause
call_causes calendar tables book balances (transfer a) =
    record_causes transfer_kind a.message
    ++ (transfer_causes tables a.pieces book balances (transfer_of a.message) (contract_tag book.day a.message)
    ++ room_causes (claims_of calendar tables book balances (transfer a)) a.buffer)
call_causes calendar tables book balances (close a) =
    record_causes close_kind a.message
    ++ (last_day_causes calendar book.day
    ++ room_causes (claims_of calendar tables book balances (close a)) a.buffer)

-- Numbers 1 to 4, for a transfer with 12 and 13 after 3: what the call is lent is sound where none applies.
unfoldable pub sound_causes : List ℕ → List ℕ → ℕ → List ℕ → Call → List Cause
sound_causes calendar tables day balances (transfer a) = lent_book_causes calendar tables a.limits a.pieces day balances
sound_causes calendar tables day balances (close a) = book_causes calendar tables day balances

unfoldable pub causes : List ℕ → List ℕ → Book → List ℕ → Call → List Cause
causes calendar tables book balances call =
    sound_causes calendar tables book.day balances call ++ call_causes calendar tables book balances call

-- The number of a call: that of its first cause that applies, 0 if none does.
unfoldable pub number_for : List ℕ → List ℕ → Book → List ℕ → Call → ℕ
number_for calendar tables book balances call = first_of (causes calendar tables book balances call)

unfoldable pub opening_number : List ℕ → List ℕ → List ℕ → ℕ → ℕ
opening_number calendar tables balances day = first_of (opening_causes calendar tables balances day)
