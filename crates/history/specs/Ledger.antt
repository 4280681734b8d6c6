-- The ledger of accepted calls: document 01's tally. It keeps a day and the accepted calls, each with its day, the latest first. It
-- stores no balance: the par on loan and on repo is added up anew from the accepted messages' own fields.
use Rattle.std.specs.Prelude.{Bool, cond, ◌&&◌, ◌||◌, List, [], ◌∷◌, ℕ, zero, suc, ◌+◌, ◌-◌, ◌*◌, eqb, length}
use Rattle.lists.specs.Sums.{sum}
use Rattle.days.specs.Days.{open_after}
use Rattle.records.specs.declared.Transfer.{Transfer}
use Rattle.records.specs.MessageRecords.{transfer_of}
use Rattle.claims.specs.Written.{written}
use Rattle.book.specs.declared.Book.{Book}
use Rattle.book.specs.declared.Position.{Position}
use Rattle.book.specs.Book.{layout}
use Rattle.history.specs.Calls.{Call, transfer, close, buffer_of, claims_of}
use Rattle.history.specs.Causes.{number_for}
use Rattle.history.specs.Results.{Answer}

-- An accepted call and the day on which it was accepted.
pub record Entry : Type 0 where
  pub day : ℕ
  pub call : Call

pub record Ledger : Type 0 where
  pub day : ℕ
  pub entries : List Entry

-- An accepted opening starts it with that day and no calls.
unfoldable pub started : ℕ → Ledger
started day = record { day = day; entries = [] }

-- ---- the par on loan and on repo

-- An increase from the lender to the borrower: code 1, 4 or 5 on loan, 7, 10 or 11 on repo, sent by the lender, received by the
-- borrower, in the security.
unfoldable pub is_increase : Transfer → Position → Bool
is_increase t p =
    (eqb t.security p.security && eqb t.sender p.lender && eqb t.receiver p.borrower)
    && (eqb t.code (6 * p.tracking + 1) || eqb t.code (6 * p.tracking + 4) || eqb t.code (6 * p.tracking + 5))

-- A decrease: code 2, 3 or 6 on loan, 8, 9 or 12 on repo, sent by the borrower, received by the lender, in the security.
unfoldable pub is_decrease : Transfer → Position → Bool
is_decrease t p =
    (eqb t.security p.security && eqb t.receiver p.lender && eqb t.sender p.borrower)
    && (eqb t.code (6 * p.tracking + 2) || eqb t.code (6 * p.tracking + 3) || eqb t.code (6 * p.tracking + 6))

unfoldable pub increased_by : Position → Call → ℕ
increased_by p (transfer a) = cond (is_increase (transfer_of a.message) p) (transfer_of a.message).par 0
increased_by p (close a) = 0

unfoldable pub decreased_by : Position → Call → ℕ
decreased_by p (transfer a) = cond (is_decrease (transfer_of a.message) p) (transfer_of a.message).par 0
decreased_by p (close a) = 0

-- The accepted increases and the accepted decreases of a position, each added up.
unfoldable pub increases : List Entry → Position → ℕ
increases es p = sum (λ e. increased_by p e.call) es

unfoldable pub decreases : List Entry → Position → ℕ
decreases es p = sum (λ e. decreased_by p e.call) es

-- The par that the lender has lent the borrower, in the position's tracking.
unfoldable pub par_lent : List Entry → Position → ℕ
par_lent es p = increases es p - decreases es p

-- ---- the ledger's book and balances

unfoldable pub transfer_count : Call → ℕ
transfer_count (transfer a) = 1
transfer_count (close a) = 0

-- The accepted transfers.
unfoldable pub transfers : List Entry → ℕ
transfers es = sum (λ e. transfer_count e.call) es

-- This day and the accepted transfers as the book; this par as the balances.
unfoldable pub book_of : Ledger → Book
book_of t = record { day = t.day; count = transfers t.entries }

unfoldable pub balances_of : Ledger → List ℕ
balances_of t = layout (par_lent t.entries)

-- ---- a call

-- The number of a call, with this day, this par as balances and the accepted transfers as count.
unfoldable pub number_on : List ℕ → List ℕ → Ledger → Call → ℕ
number_on calendar tables t call = number_for calendar tables (book_of t) (balances_of t) call

-- The day after an accepted call: a close moves it to the next open day.
unfoldable pub day_after : List ℕ → ℕ → Call → ℕ
day_after calendar day (transfer a) = day
day_after calendar day (close a) = open_after calendar day

-- An accepted call is kept; a refused call changes nothing.
unfoldable pub keep : ℕ → List ℕ → Ledger → Call → Ledger
keep zero calendar t call =
    record { day = day_after calendar t.day call; entries = record { day = t.day; call = call } ∷ t.entries }
keep (suc n) calendar t call = t

-- The answer to a call that got a number: an accepted call gives its claims, a refused one gives no record.
unfoldable pub answer_for : ℕ → List ℕ → List ℕ → Ledger → Call → Answer
answer_for zero calendar tables t call =
    let claims = claims_of calendar tables (book_of t) (balances_of t) call in
    record { number = 0; book = book_of (keep 0 calendar t call); claims = length claims; buffer = written claims (buffer_of call) }
answer_for (suc n) calendar tables t call = record { number = suc n; book = book_of t; claims = 0; buffer = buffer_of call }

-- ---- a list of calls

pub record Judged : Type 0 where
  pub answers : List Answer
  pub ledger : Ledger

unfoldable pub judged : List ℕ → List ℕ → Ledger → List Call → Judged
judged calendar tables t [] = record { answers = []; ledger = t }
judged calendar tables t (call ∷ calls) =
    let number = number_on calendar tables t call in
    let rest = judged calendar tables (keep number calendar t call) calls in
    record { answers = answer_for number calendar tables t call ∷ rest.answers; ledger = rest.ledger }
