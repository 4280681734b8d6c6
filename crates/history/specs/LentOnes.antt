-- Document 02, card 6: histories from before keep their meaning. Their calls were lent no pieces and knew no numbers 13 and 14; they count
-- as lent ones. Whatever the calendar, tables, book and balances: such a call gives the answer and leaves the claim buffer and the balances
-- that the table without 13 and 14 gives, and so does a list of such calls.
use Rattle.std.specs.Prelude.{◌≡◌, false, List, map, ℕ}
use Rattle.lists.specs.First.{first_of, applies_at, without}
use Rattle.securities.specs.Lent.{ones}
use Rattle.book.specs.declared.Book.{Book}
use Rattle.history.specs.Calls.{Call, transfer, close}
use Rattle.history.specs.Causes.{causes}
use Rattle.history.specs.Results.{Result, result_for, run_by, run}

-- A call from before, as one that is lent ones.
unfoldable pub lent_ones : Call → Call
lent_ones (transfer a) = transfer (record { message = a.message; buffer = a.buffer; limits = a.limits; pieces = ones })
lent_ones (close a) = close a

-- Its number before there were pieces, that of the table without 13 and 14, and its result with that number: no other part of a result looks
-- at the pieces.
unfoldable pub number_before : List ℕ → List ℕ → Book → List ℕ → Call → ℕ
number_before calendar tables book balances call = first_of (without 14 (without 13 (causes calendar tables book balances call)))

unfoldable pub result_before : List ℕ → List ℕ → Book → List ℕ → Call → Result
result_before calendar tables book balances call =
    result_for (number_before calendar tables book balances call) calendar tables book balances call

-- Lent ones, a call meets neither 13 nor 14.
abbrev pub OnesMeetNeither : Type 0
OnesMeetNeither = (calendar tables : List ℕ) (book : Book) (balances : List ℕ) (call : Call)
    → (applies_at 13 (causes calendar tables book balances (lent_ones call)) ≡ false)
    × (applies_at 14 (causes calendar tables book balances (lent_ones call)) ≡ false)

-- Every list of calls from before runs as it did.
abbrev pub EveryListFromBefore : Type 0
EveryListFromBefore = (calendar tables : List ℕ) (book : Book) (balances : List ℕ) (calls : List Call)
    → run calendar tables book balances (map lent_ones calls) ≡ run_by (result_before calendar tables) book balances calls
