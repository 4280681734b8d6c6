-- What opening, transfer and close answer and leave, on any book and balances: the equations of the calls' contracts. Then a list of
-- calls, each on the book and balances that the last one left.
use Rattle.std.specs.Prelude.{◌≡◌, List, [], ◌∷◌, ◌++◌, ℕ, zero, suc, ◌+◌, length, replicate}
use Rattle.days.specs.Days.{first_date, open_after}
use Rattle.records.specs.declared.Claim.{Claim}
use Rattle.records.specs.MessageRecords.{transfer_of}
use Rattle.claims.specs.Written.{written}
use Rattle.book.specs.declared.Book.{Book}
use Rattle.book.specs.declared.Done.{Done}
use Rattle.book.specs.Loans.{change_of, changed}
use Rattle.history.specs.Calls.{Call, transfer, close, buffer_of, claims_of}
use Rattle.history.specs.Causes.{number_for, opening_number}

-- Number, returned book, how many claims were written, and the claim buffer after the call.
pub record Answer : Type 0 where
  pub number : ℕ
  pub book : Book
  pub claims : ℕ
  pub buffer : List ℕ

-- What a call answers, and the balances after it.
pub record Result : Type 0 where
  pub answer : Answer
  pub balances : List ℕ

-- The book after an accepted call: a transfer counts, a close moves the day to the next open day.
unfoldable pub next_book : List ℕ → Book → Call → Book
next_book calendar book (transfer a) = record { day = book.day; count = book.count + 1 }
next_book calendar book (close a) = record { day = open_after calendar book.day; count = book.count }

-- The balances after an accepted call.
unfoldable pub next_balances : List ℕ → Call → List ℕ
next_balances balances (transfer a) = changed balances (change_of (transfer_of a.message)) (transfer_of a.message).par
next_balances balances (close a) = balances

-- A call that got a number and gives claims. Accepted calls return 0, the new book and how many claims were written, from the buffer's start;
-- any other number comes with the book given and 0 claims, and leaves everything as it was.
unfoldable pub result_with : ℕ → List Claim → List ℕ → Book → List ℕ → Call → Result
result_with zero claims calendar book balances call =
    record {
      answer = record {
        number = 0;
        book = next_book calendar book call;
        claims = length claims;
        buffer = written claims (buffer_of call);
      };
      balances = next_balances balances call;
    }
result_with (suc n) claims calendar book balances call =
    record { answer = record { number = suc n; book = book; claims = 0; buffer = buffer_of call }; balances = balances }

-- A call that got a number, with its claims.
abbrev pub result_for : ℕ → List ℕ → List ℕ → Book → List ℕ → Call → Result
result_for number calendar tables book balances call =
    result_with number (claims_of calendar tables book balances call) calendar book balances call

-- What a call's answer says with the claim buffer and the balances that it leaves.
unfoldable pub left : Done → List ℕ → List ℕ → Result
left d buffer balances =
    record { answer = record { number = d.number; book = d.book; claims = d.claims; buffer = buffer }; balances = balances }

-- What a transfer or a close answers and leaves.
unfoldable pub result : List ℕ → List ℕ → Book → List ℕ → Call → Result
result calendar tables book balances call = result_for (number_for calendar tables book balances call) calendar tables book balances call

-- The promise of a transfer and of a close: on calendar, tables, book and balances as it finds them, the call gives the answer of its result
-- and leaves the claim buffer and the balances of its result.
abbrev pub Gives : List ℕ → List ℕ → Book → List ℕ → Call → Done → List ℕ → List ℕ → Type 0
Gives calendar tables book balances call d buffer after = left d buffer after ≡ result calendar tables book balances call

-- ---- opening

pub record Opened : Type 0 where
  pub number : ℕ
  pub book : Book
  pub balances : List ℕ

-- What an opening's answer says with the balances that it leaves.
unfoldable pub left_open : Done → List ℕ → Opened
left_open d balances = record { number = d.number; book = d.book; balances = balances }

-- Opening sets the count and all balances to zero; refused, it returns day 20000101 and count 0 and leaves the balances.
unfoldable pub opened_for : ℕ → List ℕ → ℕ → Opened
opened_for zero balances day = record { number = 0; book = record { day = day; count = 0 }; balances = replicate (length balances) 0 }
opened_for (suc n) balances day = record { number = suc n; book = record { day = first_date; count = 0 }; balances = balances }

unfoldable pub opened : List ℕ → List ℕ → List ℕ → ℕ → Opened
opened calendar tables balances day = opened_for (opening_number calendar tables balances day) balances day

-- ---- a list of calls

pub record Run : Type 0 where
  pub answers : List Answer
  pub book : Book
  pub balances : List ℕ

-- Each call on the book and balances that the last one left, by what a call gives.
unfoldable pub run_by : (Book → List ℕ → Call → Result) → Book → List ℕ → List Call → Run
run_by gives book balances [] = record { answers = []; book = book; balances = balances }
run_by gives book balances (call ∷ calls) =
    let now = gives book balances call in
    let rest = run_by gives now.answer.book now.balances calls in
    record { answers = now.answer ∷ rest.answers; book = rest.book; balances = rest.balances }

-- By what transfers and closes give.
abbrev pub run : List ℕ → List ℕ → Book → List ℕ → List Call → Run
run calendar tables book balances calls = run_by (result calendar tables) book balances calls

-- A list of calls and one that follows it: the answers of both, and what the last call leaves.
unfoldable pub followed_by : Run → Run → Run
followed_by first next = record { answers = first.answers ++ next.answers; book = next.book; balances = next.balances }

-- A list of calls on what an opening leaves.
unfoldable pub run_from : List ℕ → List ℕ → Opened → List Call → Run
run_from calendar tables start calls = run calendar tables start.book start.balances calls
