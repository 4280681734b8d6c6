-- Repo tracking worked out (document 02, card 3), at full size: a list with par on loan and on repo, its answers and balances, and what it
-- pays and owes by claim type; then the memo's repo examples (source 001, Attachment II, Section III).
use mathlib.Core.Path.{◌≡◌, refl}
use mathlib.Core.Bool.{Bool, true, cond, ◌&&◌}
use mathlib.Core.List.{List, [], ◌∷◌, ◌++◌}
use Prim.Native.Nat.{ℕ}
use lib.Dec.{eqb}
use lib.ListN.{replicate, set}
use Rattle.days.specs.Weekdays.{weekdays}
use Rattle.securities.specs.Cases.{case_tables}
use Rattle.claims.specs.Amounts.{of_interest}
use Rattle.history.specs.Calls.{Call}
use Rattle.history.specs.Results.{Answer, opened, run_from}
use Rattle.history.specs.Owed.{owed}
use Rattle.history.specs.Statement.{records_in, paid, of_type_and_row, of_all}
use Rattle.history.proofs.Rows.{blank, sent, closing, zeros, sevens, opened_rows}
use Rattle.history.proofs.ListRows.{entries, counted, same_numbers, borrower_to_lender}

-- ---- a list with both

-- a loan start, a repo start, a repo close, a decrease, one above the balance, a code above 12, a loan's return above its balance, the
-- start's reversal, an increase, a close without room, and the close
calls : List Call
calls =
    sent 1 1 2 0 0 1 50000 blank 0
    ∷ sent 1 1 2 0 0 7 30000 blank 0
    ∷ sent 1 2 1 0 0 9 10000 blank 0
    ∷ sent 1 2 1 0 0 12 5000 blank 0
    ∷ sent 1 2 1 0 0 12 15001 blank 0
    ∷ sent 1 1 2 0 0 13 1 blank 0
    ∷ sent 1 2 1 0 0 3 50001 blank 0
    ∷ sent 1 2 1 0 0 8 15000 blank 0
    ∷ sent 1 1 2 0 0 11 15000 blank 0
    ∷ closing 2 69
    ∷ closing 2 70
    ∷ []

-- the calls that were answered with number 0
unfoldable pub kept : List Answer → List Call → List Call
kept [] [] = []
kept [] (call ∷ rest) = []
kept (a ∷ answers) [] = []
kept (a ∷ answers) (call ∷ rest) = cond (eqb a.number 0) (call ∷ kept answers rest) (kept answers rest)

-- number and claim count of each answer
numbers : List ℕ
numbers = 0 ∷ 0 ∷ 0 ∷ 0 ∷ 0 ∷ 0 ∷ 0 ∷ 0 ∷ 7 ∷ 0 ∷ 6 ∷ 0 ∷ 7 ∷ 0 ∷ 0 ∷ 0 ∷ 0 ∷ 0 ∷ 10 ∷ 0 ∷ 0 ∷ 2 ∷ []

-- the claim buffer of the last answer
last_buffer : List Answer → List ℕ
last_buffer [] = []
last_buffer (a ∷ []) = a.buffer
last_buffer (a ∷ b ∷ answers) = last_buffer (b ∷ answers)

-- the close claims the par on loan as lending and the par on repo as repo
expected : List ℕ
expected =
    33 ∷ 0 ∷ 3 ∷ 0 ∷ 3 ∷ 0 ∷ 2 ∷ 1 ∷ 0 ∷ 0 ∷ 0 ∷ 0 ∷ 0 ∷ 0 ∷ 168 ∷ 97 ∷ 0 ∷ 0 ∷ 0 ∷ 0 ∷ 0 ∷ 0 ∷ 0 ∷ 0 ∷ 0 ∷ 0 ∷ 0 ∷ 0 ∷ 0 ∷ 0 ∷ 17 ∷ 177 ∷ 52 ∷ 1 ∷ 3
    ∷ 33 ∷ 0 ∷ 3 ∷ 0 ∷ 4 ∷ 0 ∷ 2 ∷ 1 ∷ 0 ∷ 0 ∷ 0 ∷ 0 ∷ 0 ∷ 0 ∷ 76 ∷ 29 ∷ 0 ∷ 0 ∷ 0 ∷ 0 ∷ 0 ∷ 0 ∷ 0 ∷ 0 ∷ 0 ∷ 0 ∷ 0 ∷ 0 ∷ 0 ∷ 0 ∷ 17 ∷ 177 ∷ 52 ∷ 1 ∷ 3 ∷ []

history : Bool
history =
    let r = run_from weekdays case_tables (opened weekdays case_tables sevens 20230331) calls in
    let es = entries 20230331 (kept r.answers calls) in
    let pays : (ℕ → ℕ → Bool) → ℕ → Bool = λ test cents. eqb (paid of_interest test (records_in r.answers) borrower_to_lender) cents
    && eqb (owed weekdays case_tables of_interest test es borrower_to_lender) cents in
    same_numbers (counted r.answers) numbers
    && same_numbers (last_buffer r.answers) expected
    && eqb r.book.day 20230403
    && eqb r.book.count 6
    && same_numbers r.balances (set (set zeros 18 50000) 4114 15000)
    && pays (of_type_and_row 3 0) 25000
    && pays (of_type_and_row 4 0) 7500
    && pays (of_type_and_row 4 1) 0
    && pays of_all 32500

history_holds : history ≡ true
unfolding opened_rows calls kept numbers last_buffer expected entries counted same_numbers borrower_to_lender history
history_holds = refl

-- ---- the memo's examples

-- two MBS, Record Date on the first of the month, Payment Date on the fifteenth; the memo gives no factors
memo_tables : List ℕ
memo_tables = pool ++ (pool ++ replicate 1596 0)
  where
    pool : List ℕ
    pool =
        (3 ∷ 1
        ∷ 20240101 ∷ 20240101 ∷ 20240115 ∷ 4000000 ∷ 1000000 ∷ 0 ∷ 0
        ∷ 20240201 ∷ 20240201 ∷ 20240215 ∷ 4000000 ∷ 1000000 ∷ 0 ∷ 0 ∷ [])
        ++ replicate 98 0

-- examples 1 to 3, accounts 0 to 2 being Banks X, Y and Z and securities 0 and 1 CUSIP A and CUSIP B, with the closes of 29, 30 and
-- 31 January
memo_calls : List Call
memo_calls =
    sent 1 0 1 0 0 7 50000 blank 0
    ∷ sent 1 2 0 1 0 7 40000 blank 0
    ∷ sent 1 1 0 0 0 8 20000 blank 0
    ∷ closing 2 0
    ∷ sent 1 0 2 1 0 7 50000 blank 0
    ∷ sent 1 1 0 0 0 12 15000 blank 0
    ∷ closing 2 0
    ∷ sent 1 0 2 1 0 9 40000 blank 0
    ∷ closing 2 70
    ∷ []

-- Bank Y pays Bank X on 15,000 of CUSIP A, Bank Z pays Bank X on 50,000 of CUSIP B, both on 15 February
memo_expected : List ℕ
memo_expected =
    33 ∷ 0 ∷ 3 ∷ 0 ∷ 4 ∷ 0 ∷ 1 ∷ 0 ∷ 0 ∷ 1 ∷ 0 ∷ 0 ∷ 0 ∷ 0 ∷ 112 ∷ 23 ∷ 0 ∷ 0 ∷ 0 ∷ 0 ∷ 0 ∷ 0 ∷ 220 ∷ 5 ∷ 0 ∷ 0 ∷ 0 ∷ 0 ∷ 0 ∷ 0 ∷ 87 ∷ 215 ∷ 52 ∷ 1 ∷ 3
    ∷ 33 ∷ 0 ∷ 3 ∷ 0 ∷ 4 ∷ 0 ∷ 2 ∷ 0 ∷ 1 ∷ 1 ∷ 0 ∷ 0 ∷ 0 ∷ 0 ∷ 32 ∷ 78 ∷ 0 ∷ 0 ∷ 0 ∷ 0 ∷ 0 ∷ 0 ∷ 136 ∷ 19 ∷ 0 ∷ 0 ∷ 0 ∷ 0 ∷ 0 ∷ 0 ∷ 87 ∷ 215 ∷ 52 ∷ 1 ∷ 3 ∷ []

memo : Bool
memo =
    let r = run_from weekdays memo_tables (opened weekdays memo_tables sevens 20240129) memo_calls in
    same_numbers (counted r.answers) (0 ∷ 0 ∷ 0 ∷ 0 ∷ 0 ∷ 0 ∷ 0 ∷ 0 ∷ 0 ∷ 0 ∷ 0 ∷ 0 ∷ 0 ∷ 0 ∷ 0 ∷ 0 ∷ 0 ∷ 2 ∷ [])
    && same_numbers (last_buffer r.answers) memo_expected
    && same_numbers r.balances (set (set zeros 4097 15000) 4354 50000)

memo_holds : memo ≡ true
unfolding opened_rows counted same_numbers last_buffer memo_tables memo_calls memo_expected memo
memo_holds = refl
