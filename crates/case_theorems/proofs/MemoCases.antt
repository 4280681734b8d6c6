-- Days before the 2023 memo worked out (document 02, card 7), at full size: a list of calls that crosses its day, and one on a saved book of
-- an earlier day that holds a loan; their answers and balances, and what they pay and owe.
use mathlib.Core.Path.{◌≡◌, refl}
use mathlib.Core.Bool.{Bool, true, ◌&&◌}
use mathlib.Core.List.{List, [], ◌∷◌, ◌++◌}
use Prim.Native.Nat.{ℕ}
use lib.Dec.{eqb}
use lib.ListN.{set}
use Rattle.days.specs.Weekdays.{weekdays}
use Rattle.claims.specs.Amounts.{of_interest}
use Rattle.claims.specs.declared.Parties.{Parties}
use Rattle.claims.proofs.MemoRows.{over_memo, empty_line}
use Rattle.history.specs.Calls.{Call}
use Rattle.history.specs.Results.{opened, run, run_from}
use Rattle.history.specs.Owed.{owed}
use Rattle.history.specs.Statement.{records_in, paid, of_row, of_all}
use Rattle.history.proofs.Rows.{blank, sent, closing, zeros, held, sevens, opened_rows}
use Rattle.history.proofs.ListRows.{entries, counted, same_numbers, sender_to_receiver, borrower_to_lender}
use Rattle.case_theorems.proofs.MemoRows.{over_tables, failed}

-- ---- over the memo's day

-- the same transfer on either side of the close, a loan, and a transfer with an empty tag
fail : Call
fail = failed 0 245

loan : Call
loan = sent 1 1 2 0 0 1 40000 blank 0

tagged : Call
tagged = sent 1 1 2 0 0 0 100000 empty_line 245

crossing : List Call
crossing = fail ∷ loan ∷ tagged ∷ closing 2 0 ∷ fail ∷ loan ∷ tagged ∷ []

-- number and claim count of each answer
numbers : List ℕ
numbers = 0 ∷ 6 ∷ 15 ∷ 0 ∷ 0 ∷ 0 ∷ 0 ∷ 0 ∷ 0 ∷ 7 ∷ 0 ∷ 0 ∷ 135 ∷ 0 ∷ []

-- July is claimed once, August and January twice, 50,000 cents each
history : Bool
history =
    let r = run_from weekdays over_tables (opened weekdays over_tables sevens 20230127) crossing in
    let es = entries 20230130 (fail ∷ loan ∷ []) ++ entries 20230127 (fail ∷ tagged ∷ closing 2 0 ∷ []) in
    let pays : (ℕ → ℕ → Bool) → ℕ → Bool = λ test cents. eqb (paid of_interest test (records_in r.answers) sender_to_receiver) cents
    && eqb (owed weekdays over_tables of_interest test es sender_to_receiver) cents in
    same_numbers (counted r.answers) numbers
    && eqb r.book.day 20230130
    && eqb r.book.count 4
    && same_numbers r.balances (set zeros 18 40000)
    && pays (of_row 0) 50000
    && pays (of_row 1) 100000
    && pays (of_row 6) 100000
    && pays (of_row 7) 0
    && pays of_all 650000

history_holds : history ≡ true
unfolding opened_rows over_memo over_tables empty_line failed fail loan tagged crossing numbers sender_to_receiver entries counted same_numbers history
history_holds = refl

-- ---- a loan that a book already holds

-- its return is refused, the close over the first of January claims it, and repo goes its way
saved_calls : List Call
saved_calls = sent 1 2 1 0 0 3 40000 blank 0 ∷ closing 2 35 ∷ sent 1 1 2 0 0 7 5000 blank 0 ∷ []

saved : Bool
saved =
    let r = run weekdays over_tables (record { day = 20221230; count = 3 }) held saved_calls in
    same_numbers (counted r.answers) (15 ∷ 0 ∷ 0 ∷ 1 ∷ 0 ∷ 0 ∷ [])
    && eqb r.book.day 20230102
    && eqb r.book.count 4
    && same_numbers r.balances (set held 4114 5000)
    && eqb (paid of_interest of_all (records_in r.answers) borrower_to_lender) 20000

saved_holds : saved ≡ true
unfolding opened_rows over_memo over_tables held saved_calls counted borrower_to_lender same_numbers saved
saved_holds = refl
