-- Computed lists of calls: the answers of one with all their bytes; what lists with interim claims and with rows that wait pay and owe; and
-- a list whose tables change on the way.
use mathlib.Core.Path.{◌≡◌, refl}
use mathlib.Core.Bool.{Bool, true, false, ◌&&◌}
use mathlib.Core.List.{List, [], ◌∷◌, ◌++◌}
use Prim.Native.Nat.{ℕ}
use lib.Dec.{eqb}
use lib.ListN.{length, replicate, set}
use Rattle.days.specs.Weekdays.{weekdays}
use Rattle.claims.specs.Amounts.{of_interest}
use Rattle.claims.specs.declared.Parties.{Parties}
use Rattle.claims.proofs.InterimRows.{three_rows}
use Rattle.claims.proofs.DelayRows.{delays}
use Rattle.history.specs.Calls.{Call, transfer, close}
use Rattle.history.specs.Results.{Answer, opened, run, run_from}
use Rattle.history.specs.Ledger.{Entry}
use Rattle.history.specs.Owed.{owed}
use Rattle.history.specs.Statement.{records_in, paid, of_row, of_all}
use Rattle.history.specs.Continuation.{owed_since}
use Rattle.history.proofs.Rows.{tag_line, blank, sent, closing, zeros, sevens, opened_rows}

-- ---- a list of calls

-- the Beneficiary Date lies before the opening's day and the Record Date after it
apart_tables : List ℕ
apart_tables = (3 ∷ 1 ∷ 20230403 ∷ 20230330 ∷ 20230417 ∷ 5000000 ∷ []) ++ replicate 1818 0

-- a call that finds sevens in its claim buffer
on_sevens : Call → Call
on_sevens (transfer a) = transfer (record { message = a.message; buffer = replicate (length a.buffer) 7; limits = a.limits; pieces = a.pieces })
on_sevens (close a) = close (record { message = a.message; buffer = replicate (length a.buffer) 7 })

-- a loan, a failed transfer, one refused for its par, a close without room, the close that crosses the Record Date, a second failed
-- transfer, a balance-only decrease and a close
calls : List Call
calls =
    on_sevens (sent 1 1 2 0 0 1 40000 blank 36)
    ∷ on_sevens (sent 1 3 4 0 0 0 200000 (tag_line 20230329) 36)
    ∷ on_sevens (sent 1 3 4 0 0 0 100000001 (tag_line 20230329) 36)
    ∷ on_sevens (closing 2 34)
    ∷ on_sevens (closing 2 36)
    ∷ on_sevens (sent 1 3 4 0 0 0 200000 (tag_line 20230329) 36)
    ∷ on_sevens (sent 1 2 1 0 0 6 15000 blank 36)
    ∷ on_sevens (closing 2 36)
    ∷ []

-- number, day, count, claim count and claim buffer of each answer
answered : List Answer → List ℕ
answered [] = []
answered (a ∷ answers) = a.number ∷ a.book.day ∷ a.book.count ∷ a.claims ∷ (a.buffer ++ answered answers)

-- 36 sevens
found : List ℕ
found = replicate 36 7

expected : List ℕ
expected =
    (0 ∷ 20230331 ∷ 1 ∷ 0 ∷ [])
    ++ (found
    ++ ((0 ∷ 20230331 ∷ 2 ∷ 1 ∷ 33 ∷ 0 ∷ 3 ∷ 0 ∷ 1 ∷ 0 ∷ 3 ∷ 4 ∷ 0 ∷ 0 ∷ 2 ∷ 0 ∷ 0 ∷ 0 ∷ 160 ∷ 134 ∷ 1 ∷ 0 ∷ 0 ∷ 0 ∷ 0 ∷ 0 ∷ 0 ∷ 0 ∷ 0 ∷ 0 ∷ 0 ∷ 0 ∷ 0 ∷ 0 ∷ 17 ∷ 177 ∷ 52 ∷ 1 ∷ 3 ∷ 7
    ∷ 6 ∷ 20230331 ∷ 2 ∷ 0 ∷ [])
    ++ (found
    ++ ((10 ∷ 20230331 ∷ 2 ∷ 0 ∷ [])
    ++ (replicate 34 7
    ++ ((0 ∷ 20230403 ∷ 2 ∷ 1 ∷ 33 ∷ 0 ∷ 3 ∷ 0 ∷ 3 ∷ 0 ∷ 2 ∷ 1 ∷ 0 ∷ 0 ∷ 0 ∷ 0 ∷ 0 ∷ 0 ∷ 32 ∷ 78 ∷ 0 ∷ 0 ∷ 0 ∷ 0 ∷ 0 ∷ 0 ∷ 0 ∷ 0 ∷ 0 ∷ 0 ∷ 0 ∷ 0 ∷ 0 ∷ 0 ∷ 17 ∷ 177 ∷ 52 ∷ 1 ∷ 3 ∷ 7
    ∷ 0 ∷ 20230403 ∷ 3 ∷ 1 ∷ 33 ∷ 0 ∷ 3 ∷ 0 ∷ 1 ∷ 0 ∷ 3 ∷ 4 ∷ 0 ∷ 0 ∷ 3 ∷ 0 ∷ 0 ∷ 0 ∷ 160 ∷ 134 ∷ 1 ∷ 0 ∷ 0 ∷ 0 ∷ 0 ∷ 0 ∷ 0 ∷ 0 ∷ 0 ∷ 0 ∷ 0 ∷ 0 ∷ 0 ∷ 0 ∷ 17 ∷ 177 ∷ 52 ∷ 1 ∷ 3 ∷ 7
    ∷ 0 ∷ 20230403 ∷ 4 ∷ 0 ∷ [])
    ++ (found
    ++ ((0 ∷ 20230404 ∷ 4 ∷ 0 ∷ []) ++ found))))))))

unfoldable pub same_numbers : List ℕ → List ℕ → Bool
same_numbers [] [] = true
same_numbers [] (y ∷ ys) = false
same_numbers (x ∷ xs) [] = false
same_numbers (x ∷ xs) (y ∷ ys) = eqb x y && same_numbers xs ys

-- the answers, and the day, count and balances after the list
history : Bool
history =
    let r = run_from weekdays apart_tables (opened weekdays apart_tables sevens 20230331) calls in
    same_numbers (answered r.answers) expected && eqb r.book.day 20230404 && eqb r.book.count 4
    && same_numbers r.balances (set zeros 18 25000)

-- ---- interim claims

-- without a tag; with one
interim_calls : List Call
interim_calls = sent 1 1 2 0 0 0 100000 blank 105 ∷ sent 1 1 2 0 0 0 100000 (tag_line 20230915) 105 ∷ []

-- the entries of calls, the latest first
unfoldable pub entries : ℕ → List Call → List Entry
entries day [] = []
entries day (call ∷ calls) = entries day calls ++ (record { day = day; call = call } ∷ [])

-- number and claim count of each answer
unfoldable pub counted : List Answer → List ℕ
counted [] = []
counted (a ∷ answers) = a.number ∷ a.claims ∷ counted answers

-- from account 1 to account 2 in security 0
unfoldable pub sender_to_receiver : Parties
sender_to_receiver = record { security = 0; payee = 2; payer = 1 }

-- two interim claims, then a fail claim and two interim claims, are paid and owed, each row by its own
interim_history : Bool
interim_history =
    let r = run_from weekdays three_rows (opened weekdays three_rows sevens 20231207) interim_calls in
    same_numbers (counted r.answers) (0 ∷ 2 ∷ 0 ∷ 3 ∷ [])
    && eqb (paid of_interest of_all (records_in r.answers) sender_to_receiver) 250000
    && eqb (owed weekdays three_rows of_interest of_all (entries 20231207 interim_calls) sender_to_receiver) 250000
    && eqb (owed weekdays three_rows of_interest (of_row 0) (entries 20231207 interim_calls) sender_to_receiver) 50000
    && eqb (owed weekdays three_rows of_interest (of_row 2) (entries 20231207 interim_calls) sender_to_receiver) 100000

-- ---- rows that wait

-- the earliest row that waits is the third; the fourth
delay_calls : List Call
delay_calls = sent 1 1 2 0 0 0 100000 (tag_line 20230315) 105 ∷ sent 1 1 2 0 0 0 100000 (tag_line 20230601) 105 ∷ []

-- the first transfer's fourth row is neither paid nor owed, the second's is both
delay_history : Bool
delay_history =
    let r = run_from weekdays delays (opened weekdays delays sevens 20230705) delay_calls in
    same_numbers (counted r.answers) (0 ∷ 3 ∷ 0 ∷ 1 ∷ [])
    && eqb (paid of_interest of_all (records_in r.answers) sender_to_receiver) 200000
    && eqb (owed weekdays delays of_interest of_all (entries 20230705 delay_calls) sender_to_receiver) 200000
    && eqb (owed weekdays delays of_interest (of_row 2) (entries 20230705 delay_calls) sender_to_receiver) 50000
    && eqb (owed weekdays delays of_interest (of_row 3) (entries 20230705 delay_calls) sender_to_receiver) 50000

-- ---- tables that change

-- the next payment of the security, as its first row
later_tables : List ℕ
later_tables = (3 ∷ 1 ∷ 20230404 ∷ 20230404 ∷ 20230417 ∷ 10000000 ∷ []) ++ replicate 1818 0

-- a loan and the close that crosses the first tables' Record Date; then, with the later tables, a failed transfer and the next close
first_calls : List Call
first_calls = on_sevens (sent 1 1 2 0 0 1 40000 blank 36) ∷ on_sevens (closing 2 36) ∷ []

later_calls : List Call
later_calls = on_sevens (sent 1 3 4 0 0 0 200000 (tag_line 20230329) 36) ∷ on_sevens (closing 2 36) ∷ []

later_answers : List ℕ
later_answers =
    (0 ∷ 20230403 ∷ 2 ∷ 0 ∷ [])
    ++ (found
    ++ (0 ∷ 20230404 ∷ 2 ∷ 1 ∷ 33 ∷ 0 ∷ 3 ∷ 0 ∷ 3 ∷ 0 ∷ 2 ∷ 1 ∷ 0 ∷ 0 ∷ 0 ∷ 0 ∷ 0 ∷ 0 ∷ 64 ∷ 156 ∷ 0 ∷ 0 ∷ 0 ∷ 0 ∷ 0 ∷ 0 ∷ 0 ∷ 0 ∷ 0 ∷ 0 ∷ 0 ∷ 0 ∷ 0 ∷ 0 ∷ 17 ∷ 177 ∷ 52 ∷ 1 ∷ 3 ∷ 7 ∷ []))

-- from account 2 to account 1 in security 0
unfoldable pub borrower_to_lender : Parties
borrower_to_lender = record { security = 0; payee = 1; payer = 2 }

-- the later calls pay and owe the later coupon on the par of the loan before them, and not the earlier coupon again
periods : Bool
periods =
    let r = run_from weekdays apart_tables (opened weekdays apart_tables sevens 20230331) first_calls in
    let later = run weekdays later_tables r.book r.balances later_calls in
    same_numbers (answered later.answers) later_answers && same_numbers later.balances (set zeros 18 40000)
    && eqb (paid of_interest of_all (records_in r.answers) borrower_to_lender) 20000
    && eqb (paid of_interest of_all (records_in later.answers) borrower_to_lender) 40000
    && eqb
    (owed_since weekdays later_tables of_interest of_all (entries 20230331 first_calls) (entries 20230403 later_calls) borrower_to_lender) 40000

history_holds : history ≡ true
unfolding opened_rows apart_tables on_sevens calls answered found expected same_numbers history
history_holds = refl

interim_holds : interim_history ≡ true
unfolding opened_rows three_rows interim_calls entries counted sender_to_receiver same_numbers interim_history
interim_holds = refl

delay_holds : delay_history ≡ true
unfolding opened_rows delays delay_calls entries counted sender_to_receiver same_numbers delay_history
delay_holds = refl

periods_hold : periods ≡ true
unfolding opened_rows apart_tables later_tables on_sevens first_calls later_calls answered found later_answers borrower_to_lender entries same_numbers periods
periods_hold = refl
