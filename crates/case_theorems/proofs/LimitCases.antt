-- Date limits worked out (document 02, card 5), at full size: a list of transfers in both forms, with limits that change from call to
-- call, its answers and balances, and what it pays and owes by row.
use mathlib.Core.Path.{◌≡◌, refl}
use mathlib.Core.Bool.{Bool, true, ◌&&◌}
use mathlib.Core.List.{List, [], ◌∷◌}
use Prim.Native.Nat.{ℕ}
use lib.Dec.{eqb}
use lib.ListN.{set}
use Rattle.days.specs.Weekdays.{weekdays}
use Rattle.securities.specs.Cases.{case_tables}
use Rattle.securities.proofs.LentRows.{five}
use Rattle.claims.specs.Amounts.{of_interest}
use Rattle.history.specs.Calls.{Call}
use Rattle.history.specs.Results.{opened, run_from}
use Rattle.history.specs.Owed.{owed}
use Rattle.history.specs.Statement.{records_in, paid, of_row, of_all}
use Rattle.history.proofs.Rows.{tag_line, blank, sent, lent, zeros, sevens, opened_rows}
use Rattle.history.proofs.ListRows.{entries, counted, same_numbers, sender_to_receiver}
use Rattle.case_theorems.proofs.RepoCases.{kept}

failed : Call
failed = sent 1 1 2 0 0 0 400000 (tag_line 20230315) 70

-- without limits; one date of MBS; a list that is refused; sixteen; two, with room for one; one, with room for one; a loan with limits
calls : List Call
calls =
    failed
    ∷ lent (five 1 6 3 2 1) failed
    ∷ lent (five 0 6 3 2 1) failed
    ∷ lent (five 16 16 16 16 16) failed
    ∷ lent (five 2 3 3 3 3) (sent 1 1 2 0 0 0 400000 (tag_line 20230315) 69)
    ∷ lent (five 1 16 16 16 16) (sent 1 1 2 0 0 0 400000 (tag_line 20230315) 69)
    ∷ lent (five 1 1 1 1 1) (sent 1 1 2 0 0 1 40000 blank 0)
    ∷ []

-- number and claim count of each answer
numbers : List ℕ
numbers = 0 ∷ 2 ∷ 0 ∷ 1 ∷ 12 ∷ 0 ∷ 0 ∷ 2 ∷ 10 ∷ 0 ∷ 0 ∷ 1 ∷ 0 ∷ 0 ∷ []

-- April is claimed twice, May four times, 200,000 cents each
history : Bool
history =
    let r = run_from weekdays case_tables (opened weekdays case_tables sevens 20230509) calls in
    let es = entries 20230509 (kept r.answers calls) in
    let pays : (ℕ → ℕ → Bool) → ℕ → Bool = λ test cents. eqb (paid of_interest test (records_in r.answers) sender_to_receiver) cents
    && eqb (owed weekdays case_tables of_interest test es sender_to_receiver) cents in
    same_numbers (counted r.answers) numbers
    && eqb r.book.day 20230509
    && eqb r.book.count 5
    && same_numbers r.balances (set zeros 18 40000)
    && pays (of_row 0) 400000
    && pays (of_row 1) 800000
    && pays of_all 1200000

history_holds : history ≡ true
unfolding opened_rows failed calls kept numbers sender_to_receiver entries counted same_numbers history
history_holds = refl
