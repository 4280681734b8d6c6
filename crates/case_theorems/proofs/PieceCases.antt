-- Minimum pieces worked out (document 02, card 6), at full size: a list of calls with pieces that change from call to call, its answers and
-- balances, and what it pays and owes.
use mathlib.Core.Path.{◌≡◌, refl}
use mathlib.Core.Bool.{Bool, true, ◌&&◌}
use mathlib.Core.List.{List, [], ◌∷◌, ◌++◌}
use Prim.Native.Nat.{ℕ}
use lib.Dec.{eqb}
use lib.ListN.{set}
use Rattle.days.specs.Weekdays.{weekdays}
use Rattle.securities.specs.Cases.{case_tables}
use Rattle.securities.specs.Lent.{ones}
use Rattle.securities.proofs.LentRows.{five}
use Rattle.claims.specs.Amounts.{of_interest}
use Rattle.claims.specs.declared.Parties.{Parties}
use Rattle.history.specs.Calls.{Call}
use Rattle.history.specs.Results.{opened, run_from}
use Rattle.history.specs.Owed.{owed}
use Rattle.history.specs.Statement.{records_in, paid, of_all}
use Rattle.history.proofs.Rows.{tag_line, blank, sent, lent, in_pieces, closing, zeros, sevens, opened_rows}
use Rattle.history.proofs.ListRows.{entries, counted, same_numbers, sender_to_receiver, borrower_to_lender}
use Rattle.case_theorems.proofs.PieceRows.{thousands}

-- ---- the accepted calls

-- 40,500 lent in ones; 40,000 of it back in thousands; 1,500 on repo in ones, and all of it back in thousands, with limits too
loan : Call
loan = sent 1 1 2 0 0 1 40500 blank 0

most : Call
most = in_pieces thousands (sent 1 2 1 0 0 3 40000 blank 0)

repo : Call
repo = sent 1 1 2 0 0 7 1500 blank 0

whole : Call
whole = lent (five 1 1 1 1 1) (in_pieces thousands (sent 1 2 1 0 0 9 1500 blank 0))

-- after the close: 200,500 in pieces of 500, and the last 500 back in pieces of 7
failed : Call
failed = in_pieces (set ones 0 500) (sent 1 1 2 0 0 0 200500 (tag_line 20230315) 35)

rest : Call
rest = in_pieces (set ones 0 7) (sent 1 2 1 0 0 3 500 blank 0)

-- ---- the list

-- among them: an increase of the whole balance, a return off the piece, a list that is refused, and a transfer off the piece
calls : List Call
calls =
    loan
    ∷ in_pieces thousands loan
    ∷ in_pieces thousands (sent 1 2 1 0 0 3 500 blank 0)
    ∷ most
    ∷ in_pieces (set ones 15 0) (sent 1 2 1 0 0 3 500 blank 0)
    ∷ repo
    ∷ whole
    ∷ closing 2 35
    ∷ in_pieces thousands failed
    ∷ failed
    ∷ rest
    ∷ []

-- number and claim count of each answer
numbers : List ℕ
numbers =
    0 ∷ 0 ∷ 14 ∷ 0 ∷ 14 ∷ 0 ∷ 0 ∷ 0 ∷ 13 ∷ 0 ∷ 0 ∷ 0 ∷ 0 ∷ 0 ∷ 0 ∷ 1 ∷ 14 ∷ 0 ∷ 0 ∷ 1 ∷ 0 ∷ 0 ∷ []

-- the close claims on the 500 that are held off a multiple
history : Bool
history =
    let r = run_from weekdays case_tables (opened weekdays case_tables sevens 20230331) calls in
    let es = entries 20230403 (failed ∷ rest ∷ []) ++ entries 20230331 (loan ∷ most ∷ repo ∷ whole ∷ closing 2 35 ∷ []) in
    let pays : Parties → ℕ → Bool = λ x cents. eqb (paid of_interest of_all (records_in r.answers) x) cents
    && eqb (owed weekdays case_tables of_interest of_all es x) cents in
    same_numbers (counted r.answers) numbers
    && eqb r.book.day 20230403
    && eqb r.book.count 6
    && same_numbers r.balances zeros
    && pays borrower_to_lender 250
    && pays sender_to_receiver 100250

history_holds : history ≡ true
unfolding opened_rows thousands loan most repo whole failed rest calls numbers sender_to_receiver borrower_to_lender entries counted same_numbers history
history_holds = refl
