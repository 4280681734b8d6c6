-- Computed rows at full size: moves with every number they can meet, calls in the form with lending alone, and lists on both sides of a move.
use mathlib.Core.Path.{◌≡◌, refl}
use mathlib.Core.Bool.{Bool, true, cond, not, ◌&&◌}
use mathlib.Core.List.{List, [], ◌∷◌, ◌++◌}
use Prim.Native.Nat.{ℕ}
use lib.Dec.{eqb}
use lib.ListN.{length, replicate, set, take, drop}
use Rattle.lists.specs.All.{all}
use Rattle.days.specs.Weekdays.{weekdays}
use Rattle.securities.specs.Cases.{case_tables}
use Rattle.claims.specs.Amounts.{of_interest}
use Rattle.history.specs.Calls.{Call}
use Rattle.history.specs.Results.{run_from}
use Rattle.history.specs.Owed.{owed}
use Rattle.history.specs.Statement.{records_in, paid, of_type_and_row}
use Rattle.history.proofs.Rows.{blank, tag_line, sent, in_pieces, closing, zeros, sevens}
use Rattle.history.proofs.ListRows.{same_numbers, entries, counted, borrower_to_lender}
use Rattle.carry_over.specs.CarriedOver.{carried}
use Rattle.carry_over.specs.LendingForm.{lending_number, lending_run, lending_opened}
use Rattle.carry_over.specs.Statement.{is_repo}
use Rattle.carry_over.proofs.Opened.{opened_carry}

-- ---- moves

empty : List ℕ
empty = replicate 4096 0

-- account 1 has lent account 2 15,000 in security 0
saved : List ℕ
saved = set empty 18 15000

record Move : Type 0 where
  calendar : List ℕ
  day : ℕ
  count : ℕ
  saved : List ℕ
  balances : List ℕ
  number : ℕ

abbrev move : List ℕ → ℕ → ℕ → List ℕ → List ℕ → ℕ → Move
move c d n s b r = record { calendar = c; day = d; count = n; saved = s; balances = b; number = r }

-- the book as given; the saved words and 4,096 zeros, or the words as they were
moves : Move → Bool
moves m =
    let c = carried m.calendar (record { day = m.day; count = m.count }) m.saved m.balances in
    eqb c.number m.number && eqb c.book.day m.day && eqb c.book.count m.count
    && cond (eqb m.number 0)
    (same_numbers (take 4096 c.balances) m.saved && eqb (length c.balances) 8192 && all (λ w. eqb w 0) (drop 4096 c.balances))
    (same_numbers c.balances m.balances)

bad_weekdays : List ℕ
bad_weekdays = set weekdays 1 4294967295

rows : List Move
rows =
    move weekdays 20230331 3 saved sevens 0
    ∷  -- a closed day, the last open day, no date
    move weekdays 20230401 3 saved sevens 4
    ∷ move weekdays 20391230 3 saved sevens 4
    ∷ move weekdays 20391229 3 saved sevens 0
    ∷ move weekdays 0 3 saved sevens 4
    ∷  -- a day before the 2023 memo, and the largest count
    move weekdays 20030404 4294967295 saved sevens 0
    ∷  -- lengths, each alone and before all else
    move weekdays 20230331 3 (take 4095 saved) sevens 1
    ∷ move weekdays 20230331 3 zeros sevens 1
    ∷ move weekdays 20230331 3 saved (take 8191 sevens) 1
    ∷ move weekdays 20230331 3 saved empty 1
    ∷ move (take 479 bad_weekdays) 20230401 3 (set empty 17 1) sevens 1
    ∷  -- the calendar before the day and the balances
    move bad_weekdays 20230401 3 (set empty 17 1) sevens 2
    ∷  -- an account with itself, in the first security and in the last
    move weekdays 20230331 3 (set empty 17 1) sevens 4
    ∷ move weekdays 20230331 3 (set empty 4095 1) sevens 4
    ∷  -- the largest balance and one more
    move weekdays 20230331 3 (set empty 4094 9000000000) sevens 0
    ∷ move weekdays 20230331 3 (set empty 19 9000000001) sevens 4
    ∷ []

-- ---- calls with lending alone

record LendingRow : Type 0 where
  balances : List ℕ
  call : Call
  number : ℕ

abbrev lending : List ℕ → Call → ℕ → LendingRow
lending b c r = record { balances = b; call = c; number = r }

numbered : LendingRow → Bool
numbered r = eqb (lending_number weekdays case_tables (record { day = 20230331; count = 3 }) r.balances r.call) r.number

lending_rows : List LendingRow
lending_rows =
    -- code 6, the last of lending; 7, 12 and 13
    lending saved (sent 1 2 1 0 0 6 5000 blank 0) 0
    ∷ lending saved (sent 1 1 2 0 0 7 5000 blank 0) 6
    ∷ lending saved (sent 1 2 1 0 0 12 5000 blank 0) 6
    ∷ lending saved (sent 1 2 1 0 0 13 5000 blank 0) 6
    ∷  -- the record before a repo code, a repo code before its tag
    lending saved (sent 2 1 2 0 0 7 5000 blank 0) 5
    ∷ lending saved (sent 1 1 2 0 0 7 5000 (tag_line 20230405) 0) 6
    ∷  -- 8,192 balances, a balance with itself, a piece, above the balance
    lending zeros (sent 1 2 1 0 0 6 5000 blank 0) 1
    ∷ lending (set empty 17 1) (sent 1 2 1 0 0 6 5000 blank 0) 4
    ∷ lending saved (in_pieces (replicate 16 1000) (sent 1 2 1 0 0 6 5500 blank 0)) 14
    ∷ lending saved (sent 1 2 1 0 0 6 15001 blank 0) 7
    ∷  -- a close with room for its claim and without
    lending saved (closing 2 35) 0
    ∷ lending saved (closing 2 34) 10
    ∷ []

openings : Bool
openings =
    eqb (lending_opened weekdays case_tables saved 20230331).number 0
    && same_numbers (lending_opened weekdays case_tables saved 20230331).balances empty
    && eqb (lending_opened weekdays case_tables zeros 20230331).number 1
    && eqb (lending_opened weekdays case_tables saved 20230401).number 4

-- the codes of repo
repo : ℕ → Bool
repo code = is_repo (sent 1 1 2 0 0 code 5000 blank 0)

repo_codes : Bool
repo_codes = not (repo 0) && not (repo 6) && repo 7 && repo 12 && not (repo 13) && not (is_repo (closing 2 0))

-- ---- after a move

-- a return of 5,000 and the close over the first of April: 10,000 par, 5,000 cents of claim type 3
later : List Call
later = sent 1 2 1 0 0 3 5000 blank 0 ∷ closing 2 35 ∷ []

later_list : Bool
later_list =
    let r = run_from weekdays case_tables (carried weekdays (record { day = 20230331; count = 3 }) saved sevens) later in
    let o = lending_run weekdays case_tables (record { day = 20230331; count = 3 }) saved later in
    same_numbers (counted r.answers) (0 ∷ 0 ∷ 0 ∷ 1 ∷ [])
    && eqb r.book.day 20230403
    && eqb r.book.count 4
    && same_numbers r.balances (set zeros 18 10000)
    && eqb (paid of_interest (of_type_and_row 3 0) (records_in r.answers) borrower_to_lender) 5000
    && same_numbers (counted o.answers) (0 ∷ 0 ∷ 0 ∷ 1 ∷ [])
    && same_numbers o.balances (set empty 18 10000)

-- ---- on both sides of a move

-- a loan of 40,000 and a close; the move; a return of 25,000, a repo, and the close over the first of April
before : List Call
before = sent 1 1 2 0 0 1 40000 blank 0 ∷ closing 2 35 ∷ []

after : List Call
after = sent 1 2 1 0 0 3 25000 blank 0 ∷ sent 1 1 2 0 0 7 8000 blank 0 ∷ closing 2 70 ∷ []

both_sides : Bool
both_sides =
    let start = lending_opened weekdays case_tables saved 20230330 in
    let old = lending_run weekdays case_tables start.book start.balances before in
    let c = carried weekdays old.book old.balances sevens in
    let new = run_from weekdays case_tables c after in
    let es = entries 20230331 after ++ entries 20230330 before in
    let pays : ℕ → ℕ → Bool = λ claim_type cents.
    eqb (paid of_interest (of_type_and_row claim_type 0) (records_in (old.answers ++ new.answers)) borrower_to_lender) cents
    && eqb (owed weekdays case_tables of_interest (of_type_and_row claim_type 0) es borrower_to_lender) cents in
    same_numbers (counted old.answers) (0 ∷ 0 ∷ 0 ∷ 0 ∷ [])
    && eqb c.number 0
    && same_numbers c.balances (set zeros 18 40000)
    && same_numbers (counted new.answers) (0 ∷ 0 ∷ 0 ∷ 0 ∷ 0 ∷ 2 ∷ [])
    && eqb new.book.day 20230403
    && eqb new.book.count 3
    && same_numbers new.balances (set (set zeros 18 15000) 4114 8000)
    && pays 3 7500
    && pays 4 4000

-- ---- the theorem

rows_hold : all moves rows && all numbered lending_rows && openings && repo_codes && later_list && both_sides ≡ true
unfolding opened_carry empty saved moves bad_weekdays rows numbered lending_rows openings repo repo_codes later later_list before after both_sides same_numbers entries counted borrower_to_lender
rows_hold = refl
