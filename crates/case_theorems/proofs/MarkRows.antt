-- Marks worked out (document 02, card 9), as rows that compute at full size: marks set and gone back to with every number they can meet, and a
-- trial.
use mathlib.Core.Path.{◌≡◌, refl}
use mathlib.Core.Bool.{Bool, true, cond, not, ◌&&◌}
use mathlib.Core.List.{List, [], ◌∷◌, ◌++◌}
use Prim.Native.Nat.{ℕ, ◌+◌}
use lib.Dec.{eqb}
use lib.ListN.{length, get_or, replicate, set, take, drop}
use Rattle.lists.specs.All.{all}
use Rattle.days.specs.Weekdays.{weekdays}
use Rattle.securities.specs.Cases.{case_tables}
use Rattle.claims.specs.Amounts.{of_interest}
use Rattle.book.specs.declared.Book.{Book}
use Rattle.history.specs.Results.{opened}
use Rattle.history.specs.Statement.{records_in, paid, of_type_and_row}
use Rattle.history.proofs.Rows.{blank, sent, closing, zeros, sevens}
use Rattle.history.proofs.ListRows.{same_numbers, counted, borrower_to_lender}
use Rattle.marks.specs.Marks.{set_number, return_number, marked, returned}
use Rattle.marks.specs.Trials.{State, Turn, worked, mark_set, went_back, after, after_all, begun, Histories, followed_all, is_ended, may_return, Step, work, mark, back, turns_of}
use Rattle.marks.proofs.Opened.{opened_marks}
use Rattle.marks.proofs.Rows.{held, found, stored, present}

-- ---- setting

bad_weekdays : List ℕ
bad_weekdays = set weekdays 1 4294967295

record Setting : Type 0 where
  calendar : List ℕ
  day : ℕ
  count : ℕ
  balances : List ℕ
  store : List ℕ
  mark : ℕ
  number : ℕ

abbrev setting : List ℕ → ℕ → ℕ → List ℕ → List ℕ → ℕ → ℕ → Setting
setting c d n b s k r = record { calendar = c; day = d; count = n; balances = b; store = s; mark = k; number = r }

-- the number alone
meets : Setting → Bool
meets m = eqb (set_number m.calendar (record { day = m.day; count = m.count }) m.balances m.store m.mark) m.number

-- 1, day, count and balances behind so many words as found, and as found the words behind them; or all as found
sets : Setting → Bool
sets m =
    let r = marked m.calendar (record { day = m.day; count = m.count }) m.balances m.store m.mark in
    let before : ℕ = cond (eqb m.mark 2) 8195 (cond (eqb m.mark 3) 16390 (cond (eqb m.mark 4) 24585 0)) in
    eqb r.number m.number
    && cond (eqb m.number 0)
    (same_numbers (take before r.store) (take before m.store)
    && same_numbers (take 8195 (drop before r.store)) (1 ∷ m.day ∷ m.count ∷ m.balances)
    && same_numbers (drop (before + 8195) r.store) (drop (before + 8195) m.store))
    (same_numbers r.store m.store)

settings : List Setting
settings =
    setting weekdays 20230331 5 held found 2 0
    ∷ setting weekdays 20230331 5 held found 1 0
    ∷ setting weekdays 20030404 0 zeros found 3 0
    ∷  -- the largest count, in the last words
    setting weekdays 20230331 4294967295 held found 4 0
    ∷ setting weekdays 20230331 5 held found 5 16
    ∷ setting weekdays 20230401 5 held found 2 4
    ∷ []

refusals : List Setting
refusals =
    -- no mark; stores of other lengths
    setting weekdays 20230331 5 held found 0 16
    ∷ setting weekdays 20230331 5 held found 4294967295 16
    ∷ setting weekdays 20230331 5 held (take 32779 found) 1 16
    ∷ setting weekdays 20230331 5 held (9 ∷ found) 2 16
    ∷ setting weekdays 20230331 5 held [] 2 16
    ∷  -- calendar and present book before the mark and the store
    setting weekdays 20230401 5 held found 9 4
    ∷ setting weekdays 20391230 5 held found 2 4
    ∷ setting weekdays 20230331 5 (set held 17 1) [] 9 4
    ∷ setting weekdays 20230331 5 (set held 8190 9000000001) found 2 4
    ∷ setting bad_weekdays 20230401 5 (set held 17 1) [] 9 2
    ∷ setting (take 479 weekdays) 20230401 5 held [] 9 1
    ∷ setting bad_weekdays 20230401 5 (take 8191 held) [] 9 1
    ∷ setting weekdays 20230331 5 (take 4096 held) found 2 1
    ∷ []

-- ---- going back

record Return : Type 0 where
  calendar : List ℕ
  day : ℕ
  balances : List ℕ
  store : List ℕ
  mark : ℕ
  number : ℕ
  taken : Book
  after : List ℕ

-- accepted: book and balances afterwards
abbrev taking : ℕ → List ℕ → ℕ → ℕ → ℕ → List ℕ → Return
taking d s k new_day new_count new_balances =
    record { calendar = weekdays; day = d; balances = present; store = s; mark = k; number = 0; taken = record { day = new_day; count = new_count }; after = new_balances }

-- refused: the book given, count 3, and the balances as they were
abbrev leaving : List ℕ → ℕ → List ℕ → List ℕ → ℕ → ℕ → Return
leaving c d b s k r =
    record { calendar = c; day = d; balances = b; store = s; mark = k; number = r; taken = record { day = d; count = 3 }; after = b }

refuses : Return → Bool
refuses m = eqb (return_number m.calendar (record { day = m.day; count = 3 }) m.balances m.store m.mark) m.number

goes : Return → Bool
goes m =
    let r = returned m.calendar (record { day = m.day; count = 3 }) m.balances m.store m.mark in
    eqb r.number m.number && eqb r.book.day m.taken.day && eqb r.book.count m.taken.count
    && same_numbers r.balances m.after

returns : List Return
returns =
    taking 20230404 stored 2 20230331 5 held
    ∷  -- the largest count, the largest balance, a day before the 2023 memo
    taking 20230404 (set stored 8197 4294967295) 2 20230331 4294967295 held
    ∷ taking 20230404 (set stored 8199 9000000000) 2 20230331 5 (set held 1 9000000000)
    ∷ taking 20030404 (set stored 8196 20030404) 2 20030404 5 held
    ∷ leaving weekdays 20230404 present (set stored 8195 2) 2 17
    ∷ leaving weekdays 20230404 present stored 5 16
    ∷ []

refused_returns : List Return
refused_returns =
    -- unset marks, and a first word that is not 1
    leaving weekdays 20230404 present stored 1 17
    ∷ leaving weekdays 20230404 present stored 3 17
    ∷ leaving weekdays 20230404 present (set stored 8195 0) 2 17
    ∷ leaving weekdays 20230404 present (set stored 8195 18446744073709551615) 2 17
    ∷  -- a count and a day past 32 bits
    leaving weekdays 20230404 present (set stored 8197 4294967296) 2 17
    ∷ leaving weekdays 20230404 present (set stored 8196 4315197627) 2 17
    ∷  -- a closed day, the last open day, no date
    leaving weekdays 20230404 present (set stored 8196 20230401) 2 17
    ∷ leaving weekdays 20230404 present (set stored 8196 20391230) 2 17
    ∷ leaving weekdays 20230404 present (set stored 8196 0) 2 17
    ∷  -- an account with itself, on loan and in the last word on repo; above the largest balance
    leaving weekdays 20230404 present (set stored 8215 1) 2 17
    ∷ leaving weekdays 20230404 present (set stored 16389 1) 2 17
    ∷ leaving weekdays 20230404 present (set stored 8199 9000000001) 2 17
    ∷  -- no mark and stores of other lengths, before what a mark holds
    leaving weekdays 20230404 present stored 0 16
    ∷ leaving weekdays 20230404 present stored 258 16
    ∷ leaving weekdays 20230404 present (take 32779 stored) 2 16
    ∷ leaving weekdays 20230404 present (stored ++ (9 ∷ [])) 1 16
    ∷ leaving weekdays 20230404 present [] 2 16
    ∷  -- calendar and present book before the mark and the store
    leaving weekdays 20230401 present stored 9 4
    ∷ leaving weekdays 20230401 present stored 2 4
    ∷ leaving weekdays 20230404 (set present 17 1) stored 2 4
    ∷ leaving weekdays 20230404 sevens [] 1 4
    ∷ leaving bad_weekdays 20230401 sevens [] 9 2
    ∷ leaving (take 479 weekdays) 20230401 present [] 9 1
    ∷ leaving bad_weekdays 20230401 (take 8191 present) [] 9 1
    ∷ leaving weekdays 20230404 (take 4096 present) stored 2 1
    ∷ []

-- ---- a trial

-- a loan of 50,000; mark 3; the close over the first of April and the return of the loan; mark 1; a return to mark 2, which is unset, and the
-- one to mark 3; the close again; the return to mark 1; and marks that are none
steps : List Step
steps =
    work (sent 1 1 2 0 0 1 50000 blank 0)
    ∷ mark 3
    ∷ work (closing 2 35)
    ∷ work (sent 1 2 1 0 0 3 50000 blank 0)
    ∷ mark 1
    ∷ back 2
    ∷ back 3
    ∷ work (closing 2 35)
    ∷ mark 5
    ∷ back 1
    ∷ back 0
    ∷ []

start : State
start =
    let o = opened weekdays case_tables sevens 20230331 in
    record { book = o.book; balances = o.balances; store = found }

-- number, and the day, count and first loan after each turn
shown : State → List Turn → List ℕ
shown s [] = []
shown s (t ∷ turns) =
    let next = after s t in
    number_of t ∷ next.book.day ∷ next.book.count ∷ get_or next.balances 18 0 ∷ shown next turns
  where
    number_of : Turn → ℕ
    number_of (worked call done buffer balances) = done.number
    number_of (mark_set k number store) = number
    number_of (went_back k done balances) = done.number

tried : Bool
tried =
    let turns = turns_of weekdays case_tables start steps in
    let s = after_all start turns in
    let h = followed_all begun turns in
    let early = followed_all begun (take 8 turns) in
    let pays : Histories → ℕ → Bool = λ h cents.
    eqb (paid of_interest (of_type_and_row 3 0) (records_in h.current.answers) borrower_to_lender) cents in
    same_numbers (shown start turns)
    (0 ∷ 20230331 ∷ 1 ∷ 50000
    ∷ 0 ∷ 20230331 ∷ 1 ∷ 50000
    ∷ 0 ∷ 20230403 ∷ 1 ∷ 50000
    ∷ 0 ∷ 20230403 ∷ 2 ∷ 0
    ∷ 0 ∷ 20230403 ∷ 2 ∷ 0
    ∷ 17 ∷ 20230403 ∷ 2 ∷ 0
    ∷ 0 ∷ 20230331 ∷ 1 ∷ 50000
    ∷ 0 ∷ 20230403 ∷ 1 ∷ 50000
    ∷ 16 ∷ 20230403 ∷ 1 ∷ 50000
    ∷ 0 ∷ 20230403 ∷ 2 ∷ 0
    ∷ 16 ∷ 20230403 ∷ 2 ∷ 0
    ∷ [])
    && same_numbers s.store
    ((1 ∷ 20230403 ∷ 2 ∷ zeros) ++ (replicate 8195 9 ++ ((1 ∷ 20230331 ∷ 1 ∷ set zeros 18 50000) ++ replicate 8195 9)))
    -- the loan and the close behind the return to mark 3, with one claim; then the three calls of the history that ended at mark 1
    && same_numbers (counted early.current.answers) (0 ∷ 0 ∷ 0 ∷ 1 ∷ [])
    && eqb (length early.current.calls) 2
    && pays early 25000
    && same_numbers (counted h.current.answers) (0 ∷ 0 ∷ 0 ∷ 1 ∷ 0 ∷ 0 ∷ [])
    && eqb (length h.current.calls) 3
    && pays h 25000
    && is_ended (h.marks 1) && not (is_ended (h.marks 2)) && is_ended (h.marks 3) && not (is_ended (h.marks 4)) && not (is_ended (h.marks 5))

-- which returns are spoken of: to a mark of the trial, to an unset one, to none; not to one that the store held before
spoken : Bool
spoken =
    let h = followed_all begun (turns_of weekdays case_tables start (mark 3 ∷ [])) in
    may_return stored h 3 && may_return stored h 1 && may_return stored h 0 && may_return stored h 5 && not (may_return stored h 2)

rows_hold : all sets settings && all meets refusals && all goes returns && all refuses refused_returns && tried && spoken ≡ true
unfolding opened_marks held found bad_weekdays meets sets settings refusals stored present refuses goes returns refused_returns steps start shown tried spoken same_numbers counted borrower_to_lender
rows_hold = refl
