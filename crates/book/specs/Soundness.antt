-- Document 01, What can be refused, numbers 1 to 4: calendar, tables, day and balances that a call can work on; document 02, numbers 12 and
-- 13: date limits (card 5) and minimum pieces (card 6) that it can; and a saved book that can be carried over (card 8), or that can be marked
-- and left for a mark (card 9).
use Rattle.std.specs.Prelude.{Bool, true, not, ◌&&◌, ◌||◌, List, [], ◌∷◌, ◌++◌, ℕ, suc, eqb, leb, length}
use Rattle.lists.specs.First.{Cause, cause}
use Rattle.days.specs.Days.{calendar_words, bad_calendar, is_open, open_after}
use Rattle.securities.specs.Lent.{good_limits, good_pieces}
use Rattle.securities.specs.Securities.{table_words, good_tables}
use Rattle.book.specs.declared.Position.{Position}
use Rattle.book.specs.Book.{balance_words, tracking_words, largest_balance, position}

-- Calendar, tables or balances of wrong length, where there should be so many balances: number 1.
abbrev pub wrong_length_for : ℕ → List ℕ → List ℕ → List ℕ → Bool
wrong_length_for words calendar tables balances =
    not (eqb (length calendar) calendar_words) || not (eqb (length tables) table_words) || not (eqb (length balances) words)

unfoldable pub wrong_length : List ℕ → List ℕ → List ℕ → Bool
wrong_length calendar tables balances = wrong_length_for balance_words calendar tables balances

-- The day is not open, or none after it is: number 4.
unfoldable pub bad_day : List ℕ → ℕ → Bool
bad_day calendar day = not (is_open calendar day) || eqb (open_after calendar day) 0

-- A balance that is not too large, and zero where an account would lend itself.
unfoldable pub good_balance : Position → ℕ → Bool
good_balance p par = leb par largest_balance && (not (eqb p.lender p.borrower) || eqb par 0)

-- Balances from word w on.
unfoldable pub good_balances_from : ℕ → List ℕ → Bool
good_balances_from w [] = true
good_balances_from w (par ∷ pars) = good_balance (position w) par && good_balances_from (suc w) pars

-- A balance too large or nonzero with itself: number 4.
unfoldable pub bad_balances : List ℕ → Bool
bad_balances balances = not (good_balances_from 0 balances)

-- Numbers 1 to 3, which every call can meet.
unfoldable pub table_causes : List ℕ → List ℕ → List ℕ → List Cause
table_causes calendar tables balances =
    cause 1 (wrong_length calendar tables balances)
    ∷ cause 2 (bad_calendar calendar)
    ∷ cause 3 (not (good_tables calendar tables))
    ∷ []

-- The book's day and balances: number 4.
unfoldable pub state_causes : List ℕ → ℕ → List ℕ → List Cause
state_causes calendar day balances = cause 4 (bad_day calendar day || bad_balances balances) ∷ []

-- Numbers 1 to 4 of a close and of a run of a stream; calendar, tables, book and balances are sound where none applies.
unfoldable pub book_causes : List ℕ → List ℕ → ℕ → List ℕ → List Cause
book_causes calendar tables day balances = table_causes calendar tables balances ++ state_causes calendar day balances

-- Date limits of another length or that break a rule: number 12. Pieces of another length or with a number outside the range: number 13.
unfoldable pub lent_causes : List ℕ → List ℕ → List Cause
lent_causes limits pieces =
    cause 12 (not (good_limits limits))
    ∷ cause 13 (not (good_pieces pieces))
    ∷ []

-- Numbers 1 to 3, 12, 13 and 4 of a transfer, which is lent limits and pieces: 12 comes after 3, and 13 after 12.
unfoldable pub lent_book_causes : List ℕ → List ℕ → List ℕ → List ℕ → ℕ → List ℕ → List Cause
lent_book_causes calendar tables limits pieces day balances =
    table_causes calendar tables balances ++ (lent_causes limits pieces ++ state_causes calendar day balances)

-- Opening can meet only 1 to 4, and for 4 only the day's causes.
unfoldable pub opening_causes : List ℕ → List ℕ → List ℕ → ℕ → List Cause
opening_causes calendar tables balances day = table_causes calendar tables balances ++ (cause 4 (bad_day calendar day) ∷ [])

-- Calendar, saved balances or the balances that they are carried over to of wrong length: number 1.
unfoldable pub wrong_carry : List ℕ → List ℕ → List ℕ → Bool
wrong_carry calendar saved balances =
    not (eqb (length calendar) calendar_words) || not (eqb (length saved) tracking_words) || not (eqb (length balances) balance_words)

-- Numbers 1, 2 and 4 of a call that is lent no tables, by whether a length is wrong.
abbrev pub untabled_causes : Bool → List ℕ → ℕ → List ℕ → List Cause
untabled_causes wrong calendar day balances = cause 1 wrong ∷ cause 2 (bad_calendar calendar) ∷ state_causes calendar day balances

-- Carrying a book over can meet 1, 2, and 4 for its day and its saved balances. What the balances held does not matter.
unfoldable pub carry_causes : List ℕ → ℕ → List ℕ → List ℕ → List Cause
carry_causes calendar day saved balances = untabled_causes (wrong_carry calendar saved balances) calendar day saved

-- Setting a mark and going back to one can meet 1, 2 and 4 for the present book, before what they can meet for the mark.
unfoldable pub present_causes : List ℕ → ℕ → List ℕ → List Cause
present_causes calendar day balances =
    untabled_causes (not (eqb (length calendar) calendar_words) || not (eqb (length balances) balance_words)) calendar day balances
