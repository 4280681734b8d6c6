-- Computed rows: what each tracking code does to 8,192 balances, when it is refused, which par is off its piece (document 02, card 6),
-- which day is before lending (card 7), which calendars, tables, days, balances and pieces are sound, which saved book can be carried over
-- (card 8), and which book can be marked (card 9).
use mathlib.Core.Path.{◌≡◌, refl}
use mathlib.Core.Bool.{Bool, true, cond, ◌&&◌}
use mathlib.Core.List.{List, [], ◌∷◌}
use Prim.Native.Nat.{ℕ, ◌+◌, ◌*◌}
use lib.Dec.{eqb}
use lib.ListN.{get_or, replicate, set}
use Rattle.lists.specs.All.{all}
use Rattle.lists.specs.First.{first_of}
use Rattle.days.specs.Weekdays.{weekdays}
use Rattle.records.specs.declared.Transfer.{Transfer}
use Rattle.securities.specs.Cases.{case_tables}
use Rattle.securities.specs.Lent.{ones}
use Rattle.book.specs.Loans.{change_of, changed, above_balance, past_limit, posting_causes}
use Rattle.book.specs.Soundness.{book_causes, lent_book_causes, opening_causes, carry_causes, present_causes}
use Rattle.book.proofs.Opened.{opened_book}

-- ---- loans

-- in security 3: on loan account 1 has lent account 2 40,000 and account 2 has lent account 1 9,000,000,000; on repo 30,000 and
-- 8,999,999,950
held : List ℕ
held =
    set (set (set (set (replicate 8192 0)
    (256 * 3 + 16 * 1 + 2) 40000)
    (256 * 3 + 16 * 2 + 1) 9000000000)
    (4096 + 256 * 3 + 16 * 1 + 2) 30000)
    (4096 + 256 * 3 + 16 * 2 + 1) 8999999950

-- a transfer from account 1 to account 2, or back, in security 3
sent : ℕ → ℕ → ℕ → ℕ → Transfer
sent sender receiver code par = record { sender = sender; receiver = receiver; security = 3; class = 0; code = code; par = par }

-- a transfer; the two balances on loan and the two on repo after it; whether 7 and 8 apply, as 1 or 0
record Row : Type 0 where
  transfer : Transfer
  after : List ℕ
  above : ℕ
  past : ℕ

abbrev row : Transfer → ℕ → ℕ → ℕ → ℕ → ℕ → ℕ → Row
row t l b r s a p = record { transfer = t; after = l ∷ b ∷ r ∷ s ∷ []; above = a; past = p }

rows : List Row
rows =
    row (sent 1 2 0 100) 40000 9000000000 30000 8999999950 0 0
    ∷ row (sent 1 2 1 100) 40100 9000000000 30000 8999999950 0 0
    ∷ row (sent 1 2 4 100) 40100 9000000000 30000 8999999950 0 0
    ∷ row (sent 1 2 5 100) 40100 9000000000 30000 8999999950 0 0
    ∷ row (sent 2 1 2 100) 39900 9000000000 30000 8999999950 0 0
    ∷ row (sent 2 1 3 40000) 0 9000000000 30000 8999999950 0 0
    ∷ row (sent 2 1 6 40001) 0 9000000000 30000 8999999950 1 0
    ∷ row (sent 1 2 2 100) 40000 8999999900 30000 8999999950 0 0
    ∷ row (sent 1 2 3 100) 40000 8999999900 30000 8999999950 0 0
    ∷ row (sent 1 2 6 100) 40000 8999999900 30000 8999999950 0 0
    ∷ row (sent 2 1 1 1) 40000 9000000001 30000 8999999950 0 1
    ∷ row (sent 1 2 7 100) 40000 9000000000 30100 8999999950 0 0
    ∷ row (sent 1 2 10 100) 40000 9000000000 30100 8999999950 0 0
    ∷ row (sent 1 2 11 100) 40000 9000000000 30100 8999999950 0 0
    ∷ row (sent 2 1 8 100) 40000 9000000000 29900 8999999950 0 0
    ∷ row (sent 2 1 9 30000) 40000 9000000000 0 8999999950 0 0
    ∷ row (sent 2 1 12 30001) 40000 9000000000 0 8999999950 1 0
    ∷ row (sent 2 1 12 35000) 40000 9000000000 0 8999999950 1 0
    ∷ row (sent 1 2 8 100) 40000 9000000000 30000 8999999850 0 0
    ∷ row (sent 1 2 9 100) 40000 9000000000 30000 8999999850 0 0
    ∷ row (sent 1 2 12 100) 40000 9000000000 30000 8999999850 0 0
    ∷ row (sent 2 1 7 50) 40000 9000000000 30000 9000000000 0 0
    ∷ row (sent 2 1 11 51) 40000 9000000000 30000 9000000001 0 1
    ∷ row (sent 1 2 13 100) 40000 9000000000 30000 8999999950 0 0
    ∷ []

flag : Bool → ℕ
flag b = cond b 1 0

holds : Row → Bool
holds r =
    let t = r.transfer in
    let after = changed held (change_of t) t.par in
    let at : ℕ → ℕ → Bool = λ w n. eqb (get_or after w 0) (get_or r.after n 0) in
    at (256 * 3 + 16 * 1 + 2) 0 && at (256 * 3 + 16 * 2 + 1) 1 && at (4096 + 256 * 3 + 16 * 1 + 2) 2 && at (4096 + 256 * 3 + 16 * 2 + 1) 3
    && eqb (flag (above_balance held (change_of t) t.par)) r.above
    && eqb (flag (past_limit held (change_of t) t.par)) r.past

-- ---- pieces

-- security 3 comes in pieces of 1,000, security 0 in pieces of 7; account 1 has lent account 2 40,500, and on repo 2,500
pieces : List ℕ
pieces = set (set ones 3 1000) 0 7

odd : List ℕ
odd = set (set (replicate 8192 0) (256 * 3 + 16 * 1 + 2) 40500) (4096 + 256 * 3 + 16 * 1 + 2) 2500

posting_on : ℕ → List ℕ → Transfer → ℕ → Bool
posting_on day lent t number = eqb (first_of (posting_causes lent day odd t)) number

posting : List ℕ → Transfer → ℕ → Bool
posting lent t number = posting_on 20230404 lent t number

-- a transfer without a code, a start and a start of repo, on and off the piece
posted : Bool
posted =
    posting pieces (sent 1 2 0 200000) 0
    && posting pieces (sent 1 2 0 200500) 14
    && posting pieces (sent 1 2 1 1000) 0
    && posting pieces (sent 1 2 1 1500) 14
    && posting pieces (sent 1 2 7 999) 14
    && posting pieces (sent 1 2 13 500) 14
    -- a return: the whole balance; less; off the piece; above the balance, on and off the piece
    && posting pieces (sent 2 1 3 40500) 0
    && posting pieces (sent 2 1 3 40000) 0
    && posting pieces (sent 2 1 3 500) 14
    && posting pieces (sent 2 1 3 41000) 7
    && posting pieces (sent 2 1 3 41500) 14
    && posting pieces (sent 2 1 2 40500) 0
    && posting pieces (sent 2 1 6 40500) 0
    && posting pieces (sent 2 1 6 40499) 14
    -- par of the whole balance that takes nothing from it: increases, the other way, the other tracking
    && posting pieces (sent 1 2 0 40500) 14
    && posting pieces (sent 1 2 1 40500) 14
    && posting pieces (sent 1 2 4 40500) 14
    && posting pieces (sent 2 1 5 40500) 14
    && posting pieces (sent 1 2 3 40500) 14
    && posting pieces (sent 2 1 9 40500) 14
    && posting pieces (sent 2 1 3 2500) 14
    && posting pieces (sent 2 1 9 2500) 0
    && posting pieces (sent 2 1 8 2000) 0
    && posting pieces (sent 2 1 12 3000) 7
    && posting pieces (sent 2 1 12 1500) 14
    && posting pieces (sent 1 2 9 1500) 14
    -- ones are pieces of every par
    && posting ones (sent 1 2 0 200500) 0
    && posting ones (sent 2 1 3 1) 0
    && posting ones (sent 2 1 3 40501) 7
    && posting (replicate 16 1000000) (sent 1 2 0 1000000) 0
    && posting (replicate 16 1000000) (sent 1 2 0 999999) 14

-- before the 2023 memo: codes 1 to 6, also of the whole balance, above it and off the piece; then no code, repo, and the memo's day
early : Bool
early =
    posting_on 20230127 pieces (sent 1 2 1 1000) 15
    && posting_on 20230127 pieces (sent 2 1 2 1000) 15
    && posting_on 20230127 pieces (sent 2 1 3 40500) 15
    && posting_on 20230127 pieces (sent 1 2 4 1000) 15
    && posting_on 20230127 pieces (sent 1 2 5 1000) 15
    && posting_on 20230127 pieces (sent 2 1 6 1000) 15
    && posting_on 20230129 pieces (sent 2 1 3 41000) 15
    && posting_on 20000103 ones (sent 1 2 1 1) 15
    && posting_on 20230127 pieces (sent 1 2 1 1500) 14
    && posting_on 20230127 pieces (sent 2 1 3 41500) 14
    && posting_on 20230127 pieces (sent 1 2 0 1000) 0
    && posting_on 20230127 pieces (sent 1 2 7 1000) 0
    && posting_on 20230127 pieces (sent 2 1 8 1000) 0
    && posting_on 20230127 pieces (sent 2 1 12 3000) 7
    && posting_on 20230127 pieces (sent 1 2 13 1000) 0
    && posting_on 20230130 pieces (sent 1 2 1 1000) 0
    && posting_on 20230130 pieces (sent 2 1 6 41000) 7

-- ---- soundness

number : List ℕ → List ℕ → ℕ → List ℕ → ℕ
number calendar tables day balances = first_of (book_causes calendar tables day balances)

zeros : List ℕ
zeros = replicate 8192 0

judged : Bool
judged =
    eqb (number weekdays case_tables 20230404 zeros) 0
    && eqb (number weekdays case_tables 20230404 held) 0
    && eqb (number (replicate 479 0) case_tables 20230404 zeros) 1
    && eqb (number weekdays (replicate 1825 0) 20230404 zeros) 1
    && eqb (number [] [] 0 []) 1
    && eqb (number weekdays case_tables 20230404 (replicate 4096 0)) 1
    && eqb (number weekdays case_tables 20230404 (replicate 8191 0)) 1
    && eqb (number weekdays case_tables 20230404 (replicate 8193 0)) 1
    && eqb (number (set weekdays 1 4294967295) (set case_tables 0 9) 20230404 zeros) 2
    && eqb (number weekdays (set case_tables 0 9) 20230405 (set zeros 0 1)) 3
    && eqb (number weekdays case_tables 20230401 zeros) 4
    && eqb (number weekdays case_tables 20391230 zeros) 4
    && eqb (number weekdays case_tables 0 zeros) 4
    && eqb (number weekdays case_tables 20230404 (set zeros (256 * 3 + 16 * 5 + 5) 1)) 4
    && eqb (number weekdays case_tables 20230404 (set zeros 4094 9000000001)) 4
    && eqb (number weekdays case_tables 20230404 (set zeros 4094 9000000000)) 0
    && eqb (number weekdays case_tables 20230404 (set zeros (4096 + 85) 1)) 4
    && eqb (number weekdays case_tables 20230404 (set zeros 8190 9000000001)) 4
    && eqb (number weekdays case_tables 20230404 (set zeros 8190 9000000000)) 0
    && eqb (number weekdays case_tables 20230404 (set zeros 8191 1)) 4
    && eqb (first_of (opening_causes weekdays case_tables (set zeros 0 1) 20230404)) 0
    && eqb (first_of (opening_causes weekdays case_tables (replicate 4096 0) 20230404)) 1
    && eqb (first_of (opening_causes weekdays case_tables (set zeros 0 1) 20230401)) 4

-- limits: good, then with 12 after 1, 2 and 3 and before 4
lent_number : List ℕ → List ℕ → List ℕ → ℕ → List ℕ → ℕ
lent_number calendar tables limits day balances = first_of (lent_book_causes calendar tables limits pieces day balances)

published : List ℕ
published = 7 ∷ 6 ∷ 3 ∷ 2 ∷ 1 ∷ []

lent : Bool
lent =
    eqb (lent_number weekdays case_tables published 20230404 held) 0
    && eqb (lent_number weekdays case_tables (1 ∷ 16 ∷ 16 ∷ 16 ∷ 16 ∷ []) 20230404 zeros) 0
    && eqb (lent_number (replicate 479 0) case_tables [] 20230401 zeros) 1
    && eqb (lent_number weekdays case_tables [] 20230404 (replicate 4096 0)) 1
    && eqb (lent_number (set weekdays 1 4294967295) case_tables [] 20230401 zeros) 2
    && eqb (lent_number weekdays (set case_tables 0 9) [] 20230401 zeros) 3
    && eqb (lent_number weekdays case_tables [] 20230404 zeros) 12
    && eqb (lent_number weekdays case_tables (7 ∷ 6 ∷ 7 ∷ 2 ∷ 1 ∷ []) 20230401 zeros) 12
    && eqb (lent_number weekdays case_tables (0 ∷ 6 ∷ 3 ∷ 2 ∷ 1 ∷ []) 20230404 (set zeros 0 1)) 12
    && eqb (lent_number weekdays case_tables published 20230401 zeros) 4
    && eqb (lent_number weekdays case_tables published 20230404 (set zeros 8191 1)) 4

-- pieces: with 13 after 1, 2, 3 and 12 and before 4
piece_number : List ℕ → List ℕ → List ℕ → List ℕ → ℕ → List ℕ → ℕ
piece_number calendar tables limits list day balances = first_of (lent_book_causes calendar tables limits list day balances)

lent_pieces : Bool
lent_pieces =
    eqb (piece_number weekdays case_tables published ones 20230404 odd) 0
    && eqb (piece_number weekdays case_tables published (replicate 16 1000000) 20230404 odd) 0
    && eqb (piece_number (replicate 479 0) case_tables [] [] 20230401 zeros) 1
    && eqb (piece_number (set weekdays 1 4294967295) case_tables published [] 20230401 zeros) 2
    && eqb (piece_number weekdays (set case_tables 0 9) published [] 20230401 zeros) 3
    && eqb (piece_number weekdays case_tables [] [] 20230401 zeros) 12
    && eqb (piece_number weekdays case_tables published [] 20230404 zeros) 13
    && eqb (piece_number weekdays case_tables published (replicate 15 1) 20230401 zeros) 13
    && eqb (piece_number weekdays case_tables published (replicate 17 1) 20230404 zeros) 13
    && eqb (piece_number weekdays case_tables published (set ones 0 0) 20230404 (set zeros 0 1)) 13
    && eqb (piece_number weekdays case_tables published (set ones 15 0) 20230404 zeros) 13
    && eqb (piece_number weekdays case_tables published (set ones 15 1000001) 20230404 zeros) 13
    && eqb (piece_number weekdays case_tables published pieces 20230401 zeros) 4

-- carrying over: with 1 before 2, 2 before 4, and 4 for the day and for saved balances alone
carry_number : List ℕ → ℕ → List ℕ → List ℕ → ℕ
carry_number calendar day saved balances = first_of (carry_causes calendar day saved balances)

saved : List ℕ
saved = replicate 4096 0

carry : Bool
carry =
    eqb (carry_number weekdays 20230404 (set saved 18 15000) zeros) 0
    && eqb (carry_number weekdays 20230404 saved (set zeros 0 1)) 0
    && eqb (carry_number weekdays 20030404 (set saved 4094 9000000000) zeros) 0
    && eqb (carry_number (replicate 479 4294967295) 20230401 saved zeros) 1
    && eqb (carry_number (set weekdays 1 4294967295) 20230401 (replicate 4095 1) zeros) 1
    && eqb (carry_number weekdays 20230404 zeros zeros) 1
    && eqb (carry_number weekdays 20230401 saved saved) 1
    && eqb (carry_number weekdays 20230404 saved (replicate 8193 0)) 1
    && eqb (carry_number (set weekdays 1 4294967295) 20230401 (set saved 17 1) zeros) 2
    && eqb (carry_number weekdays 20230401 saved zeros) 4
    && eqb (carry_number weekdays 20391230 saved zeros) 4
    && eqb (carry_number weekdays 20230404 (set saved 17 1) zeros) 4
    && eqb (carry_number weekdays 20230404 (set saved 4095 1) zeros) 4
    && eqb (carry_number weekdays 20230404 (set saved 19 9000000001) zeros) 4

-- marks: with 1 before 2, 2 before 4, and 4 for the day and for the present balances
present_number : List ℕ → ℕ → List ℕ → ℕ
present_number calendar day balances = first_of (present_causes calendar day balances)

present : Bool
present =
    eqb (present_number weekdays 20230404 held) 0
    && eqb (present_number weekdays 20030404 (set zeros 8190 9000000000)) 0
    && eqb (present_number (replicate 479 4294967295) 20230401 (set zeros 0 1)) 1
    && eqb (present_number (replicate 481 0) 20230404 zeros) 1
    && eqb (present_number (set weekdays 1 4294967295) 20230401 saved) 1
    && eqb (present_number weekdays 20230404 (replicate 8193 0)) 1
    && eqb (present_number weekdays 20230404 []) 1
    && eqb (present_number (set weekdays 1 4294967295) 20230401 (set zeros 17 1)) 2
    && eqb (present_number weekdays 20230401 zeros) 4
    && eqb (present_number weekdays 20391230 zeros) 4
    && eqb (present_number weekdays 0 zeros) 4
    && eqb (present_number weekdays 20230404 (set zeros 17 1)) 4
    && eqb (present_number weekdays 20230404 (set zeros 8191 1)) 4
    && eqb (present_number weekdays 20230404 (set zeros 19 9000000001)) 4

rows_hold : all holds rows && posted && early && judged && lent && lent_pieces && carry && present ≡ true
unfolding opened_book held sent rows flag holds pieces odd posting_on posting posted early number zeros judged lent_number published lent piece_number lent_pieces carry_number saved carry present_number present
rows_hold = refl
