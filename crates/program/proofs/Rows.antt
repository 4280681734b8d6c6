-- Computed rows: what claimrun writes on the book of document 01's cases and on books that are refused, and its steps on a stream that is
-- read in two pieces, in an output with room for one record.
use mathlib.Core.Path.{◌≡◌, refl}
use mathlib.Core.Bool.{Bool, true, false, cond, not, ◌&&◌}
use mathlib.Core.List.{List, [], ◌∷◌, ◌++◌}
use Prim.Native.Nat.{ℕ}
use lib.Dec.{eqb}
use lib.ListN.{length, replicate, take, drop, set}
use Rattle.lists.specs.Numbers.{bytes_of}
use Rattle.lists.specs.Put.{put}
use Rattle.days.specs.Weekdays.{weekdays}
use Rattle.securities.specs.Cases.{case_tables}
use Rattle.stream.proofs.Rows.{message, closing, example, accepted, five, same_bytes}
use Rattle.program.specs.Claimrun.{missing, holds, no_balances, claimrun_bytes}
use Rattle.program.specs.Steps.{begins, Holding, holding, pending, to_write, stepped}
use Rattle.program.specs.Statement.{at_first}
use Rattle.program.proofs.Opened.{opened_program}

-- ---- books

word_bytes : List ℕ → List ℕ
word_bytes [] = []
word_bytes (w ∷ ws) = bytes_of 4 w ++ word_bytes ws

-- the calendar and the tables of the cases with an opening day
book_on : ℕ → List ℕ
book_on day = word_bytes weekdays ++ (word_bytes case_tables ++ bytes_of 4 day)

answered : ℕ → List ℕ
answered n = 4 ∷ 0 ∷ 4 ∷ 0 ∷ n ∷ 0 ∷ []

-- ---- all that is written

books : Bool
books =
    same_bytes (claimrun_bytes missing message) (answered 1)
    && same_bytes (claimrun_bytes (holds []) message) (answered 1)
    && same_bytes (claimrun_bytes (holds (take 9219 (book_on 20230404))) message) (answered 1)
    && same_bytes (claimrun_bytes (holds (book_on 20230404 ++ (0 ∷ []))) message) (answered 1)
    && same_bytes (claimrun_bytes (holds (set (book_on 20230404) 3 128)) message) (answered 2)
    && same_bytes (claimrun_bytes (holds (set (book_on 20230404) 1920 5)) message) (answered 3)
    && same_bytes (claimrun_bytes (holds (book_on 20230401)) message) (answered 4)

streams : Bool
streams =
    same_bytes (claimrun_bytes (holds (book_on 20230404)) []) []
    && same_bytes (claimrun_bytes (holds (book_on 20230404)) message) example
    && same_bytes (claimrun_bytes (holds (book_on 20230404)) (message ++ take 3 message)) (example ++ five)
    && same_bytes (claimrun_bytes (holds (book_on 20230404)) (closing ++ (7 ∷ 0 ∷ 7 ∷ 0 ∷ message))) (accepted ++ five)

-- ---- steps

same_flag : Bool → Bool → Bool
same_flag a b = cond a b (not b)

-- day, count, bytes left, what is to be written, and the three flags
same_holding : Holding → ℕ → ℕ → List ℕ → List ℕ → Bool → Bool → Bool → Bool
same_holding h day count left bytes ended over asks =
    eqb h.held.book.day day && eqb h.held.book.count count && same_bytes (pending h) left && same_bytes (to_write h) bytes
    && same_flag h.held.ended ended && same_flag h.held.over over && same_flag h.held.asks asks

-- the next bytes are read behind those not worked yet
reading : Holding → List ℕ → Holding
reading h bytes = stepped weekdays case_tables (holding h.held h.balances (put h.input h.held.left bytes) h.output) (length bytes)

-- opened, in an output with room for one record
first : Holding
first = at_first (begins (book_on 20230404) weekdays case_tables no_balances (replicate 65542 0)) (replicate 160 0)

-- a part of the transfer; the rest with a close and the beginning of a record; twice more of what is there; the end
steps : Bool
steps =
    let a = reading first (take 100 message) in
    let b = reading a (drop 100 message ++ (closing ++ (139 ∷ []))) in
    let c = reading b [] in
    let d = reading c [] in
    let e = reading d [] in
    let f = reading e [] in
    same_holding first 20230404 0 [] [] false false true
    && same_holding a 20230404 0 (take 100 message) [] false false true
    && same_holding b 20230404 1 (closing ++ (139 ∷ [])) example false false false
    && same_holding c 20230405 1 (139 ∷ []) accepted false false false
    && same_holding d 20230405 1 (139 ∷ []) [] false false true
    && same_holding e 20230405 1 (139 ∷ []) five true true false
    && same_holding f 20230405 1 (139 ∷ []) [] true true false

-- input that ends where a record would begin, and a book that is refused
ends : Bool
ends =
    let a = reading first closing in
    let b = reading a [] in
    let c = reading b [] in
    let r = at_first (begins (book_on 20230401) weekdays case_tables no_balances (replicate 6 9)) (replicate 160 0) in
    let s = reading r [] in
    same_holding a 20230405 0 [] accepted false false false
    && same_holding b 20230405 0 [] [] false false true
    && same_holding c 20230405 0 [] [] true true false
    && same_holding r 20000101 0 [] (answered 4) false true false
    && same_holding s 20000101 0 [] [] false true false

-- a loan of 50,000 that account 1 starts with account 2 and the return of 20,000, each with a read of its own, then a close whose first
-- three bytes come alone
loaned : ℕ → ℕ → ℕ → ℕ → ℕ → List ℕ
loaned sender receiver code low high = (139 ∷ 0 ∷ 1 ∷ 0 ∷ sender ∷ receiver ∷ 0 ∷ 0 ∷ code ∷ low ∷ high ∷ 0 ∷ 0 ∷ []) ++ replicate 128 32

kept : Bool
kept =
    let a = reading first (loaned 1 2 1 80 195) in
    let b = reading a [] in
    let c = reading b (loaned 2 1 3 32 78) in
    let d = reading c [] in
    let e = reading d (take 3 closing) in
    let f = reading e (drop 3 closing) in
    same_holding a 20230404 1 [] accepted false false false
    && same_holding c 20230404 2 [] accepted false false false
    && same_holding e 20230404 2 (take 3 closing) [] false false true
    && same_holding f 20230405 2 [] accepted false false false

-- ---- the theorems

unfoldable whole : ℕ
unfolding opened_program message closing example accepted five same_bytes word_bytes book_on answered
whole = 0

unfoldable stepping : ℕ
unfolding same_flag same_holding reading first loaned
stepping = 0

books_hold : books ≡ true
unfolding whole books
books_hold = refl

streams_hold : streams ≡ true
unfolding whole streams
streams_hold = refl

steps_hold : steps && ends ≡ true
unfolding whole stepping steps ends
steps_hold = refl

kept_holds : kept ≡ true
unfolding whole stepping kept
kept_holds = refl
