-- Computed rows: what inputs begin with, and document 01's hex example as a stream, at full size: its claim and answer, the answer to a
-- close, and a 5 for what stands behind them; then the same bytes where more may follow, and in an output without room;
-- and closes whose claims fill more than half of the claim buffer, and more than all of it.
use mathlib.Core.Path.{◌≡◌, refl}
use mathlib.Core.Bool.{Bool, true, false, cond, not, ◌&&◌}
use mathlib.Core.List.{List, [], ◌∷◌, ◌++◌}
use Prim.Native.Nat.{ℕ, zero, suc, ◌+◌, ◌-◌, ◌*◌}
use lib.Dec.{eqb}
use lib.ListN.{length, replicate, take, drop}
use Rattle.lists.specs.Sums.{sum}
use Rattle.days.specs.Weekdays.{weekdays}
use Rattle.securities.specs.Cases.{case_tables}
use Rattle.book.specs.declared.Book.{Book}
use Rattle.stream.specs.declared.Next.{Next}
use Rattle.stream.specs.declared.Next.TheVariants.{Waiting, Wrong, Record}
use Rattle.stream.specs.Stream.{next, stream_bytes}
use Rattle.stream.specs.Serving.{Serving, serving}
use Rattle.stream.proofs.Opened.{opened_stream}

-- ---- bytes

-- the first case's transfer from account 1 to 2 in security 0, class and code 0, par 200,000, with Contract Date 20230315
unfoldable pub message : List ℕ
message =
    (139 ∷ 0 ∷ 1 ∷ 0 ∷ 1 ∷ 2 ∷ 0 ∷ 0 ∷ 0 ∷ 64 ∷ 13 ∷ 3 ∷ 0 ∷ [])
    ++ ((123 ∷ 57 ∷ 56 ∷ 65 ∷ 58 ∷ 67 ∷ 78 ∷ 84 ∷ 82 ∷ 47 ∷ 50 ∷ 48 ∷ 50 ∷ 51 ∷ 48 ∷ 51 ∷ 49 ∷ 53 ∷ 125 ∷ []) ++ replicate 109 32)

unfoldable pub closing : List ℕ
closing = 2 ∷ 0 ∷ 2 ∷ 0 ∷ []

-- document 01's hex example
unfoldable pub example : List ℕ
example =
    33 ∷ 0 ∷ 3 ∷ 0 ∷ 1 ∷ 0 ∷ 1 ∷ 2 ∷ 0 ∷ 0 ∷ 1 ∷ 0 ∷ 0 ∷ 0 ∷ 160 ∷ 134 ∷ 1 ∷ 0 ∷ 0 ∷ 0 ∷ 0 ∷ 0 ∷ 0 ∷ 0 ∷ 0 ∷ 0 ∷ 0 ∷ 0 ∷ 0 ∷ 0 ∷ 17 ∷ 177 ∷ 52 ∷ 1 ∷ 3
    ∷ 4 ∷ 0 ∷ 4 ∷ 0 ∷ 0 ∷ 0 ∷ []

unfoldable pub accepted : List ℕ
accepted = 4 ∷ 0 ∷ 4 ∷ 0 ∷ 0 ∷ 0 ∷ []

unfoldable pub five : List ℕ
five = 4 ∷ 0 ∷ 4 ∷ 0 ∷ 5 ∷ 0 ∷ []

-- ---- what inputs begin with

same_next : Next → Next → Bool
same_next (Record n) (Record m) = eqb n m
same_next (Record n) Waiting = false
same_next (Record n) Wrong = false
same_next Waiting (Record m) = false
same_next Waiting Waiting = true
same_next Waiting Wrong = false
same_next Wrong (Record m) = false
same_next Wrong Waiting = false
same_next Wrong Wrong = true

begins : Bool
begins =
    same_next (next true []) Waiting && same_next (next false []) Waiting
    && same_next (next true (139 ∷ 0 ∷ 1 ∷ [])) Wrong && same_next (next false (139 ∷ 0 ∷ 1 ∷ [])) Waiting
    && same_next (next true (take 140 message)) Wrong && same_next (next false (take 140 message)) Waiting
    && same_next (next true message) (Record 141) && same_next (next false (message ++ closing)) (Record 141)
    && same_next (next false closing) (Record 4) && same_next (next true (closing ++ message)) (Record 4)
    && same_next (next false (2 ∷ 0 ∷ 1 ∷ 0 ∷ [])) Wrong && same_next (next false (139 ∷ 0 ∷ 2 ∷ 0 ∷ [])) Wrong
    && same_next (next false (139 ∷ 1 ∷ 1 ∷ 0 ∷ [])) Wrong && same_next (next false (2 ∷ 0 ∷ 2 ∷ 1 ∷ [])) Wrong
    && same_next (next false (33 ∷ 0 ∷ 3 ∷ 0 ∷ [])) Wrong && same_next (next true (4 ∷ 0 ∷ 4 ∷ 0 ∷ 0 ∷ 0 ∷ [])) Wrong

-- ---- the hex example

unfoldable pub same_bytes : List ℕ → List ℕ → Bool
same_bytes [] [] = true
same_bytes [] (y ∷ ys) = false
same_bytes (x ∷ xs) [] = false
same_bytes (x ∷ xs) (y ∷ ys) = eqb x y && same_bytes xs ys

book : Book
book = record { day = 20230404; count = 0 }

input : List ℕ
input = message ++ (closing ++ (139 ∷ 0 ∷ 1 ∷ []))

-- a run's day, count, bytes worked, bytes written, and whether a 5 has ended it
same_run : Serving → ℕ → ℕ → ℕ → List ℕ → Bool → Bool
same_run s day count consumed bytes over =
    eqb s.book.day day && eqb s.book.count count && eqb s.consumed consumed && same_bytes s.bytes bytes
    && cond s.over over (not over)

runs : Bool
runs =
    same_run (serving weekdays case_tables true book (replicate 8192 0) input 200000) 20230405 1 145 (example ++ (accepted ++ five)) true
    && same_run (serving weekdays case_tables false book (replicate 8192 0) input 200000) 20230405 1 145 (example ++ accepted) false
    && same_run (serving weekdays case_tables true book (replicate 8192 0) input 65582) 20230404 1 141 example false
    && same_bytes (stream_bytes weekdays case_tables book (replicate 8192 0) input) (example ++ (accepted ++ five))

-- ---- closes with many claims

-- n rows of a security from 1 April 2023 on
payment_rows : ℕ → List ℕ
payment_rows zero = []
payment_rows (suc n) = payment_rows n ++ ((20230401 + n) ∷ (20230401 + n) ∷ 20230415 ∷ 5000000 ∷ (1000000 + n * 1000000) ∷ 0 ∷ 0 ∷ [])

-- an agency MBS with two or three rows
two_rows : List ℕ
two_rows = (3 ∷ 1 ∷ []) ++ (payment_rows 2 ++ replicate 98 0)

three_rows : List ℕ
three_rows = (3 ∷ 1 ∷ []) ++ (payment_rows 3 ++ replicate 91 0)

-- n lenders have lent every other account 1,000
lenders : ℕ → List ℕ
lenders zero = []
lenders (suc n) = lenders n ++ (replicate n 1000 ++ (0 ∷ replicate (15 - n) 1000))

friday : Book
friday = record { day = 20230331; count = 0 }

-- two rows of two securities, 240 loans in each: 960 claims, 33,600 bytes
many : Bool
many =
    let bytes = stream_bytes weekdays (two_rows ++ (two_rows ++ replicate 1596 0)) friday (lenders 16 ++ (lenders 16 ++ replicate 7680 0)) closing in
    eqb (length bytes) 33606
    && eqb (sum (λ b. b) bytes) 672008
    && same_bytes (take 35 bytes)
    (33 ∷ 0 ∷ 3 ∷ 0 ∷ 3 ∷ 0 ∷ 1 ∷ 0 ∷ 0 ∷ 0 ∷ 0 ∷ 0 ∷ 0 ∷ 0 ∷ 244 ∷ 1 ∷ 0 ∷ 0 ∷ 0 ∷ 0 ∷ 0 ∷ 0 ∷ 100 ∷ 0 ∷ 0 ∷ 0 ∷ 0 ∷ 0 ∷ 0 ∷ 0 ∷ 17 ∷ 177 ∷ 52 ∷ 1 ∷ 3 ∷ [])
    && same_bytes (drop 33565 bytes)
    ((33 ∷ 0 ∷ 3 ∷ 0 ∷ 3 ∷ 0 ∷ 14 ∷ 15 ∷ 1 ∷ 1 ∷ 0 ∷ 0 ∷ 0 ∷ 0 ∷ 244 ∷ 1 ∷ 0 ∷ 0 ∷ 0 ∷ 0 ∷ 0 ∷ 0 ∷ 200 ∷ 0 ∷ 0 ∷ 0 ∷ 0 ∷ 0 ∷ 0 ∷ 0 ∷ 17 ∷ 177 ∷ 52 ∷ 1 ∷ 3 ∷ []) ++ accepted)

-- three rows of three securities: 2,160 claims, for which 64 KiB have no room
too_many : Bool
too_many =
    same_bytes
    (stream_bytes weekdays (three_rows ++ (three_rows ++ (three_rows ++ replicate 1482 0))) friday
    (lenders 16 ++ (lenders 16 ++ (lenders 16 ++ replicate 7424 0))) closing)
    (4 ∷ 0 ∷ 4 ∷ 0 ∷ 10 ∷ 0 ∷ [])

-- ---- the theorems

rows_hold : begins && runs ≡ true
unfolding opened_stream message closing example accepted five same_next begins same_bytes book input same_run runs
rows_hold = refl

many_claims_hold : many && too_many ≡ true
unfolding opened_stream closing accepted same_bytes payment_rows two_rows three_rows lenders friday many too_many
many_claims_hold = refl
