-- The cases marked P, the mistakes that document 01 rules out, and a list of calls, each as a row: an opening, calls with real message
-- bytes, and every answer written out. One theorem covers all rows, run on the stored book, at full size: 480 words of calendar, 1,824 of
-- tables, 8,192 balances. A second one computes the ledger of a list of four calls; that run and ledger agree on every list is
-- `every_history`.
use mathlib.Core.Path.{◌≡◌, refl}
use mathlib.Core.Bool.{Bool, true, false, ◌&&◌}
use mathlib.Core.List.{List, [], ◌∷◌, ◌++◌}
use Prim.Native.Nat.{ℕ, ◌+◌, ◌/◌, ◌%◌}
use lib.Dec.{eqb}
use lib.ListN.{get_or, replicate}
use Rattle.lists.specs.All.{all}
use Rattle.days.specs.Weekdays.{weekdays}
use Rattle.securities.specs.declared.Row.{Row}
use Rattle.securities.specs.Cases.{case_tables}
use Rattle.securities.specs.Lent.{ones}
use Rattle.claims.specs.Amounts.{of_interest, of_principal, amount, fail_type, outcome_of}
use Rattle.history.specs.Calls.{Call, close, published_transfer}
use Rattle.history.specs.Results.{Answer, opened, run_from}
use Rattle.history.specs.Ledger.{Entry, started, balances_of, judged}
use Rattle.history.specs.Owed.{owed}
use Rattle.history.specs.Statement.{of_all}
use Rattle.history.proofs.Opened.{opened_history}

-- ---- messages

-- the eight digits of a date
digits : ℕ → List ℕ
digits n =
    (48 + n / 10000000) ∷ (48 + n / 1000000 % 10) ∷ (48 + n / 100000 % 10) ∷ (48 + n / 10000 % 10) ∷ (48 + n / 1000 % 10)
    ∷ (48 + n / 100 % 10) ∷ (48 + n / 10 % 10) ∷ (48 + n % 10) ∷ []

-- a free text line with a Contract Date tag, {98A:CNTR/yyyymmdd}, and a line of spaces
tag_line : ℕ → List ℕ
tag_line c = (123 ∷ 57 ∷ 56 ∷ 65 ∷ 58 ∷ 67 ∷ 78 ∷ 84 ∷ 82 ∷ 47 ∷ []) ++ (digits c ++ (125 ∷ replicate 45 32))

blank : List ℕ
blank = replicate 64 32

-- a claim buffer as found
found : ℕ → List ℕ
found n = replicate n 170

-- a transfer in security 0 and class 0 by its sender, receiver, tracking code, par and first line, and the size of its claim buffer
sent : ℕ → ℕ → ℕ → ℕ → List ℕ → ℕ → Call
sent sender receiver code par line room =
    published_transfer ones (record {
      message = (139 ∷ 0 ∷ 1 ∷ 0 ∷ sender ∷ receiver ∷ 0 ∷ 0 ∷ code ∷ (par % 256) ∷ (par / 256 % 256) ∷ (par / 65536 % 256) ∷ (par / 16777216) ∷ []) ++ (line ++ blank);
      buffer = found room;
    })

closed : ℕ → Call
closed room = close (record { message = 2 ∷ 0 ∷ 2 ∷ 0 ∷ []; buffer = found room })

-- ---- rows

-- the number of an answer, the day and count of its book, its claim count and its claim buffer
abbrev answer : ℕ → ℕ → ℕ → ℕ → List ℕ → Answer
answer number day count claims buffer =
    record { number = number; book = record { day = day; count = count }; claims = claims; buffer = buffer }

-- a word of the balances after the list, and what it holds
record Word : Type 0 where
  index : ℕ
  value : ℕ

abbrev word_of : ℕ → ℕ → Word
word_of index value = record { index = index; value = value }

record Case : Type 0 where
  tables : List ℕ
  day : ℕ
  calls : List Call
  answers : List Answer
  held : List Word

-- an annual Treasury with rows for April 2022 and April 2023
annual_tables : List ℕ
annual_tables =
    (1 ∷ 4
    ∷ 20220415 ∷ 20220415 ∷ 20220415 ∷ 20000000 ∷ 0 ∷ 0 ∷ 0
    ∷ 20230415 ∷ 20230415 ∷ 20230417 ∷ 21000000 ∷ 1000000 ∷ 0 ∷ 0
    ∷ [])
    ++ replicate 1808 0

cases : List Case
cases =
    -- P: C 20230315, S 20230404, par 200,000: row 0, 100,000 cents, released 20230417, slot 3.
    (record {
      tables = case_tables;
      day = 20230404;
      calls =
          sent 1 2 0 200000 (tag_line 20230315) 40
          ∷ [];
      answers =
          answer 0 20230404 1 1 (33 ∷ 0 ∷ 3 ∷ 0 ∷ 1 ∷ 0 ∷ 1 ∷ 2 ∷ 0 ∷ 0 ∷ 1 ∷ 0 ∷ 0 ∷ 0 ∷ 160 ∷ 134 ∷ 1 ∷ 0 ∷ 0 ∷ 0 ∷ 0 ∷ 0 ∷ 0 ∷ 0 ∷ 0 ∷ 0 ∷ 0 ∷ 0 ∷ 0 ∷ 0 ∷ 17 ∷ 177 ∷ 52 ∷ 1 ∷ 3
          ∷ 170 ∷ 170 ∷ 170 ∷ 170 ∷ 170 ∷ [])
          ∷ [];
      held = [];
    })
    ∷
    -- P: S 20230420: released 20230421, slot 2.
    (record {
      tables = case_tables;
      day = 20230420;
      calls =
          sent 1 2 0 200000 (tag_line 20230315) 40
          ∷ [];
      answers =
          answer 0 20230420 1 1 (33 ∷ 0 ∷ 3 ∷ 0 ∷ 1 ∷ 0 ∷ 1 ∷ 2 ∷ 0 ∷ 0 ∷ 1 ∷ 0 ∷ 0 ∷ 0 ∷ 160 ∷ 134 ∷ 1 ∷ 0 ∷ 0 ∷ 0 ∷ 0 ∷ 0 ∷ 0 ∷ 0 ∷ 0 ∷ 0 ∷ 0 ∷ 0 ∷ 0 ∷ 0 ∷ 21 ∷ 177 ∷ 52 ∷ 1 ∷ 2
          ∷ 170 ∷ 170 ∷ 170 ∷ 170 ∷ 170 ∷ [])
          ∷ [];
      held = [];
    })
    ∷
    -- P: S 20230509, par 400,000: two claims of 200,000 cents, 20230510 and 20230515.
    (record {
      tables = case_tables;
      day = 20230509;
      calls =
          sent 1 2 0 400000 (tag_line 20230315) 75
          ∷ [];
      answers =
          answer 0 20230509 1 2 (33 ∷ 0 ∷ 3 ∷ 0 ∷ 1 ∷ 0 ∷ 1 ∷ 2 ∷ 0 ∷ 0 ∷ 1 ∷ 0 ∷ 0 ∷ 0 ∷ 64 ∷ 13 ∷ 3 ∷ 0 ∷ 0 ∷ 0 ∷ 0 ∷ 0 ∷ 0 ∷ 0 ∷ 0 ∷ 0 ∷ 0 ∷ 0 ∷ 0 ∷ 0 ∷ 110 ∷ 177 ∷ 52 ∷ 1 ∷ 2
          ∷ 33 ∷ 0 ∷ 3 ∷ 0 ∷ 1 ∷ 0 ∷ 1 ∷ 2 ∷ 0 ∷ 1 ∷ 1 ∷ 0 ∷ 0 ∷ 0 ∷ 64 ∷ 13 ∷ 3 ∷ 0 ∷ 0 ∷ 0 ∷ 0 ∷ 0 ∷ 0 ∷ 0 ∷ 0 ∷ 0 ∷ 0 ∷ 0 ∷ 0 ∷ 0 ∷ 115 ∷ 177 ∷ 52 ∷ 1 ∷ 3
          ∷ 170 ∷ 170 ∷ 170 ∷ 170 ∷ 170 ∷ [])
          ∷ [];
      held = [];
    })
    ∷
    -- P: S 20230331: none.
    (record {
      tables = case_tables;
      day = 20230331;
      calls =
          sent 1 2 0 400000 (tag_line 20230315) 5
          ∷ [];
      answers =
          answer 0 20230331 1 0 (170 ∷ 170 ∷ 170 ∷ 170 ∷ 170 ∷ [])
          ∷ [];
      held = [];
    })
    ∷
    -- P: C 20230401, S 20230404: none.
    (record {
      tables = case_tables;
      day = 20230404;
      calls =
          sent 1 2 0 400000 (tag_line 20230401) 5
          ∷ [];
      answers =
          answer 0 20230404 1 0 (170 ∷ 170 ∷ 170 ∷ 170 ∷ 170 ∷ [])
          ∷ [];
      held = [];
    })
    ∷
    -- P: C 20230405, S 20230515, the Payment Date: May only, slot 2, 20230516.
    (record {
      tables = case_tables;
      day = 20230515;
      calls =
          sent 1 2 0 400000 (tag_line 20230405) 40
          ∷ [];
      answers =
          answer 0 20230515 1 1 (33 ∷ 0 ∷ 3 ∷ 0 ∷ 1 ∷ 0 ∷ 1 ∷ 2 ∷ 0 ∷ 1 ∷ 1 ∷ 0 ∷ 0 ∷ 0 ∷ 64 ∷ 13 ∷ 3 ∷ 0 ∷ 0 ∷ 0 ∷ 0 ∷ 0 ∷ 0 ∷ 0 ∷ 0 ∷ 0 ∷ 0 ∷ 0 ∷ 0 ∷ 0 ∷ 116 ∷ 177 ∷ 52 ∷ 1 ∷ 2
          ∷ 170 ∷ 170 ∷ 170 ∷ 170 ∷ 170 ∷ [])
          ∷ [];
      held = [];
    })
    ∷
    -- P: start 50,000, return 20,000, ADSR 15,000: 15,000; from there ADSR 15,001: 7. P: close of 20230331: April's claim on 15,000 is 7,500 cents.
    (record {
      tables = case_tables;
      day = 20230331;
      calls =
          sent 1 2 1 50000 blank 5
          ∷ sent 2 1 3 20000 blank 5
          ∷ sent 2 1 6 15000 blank 5
          ∷ sent 2 1 6 15001 blank 5
          ∷ closed 40
          ∷ [];
      answers =
          answer 0 20230331 1 0 (170 ∷ 170 ∷ 170 ∷ 170 ∷ 170 ∷ [])
          ∷ answer 0 20230331 2 0 (170 ∷ 170 ∷ 170 ∷ 170 ∷ 170 ∷ [])
          ∷ answer 0 20230331 3 0 (170 ∷ 170 ∷ 170 ∷ 170 ∷ 170 ∷ [])
          ∷ answer 7 20230331 3 0 (170 ∷ 170 ∷ 170 ∷ 170 ∷ 170 ∷ [])
          ∷ answer 0 20230403 3 1 (33 ∷ 0 ∷ 3 ∷ 0 ∷ 3 ∷ 0 ∷ 2 ∷ 1 ∷ 0 ∷ 0 ∷ 0 ∷ 0 ∷ 0 ∷ 0 ∷ 76 ∷ 29 ∷ 0 ∷ 0 ∷ 0 ∷ 0 ∷ 0 ∷ 0 ∷ 0 ∷ 0 ∷ 0 ∷ 0 ∷ 0 ∷ 0 ∷ 0 ∷ 0 ∷ 17 ∷ 177 ∷ 52 ∷ 1 ∷ 3
          ∷ 170 ∷ 170 ∷ 170 ∷ 170 ∷ 170 ∷ [])
          ∷ [];
      held = word_of 18 15000 ∷ word_of 33 0 ∷ [];
    })
    ∷
    -- C on the Beneficiary Date gives no claim: C 20230501, S 20230509; a rule of C ≤ Beneficiary Date would claim May.
    (record {
      tables = case_tables;
      day = 20230509;
      calls =
          sent 1 2 0 400000 (tag_line 20230501) 5
          ∷ [];
      answers =
          answer 0 20230509 1 0 (170 ∷ 170 ∷ 170 ∷ 170 ∷ 170 ∷ [])
          ∷ [];
      held = [];
    })
    ∷
    -- Of two dates an annual Treasury claims the most recent; filling from the oldest would claim row 0.
    (record {
      tables = annual_tables;
      day = 20230418;
      calls =
          sent 1 2 0 200000 (tag_line 20220101) 40
          ∷ [];
      answers =
          answer 0 20230418 1 1 (33 ∷ 0 ∷ 3 ∷ 0 ∷ 1 ∷ 0 ∷ 1 ∷ 2 ∷ 0 ∷ 1 ∷ 1 ∷ 0 ∷ 0 ∷ 0 ∷ 160 ∷ 104 ∷ 6 ∷ 0 ∷ 0 ∷ 0 ∷ 0 ∷ 0 ∷ 32 ∷ 78 ∷ 0 ∷ 0 ∷ 0 ∷ 0 ∷ 0 ∷ 0 ∷ 19 ∷ 177 ∷ 52 ∷ 1 ∷ 2
          ∷ 170 ∷ 170 ∷ 170 ∷ 170 ∷ 170 ∷ [])
          ∷ [];
      held = [];
    })
    ∷
    -- The edits hold for a loan code: C after the day gets 138, and nothing is lent.
    (record {
      tables = case_tables;
      day = 20230404;
      calls =
          sent 1 2 1 50000 (tag_line 20230405) 5
          ∷ [];
      answers =
          answer 138 20230404 0 0 (170 ∷ 170 ∷ 170 ∷ 170 ∷ 170 ∷ [])
          ∷ [];
      held = word_of 18 0 ∷ [];
    })
    ∷
    -- Loans each way stand beside each other: two claims; netting would give one.
    (record {
      tables = case_tables;
      day = 20230331;
      calls =
          sent 1 2 1 50000 blank 5
          ∷ sent 2 1 1 20000 blank 5
          ∷ closed 75
          ∷ [];
      answers =
          answer 0 20230331 1 0 (170 ∷ 170 ∷ 170 ∷ 170 ∷ 170 ∷ [])
          ∷ answer 0 20230331 2 0 (170 ∷ 170 ∷ 170 ∷ 170 ∷ 170 ∷ [])
          ∷ answer 0 20230403 2 2 (33 ∷ 0 ∷ 3 ∷ 0 ∷ 3 ∷ 0 ∷ 2 ∷ 1 ∷ 0 ∷ 0 ∷ 0 ∷ 0 ∷ 0 ∷ 0 ∷ 168 ∷ 97 ∷ 0 ∷ 0 ∷ 0 ∷ 0 ∷ 0 ∷ 0 ∷ 0 ∷ 0 ∷ 0 ∷ 0 ∷ 0 ∷ 0 ∷ 0 ∷ 0 ∷ 17 ∷ 177 ∷ 52 ∷ 1 ∷ 3
          ∷ 33 ∷ 0 ∷ 3 ∷ 0 ∷ 3 ∷ 0 ∷ 1 ∷ 2 ∷ 0 ∷ 0 ∷ 0 ∷ 0 ∷ 0 ∷ 0 ∷ 16 ∷ 39 ∷ 0 ∷ 0 ∷ 0 ∷ 0 ∷ 0 ∷ 0 ∷ 0 ∷ 0 ∷ 0 ∷ 0 ∷ 0 ∷ 0 ∷ 0 ∷ 0 ∷ 17 ∷ 177 ∷ 52 ∷ 1 ∷ 3
          ∷ 170 ∷ 170 ∷ 170 ∷ 170 ∷ 170 ∷ [])
          ∷ [];
      held = word_of 18 50000 ∷ word_of 33 20000 ∷ [];
    })
    ∷
    -- A Record Date on Saturday 1 April is crossed by the close of Friday 31 March, and not again by the next.
    (record {
      tables = case_tables;
      day = 20230331;
      calls =
          sent 1 2 1 50000 blank 5
          ∷ closed 40
          ∷ closed 5
          ∷ [];
      answers =
          answer 0 20230331 1 0 (170 ∷ 170 ∷ 170 ∷ 170 ∷ 170 ∷ [])
          ∷ answer 0 20230403 1 1 (33 ∷ 0 ∷ 3 ∷ 0 ∷ 3 ∷ 0 ∷ 2 ∷ 1 ∷ 0 ∷ 0 ∷ 0 ∷ 0 ∷ 0 ∷ 0 ∷ 168 ∷ 97 ∷ 0 ∷ 0 ∷ 0 ∷ 0 ∷ 0 ∷ 0 ∷ 0 ∷ 0 ∷ 0 ∷ 0 ∷ 0 ∷ 0 ∷ 0 ∷ 0 ∷ 17 ∷ 177 ∷ 52 ∷ 1 ∷ 3
          ∷ 170 ∷ 170 ∷ 170 ∷ 170 ∷ 170 ∷ [])
          ∷ answer 0 20230404 1 0 (170 ∷ 170 ∷ 170 ∷ 170 ∷ 170 ∷ [])
          ∷ [];
      held = word_of 18 50000 ∷ [];
    })
    ∷
    -- A list: a fail, a start, a return, a return above the balance, a close, a tag after the day, and another fail.
    (record {
      tables = case_tables;
      day = 20230428;
      calls =
          sent 3 4 0 200000 (tag_line 20230315) 40
          ∷ sent 1 2 1 50000 blank 5
          ∷ sent 2 1 3 20000 blank 5
          ∷ sent 2 1 3 30001 blank 5
          ∷ closed 40
          ∷ sent 3 4 0 1000 (tag_line 20230502) 5
          ∷ sent 4 3 0 1000 (tag_line 20230428) 40
          ∷ [];
      answers =
          answer 0 20230428 1 1 (33 ∷ 0 ∷ 3 ∷ 0 ∷ 1 ∷ 0 ∷ 3 ∷ 4 ∷ 0 ∷ 0 ∷ 1 ∷ 0 ∷ 0 ∷ 0 ∷ 160 ∷ 134 ∷ 1 ∷ 0 ∷ 0 ∷ 0 ∷ 0 ∷ 0 ∷ 0 ∷ 0 ∷ 0 ∷ 0 ∷ 0 ∷ 0 ∷ 0 ∷ 0 ∷ 101 ∷ 177 ∷ 52 ∷ 1 ∷ 2
          ∷ 170 ∷ 170 ∷ 170 ∷ 170 ∷ 170 ∷ [])
          ∷ answer 0 20230428 2 0 (170 ∷ 170 ∷ 170 ∷ 170 ∷ 170 ∷ [])
          ∷ answer 0 20230428 3 0 (170 ∷ 170 ∷ 170 ∷ 170 ∷ 170 ∷ [])
          ∷ answer 7 20230428 3 0 (170 ∷ 170 ∷ 170 ∷ 170 ∷ 170 ∷ [])
          ∷ answer 0 20230501 3 1 (33 ∷ 0 ∷ 3 ∷ 0 ∷ 3 ∷ 0 ∷ 2 ∷ 1 ∷ 0 ∷ 1 ∷ 0 ∷ 0 ∷ 0 ∷ 0 ∷ 152 ∷ 58 ∷ 0 ∷ 0 ∷ 0 ∷ 0 ∷ 0 ∷ 0 ∷ 0 ∷ 0 ∷ 0 ∷ 0 ∷ 0 ∷ 0 ∷ 0 ∷ 0 ∷ 115 ∷ 177 ∷ 52 ∷ 1 ∷ 3
          ∷ 170 ∷ 170 ∷ 170 ∷ 170 ∷ 170 ∷ [])
          ∷ answer 138 20230501 3 0 (170 ∷ 170 ∷ 170 ∷ 170 ∷ 170 ∷ [])
          ∷ answer 0 20230501 4 1 (33 ∷ 0 ∷ 3 ∷ 0 ∷ 1 ∷ 0 ∷ 4 ∷ 3 ∷ 0 ∷ 1 ∷ 4 ∷ 0 ∷ 0 ∷ 0 ∷ 244 ∷ 1 ∷ 0 ∷ 0 ∷ 0 ∷ 0 ∷ 0 ∷ 0 ∷ 0 ∷ 0 ∷ 0 ∷ 0 ∷ 0 ∷ 0 ∷ 0 ∷ 0 ∷ 115 ∷ 177 ∷ 52 ∷ 1 ∷ 3
          ∷ 170 ∷ 170 ∷ 170 ∷ 170 ∷ 170 ∷ [])
          ∷ [];
      held = word_of 18 30000 ∷ word_of 33 0 ∷ word_of 52 0 ∷ [];
    })
    ∷ []

-- ---- the test of a row

same_bytes : List ℕ → List ℕ → Bool
same_bytes [] [] = true
same_bytes [] (y ∷ ys) = false
same_bytes (x ∷ xs) [] = false
same_bytes (x ∷ xs) (y ∷ ys) = eqb x y && same_bytes xs ys

same_answers : List Answer → List Answer → Bool
same_answers [] [] = true
same_answers [] (b ∷ bs) = false
same_answers (a ∷ rest) [] = false
same_answers (a ∷ rest) (b ∷ bs) =
    eqb a.number b.number && eqb a.book.day b.book.day && eqb a.book.count b.book.count
    && eqb a.claims b.claims && same_bytes a.buffer b.buffer && same_answers rest bs

-- words of balances and what they hold
hold : List ℕ → List Word → Bool
hold balances = all (λ w. eqb (get_or balances w.index 0) w.value)

-- the run gives the answers, and the balances after it hold the words
holds : Case → Bool
holds c =
    let start = opened weekdays c.tables (replicate 8192 7) c.day in
    let r = run_from weekdays c.tables start c.calls in
    eqb start.number 0 && same_answers r.answers c.answers && hold r.balances c.held

-- P, the amount rule alone: par 1: 1 cent; with interest factor 4,999,999: 0 cents, outcome 1
april : ℕ → Row
april factor =
    record { index = 0; record_date = 20230401; beneficiary_date = 20230401; payment_date = 20230415; interest_factor = factor; principal_factor = 0; redeems = 0; mask = 0 }

-- the cents of interest on par 1, and the outcome of a fail
on_one : ℕ → ℕ → ℕ → Bool
on_one factor cents outcome =
    let row = april factor in
    eqb (amount of_interest 1 row) cents && eqb (outcome_of fail_type 1 row (amount of_interest 1 row) (amount of_principal 1 row)) outcome

amounts : Bool
amounts = on_one 5000000 1 0 && on_one 4999999 0 1

-- ---- the ledger of a list

-- a fail, a start, a return above the balance and the close that crosses May's Record Date
listed : Case
listed =
    record {
      tables = case_tables;
      day = 20230428;
      calls =
          sent 3 4 0 200000 (tag_line 20230315) 40
          ∷ sent 1 2 1 50000 blank 5
          ∷ sent 2 1 3 50001 blank 5
          ∷ closed 40
          ∷ [];
      answers =
          answer 0 20230428 1 1 (33 ∷ 0 ∷ 3 ∷ 0 ∷ 1 ∷ 0 ∷ 3 ∷ 4 ∷ 0 ∷ 0 ∷ 1 ∷ 0 ∷ 0 ∷ 0 ∷ 160 ∷ 134 ∷ 1 ∷ 0 ∷ 0 ∷ 0 ∷ 0 ∷ 0 ∷ 0 ∷ 0 ∷ 0 ∷ 0 ∷ 0 ∷ 0 ∷ 0 ∷ 0 ∷ 101 ∷ 177 ∷ 52 ∷ 1 ∷ 2
          ∷ 170 ∷ 170 ∷ 170 ∷ 170 ∷ 170 ∷ [])
          ∷ answer 0 20230428 2 0 (170 ∷ 170 ∷ 170 ∷ 170 ∷ 170 ∷ [])
          ∷ answer 7 20230428 2 0 (170 ∷ 170 ∷ 170 ∷ 170 ∷ 170 ∷ [])
          ∷ answer 0 20230501 2 1 (33 ∷ 0 ∷ 3 ∷ 0 ∷ 3 ∷ 0 ∷ 2 ∷ 1 ∷ 0 ∷ 1 ∷ 0 ∷ 0 ∷ 0 ∷ 0 ∷ 168 ∷ 97 ∷ 0 ∷ 0 ∷ 0 ∷ 0 ∷ 0 ∷ 0 ∷ 0 ∷ 0 ∷ 0 ∷ 0 ∷ 0 ∷ 0 ∷ 0 ∷ 0 ∷ 115 ∷ 177 ∷ 52 ∷ 1 ∷ 3
          ∷ 170 ∷ 170 ∷ 170 ∷ 170 ∷ 170 ∷ [])
          ∷ [];
      held = word_of 18 50000 ∷ word_of 33 0 ∷ [];
    }

-- the interest that the history owes a payee from a payer in security 0
owes : List Entry → ℕ → ℕ → ℕ → Bool
owes es payer payee cents =
    eqb (owed weekdays case_tables of_interest of_all es (record { security = 0; payee = payee; payer = payer })) cents

-- the ledger gives the answers, its balances hold the words, and it owes April's coupon to the buyer and May's to the lender
kept : Case → Bool
kept c =
    let j = judged weekdays c.tables (started c.day) c.calls in
    let es = j.ledger.entries in
    same_answers j.answers c.answers && hold (balances_of j.ledger) c.held
    && owes es 3 4 100000 && owes es 4 3 0 && owes es 2 1 25000 && owes es 1 2 0

-- ---- every row holds, and the list's ledger

cases_hold : all holds cases && amounts ≡ true
unfolding opened_history digits tag_line blank found sent closed annual_tables cases same_bytes same_answers hold holds april on_one amounts
cases_hold = refl

ledger_holds : kept listed ≡ true
unfolding opened_history digits tag_line blank found sent closed listed same_bytes same_answers hold owes kept
ledger_holds = refl
