-- Computed rows: the cases' tables of 1,824 words, each rule kept and broken by one word.
use mathlib.Core.Path.{◌≡◌, refl}
use mathlib.Core.Bool.{Bool, true, cond, not, ◌&&◌}
use mathlib.Core.List.{List, [], ◌∷◌, ◌++◌}
use Prim.Native.Nat.{ℕ}
use lib.Dec.{eqb}
use lib.ListN.{length, set, replicate, drop}
use Rattle.lists.specs.All.{all}
use Rattle.days.specs.Weekdays.{weekdays}
use Rattle.securities.specs.Securities.{row_of, filled_rows, good_tables}
use Rattle.securities.specs.Cases.{case_tables}
use Rattle.securities.proofs.Opened.{opened_securities}

-- a word of the tables, what is put there, and whether the tables are then good, as 1 or 0
record Edit : Type 0 where
  word : ℕ
  value : ℕ
  kept : ℕ

abbrev row : ℕ → ℕ → ℕ → Edit
row w v k = record { word = w; value = v; kept = k }

edits : List Edit
edits =
    row 0 0 0
    ∷ row 0 1 1
    ∷ row 0 4 1
    ∷ row 0 5 0
    ∷ row 1 0 0
    ∷ row 1 4 1
    ∷ row 1 5 0
    ∷ row 2 20230402 1
    ∷ row 2 20230431 0
    ∷ row 3 0 0
    ∷ row 3 20230402 1
    ∷ row 4 20230331 0
    ∷ row 4 20230401 1
    ∷ row 4 20230431 0
    ∷ row 4 20391230 1
    ∷ row 4 20391231 0
    ∷ row 5 2000000000 1
    ∷ row 5 2000000001 0
    ∷ row 6 2000000000 1
    ∷ row 6 2000000001 0
    ∷ row 7 1 1
    ∷ row 7 2 0
    ∷ row 8 65535 1
    ∷ row 8 65536 0
    ∷ row 9 20230401 0
    ∷ row 9 20230402 1
    ∷ row 10 20230401 0
    ∷ row 10 20230516 0
    ∷ row 9 20230516 0
    ∷ row 16 20230601 0
    ∷ row 23 1 0
    ∷ row 113 1 0
    ∷ row 114 1 0
    ∷ row 115 1 0
    ∷ row 1823 1 0
    ∷ row 1823 0 1
    ∷ []

holds : Edit → Bool
holds r = eqb (cond (good_tables weekdays (set case_tables r.word r.value)) 1 0) r.kept

-- an empty row in front of a filled one, no open day with a filled row and with none, and the rows of a security
others : Bool
others =
    not (good_tables weekdays ((3 ∷ 1 ∷ []) ++ (replicate 7 0 ++ drop 9 case_tables)))
    && not (good_tables (replicate 480 0) case_tables)
    && good_tables (replicate 480 0) (replicate 1824 0)
    && eqb (length case_tables) 1824
    && eqb (length (filled_rows case_tables 0)) 2
    && eqb (length (filled_rows case_tables 15)) 0

-- seven words and a number, each in its field
words_of_row :
    row_of 4 (20230401 ∷ 20230402 ∷ 20230415 ∷ 5000000 ∷ 250000000 ∷ 1 ∷ 6 ∷ [])
    ≡ record {
      index = 4;
      record_date = 20230401;
      beneficiary_date = 20230402;
      payment_date = 20230415;
      interest_factor = 5000000;
      principal_factor = 250000000;
      redeems = 1;
      mask = 6;
    }
unfolding opened_securities
words_of_row = refl

second_row : filled_rows case_tables 0 ≡ row_of 0 (drop 2 case_tables) ∷ row_of 1 (drop 9 case_tables) ∷ []
unfolding opened_securities
second_row = refl

rows_hold : all holds edits && others ≡ true
unfolding opened_securities holds edits others
rows_hold = refl
