-- A computed row: the words of a whole book.dat. The first and the last word of the calendar and of the tables have four different bytes
-- each, the other words are zero, and the day is 20230404.
use mathlib.Core.Path.{◌≡◌, refl}
use mathlib.Core.List.{List, [], ◌∷◌, ◌++◌}
use Prim.Native.Nat.{ℕ}
use lib.ListN.{replicate}
use Rattle.book_file.specs.BookFile.{calendar_in, tables_in, day_in}
use Rattle.book_file.proofs.Opened.{opened_book_file}

-- 9,220 bytes
bytes : List ℕ
bytes =
    (1 ∷ 2 ∷ 3 ∷ 4 ∷ [])
    ++ (replicate 1912 0
    ++ ((5 ∷ 6 ∷ 7 ∷ 8 ∷ 9 ∷ 10 ∷ 11 ∷ 12 ∷ [])
    ++ (replicate 7288 0
    ++ (13 ∷ 14 ∷ 15 ∷ 16 ∷ 4 ∷ 177 ∷ 52 ∷ 1 ∷ []))))

record Loaded (calendar tables : List ℕ) (day : ℕ) : Type 0 where
  calendar_words_lem : calendar ≡ 67305985 ∷ (replicate 478 0 ++ (134678021 ∷ []))
  table_words_lem : tables ≡ 202050057 ∷ (replicate 1822 0 ++ (269422093 ∷ []))
  opening_day : day ≡ 20230404

row_holds : Loaded (calendar_in bytes) (tables_in bytes) (day_in bytes)
unfolding opened_book_file bytes
row_holds = record { calendar_words_lem = refl; table_words_lem = refl; opening_day = refl }
