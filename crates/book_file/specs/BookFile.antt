-- Document 01, section The program claimrun: book.dat holds the calendar, the tables and the opening's day, 9,220 bytes. Words are four
-- bytes each, lowest first.
use Rattle.std.specs.Prelude.{List, [], ◌∷◌, ℕ, zero, suc, take, drop}
use Rattle.lists.specs.Numbers.{number_of}
use Rattle.lists.specs.Fields.{part}

-- The first n words that stand in bytes.
unfoldable pub words_in : ℕ → List ℕ → List ℕ
words_in zero bytes = []
words_in (suc n) bytes = number_of (take 4 bytes) ∷ words_in n (drop 4 bytes)

-- The parts of book.dat.
unfoldable pub calendar_in : List ℕ → List ℕ
calendar_in bytes = words_in 480 bytes

unfoldable pub tables_in : List ℕ → List ℕ
tables_in bytes = words_in 1824 (drop 1920 bytes)

unfoldable pub day_in : List ℕ → ℕ
day_in bytes = number_of (part 9216 4 bytes)
