-- Document 01, section Cases: the tables. Security 0 is agency MBS and monthly, with rows for April and May 2023: Record and
-- Beneficiary Date on the 1st, Payment Date on the 15th, interest factor 5,000,000, the rest 0. Other securities are unused.
use Rattle.std.specs.Prelude.{List, [], ◌∷◌, ◌++◌, ℕ, replicate}

unfoldable pub case_tables : List ℕ
case_tables =
    (3 ∷ 1
    ∷ 20230401 ∷ 20230401 ∷ 20230415 ∷ 5000000 ∷ 0 ∷ 0 ∷ 0
    ∷ 20230501 ∷ 20230501 ∷ 20230515 ∷ 5000000 ∷ 0 ∷ 0 ∷ 0
    ∷ [])
    ++ replicate 1808 0
