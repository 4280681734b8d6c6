-- Repo tracking worked out (document 02, card 3), as rows that compute at full size: the numbers of calls on par on loan and on repo.
use mathlib.Core.Path.{◌≡◌, refl}
use mathlib.Core.Bool.{true}
use mathlib.Core.List.{List, [], ◌∷◌}
use Prim.Native.Nat.{ℕ}
use lib.ListN.{replicate, set}
use Rattle.lists.specs.All.{all}
use Rattle.days.specs.Weekdays.{weekdays}
use Rattle.securities.specs.Cases.{case_tables}
use Rattle.history.proofs.Rows.{tag_line, blank, sent, closing, zeros, held, CauseRow, row, numbered, opened_rows}

-- account 1 has 40,000 of security 0 on repo with account 2; the most there can be; on loan and on repo
repo_held : List ℕ
repo_held = set zeros 4114 40000

repo_full : List ℕ
repo_full = set zeros 4114 9000000000

both_held : List ℕ
both_held = set held 4114 40000

rows : List CauseRow
rows =
    -- code 12, and no code above it
    row weekdays case_tables 20230404 0 repo_held (sent 1 2 1 0 0 12 40000 blank 0) 0
    ∷ row weekdays case_tables 20230404 0 repo_held (sent 1 2 1 0 0 13 1 blank 0) 6
    ∷ row weekdays case_tables 20230404 0 repo_held (sent 1 2 1 0 0 255 1 blank 0) 6
    ∷  -- above the balance on repo, whatever is on loan, and the other way round
    row weekdays case_tables 20230404 0 both_held (sent 1 2 1 0 0 9 40001 blank 0) 7
    ∷ row weekdays case_tables 20230404 0 both_held (sent 1 2 1 0 0 3 40001 blank 0) 7
    ∷ row weekdays case_tables 20230404 0 held (sent 1 2 1 0 0 8 1 blank 0) 7
    ∷ row weekdays case_tables 20230404 0 repo_held (sent 1 2 1 0 0 2 1 blank 0) 7
    ∷  -- the whole balance
    row weekdays case_tables 20230404 0 repo_held (sent 1 2 1 0 0 9 40000 blank 0) 0
    ∷  -- past the limit on repo, and not on loan
    row weekdays case_tables 20230404 0 repo_full (sent 1 1 2 0 0 7 1 blank 0) 8
    ∷ row weekdays case_tables 20230404 0 repo_full (sent 1 1 2 0 0 11 1 blank 0) 8
    ∷ row weekdays case_tables 20230404 0 repo_full (sent 1 1 2 0 0 1 1 blank 0) 0
    ∷ row weekdays case_tables 20230404 0 (set zeros 18 9000000000) (sent 1 1 2 0 0 7 1 blank 0) 0
    ∷  -- tags are edited, and give no claim
    row weekdays case_tables 20230404 0 zeros (sent 1 1 2 0 0 7 1 (tag_line 20230405) 0) 138
    ∷ row weekdays case_tables 20230404 0 zeros (sent 1 1 2 0 1 11 1 (tag_line 20230315) 0) 139
    ∷ row weekdays case_tables 20230404 0 zeros (sent 1 1 2 0 0 7 1 (tag_line 20230315) 0) 0
    ∷  -- room for one claim of two, for both
    row weekdays case_tables 20230331 0 both_held (closing 2 69) 10
    ∷ row weekdays case_tables 20230331 0 both_held (closing 2 70) 0
    ∷  -- 4,096 words
    row weekdays case_tables 20230404 0 (replicate 4096 0) (sent 1 1 2 0 0 1 1 blank 0) 1
    ∷ row weekdays case_tables 20230404 0 (replicate 4096 0) (closing 2 0) 1
    ∷  -- an account on repo with itself; a balance above the largest
    row weekdays case_tables 20230404 0 (set zeros 4181 1) (closing 2 0) 4
    ∷ row weekdays case_tables 20230404 0 (set zeros 8190 9000000001) (sent 1 1 2 0 0 0 1 blank 0) 4
    ∷ []

rows_hold : all numbered rows ≡ true
unfolding opened_rows held numbered repo_held repo_full both_held rows
rows_hold = refl
