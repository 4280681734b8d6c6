-- Date limits worked out (document 02, card 5), as rows that compute at full size: the numbers of transfers that are lent them.
use mathlib.Core.Path.{◌≡◌, refl}
use mathlib.Core.Bool.{true}
use mathlib.Core.List.{List, [], ◌∷◌}
use Prim.Native.Nat.{ℕ}
use lib.ListN.{replicate, set}
use Rattle.lists.specs.All.{all}
use Rattle.days.specs.Weekdays.{weekdays}
use Rattle.securities.specs.Cases.{case_tables}
use Rattle.securities.proofs.LentRows.{five}
use Rattle.history.specs.Calls.{Call}
use Rattle.history.proofs.Rows.{tag_line, blank, sent, lent, closing, zeros, held, CauseRow, row, numbered, opened_rows}

-- 400,000 from account 1 to account 2, with room
failed : ℕ → Call
failed room = sent 1 1 2 0 0 0 400000 (tag_line 20230315) room

-- on 9 May, a row by the limits, the room and the number
on_ninth : List ℕ → ℕ → ℕ → CauseRow
on_ninth limits room number = row weekdays case_tables 20230509 0 zeros (lent limits (failed room)) number

rows : List CauseRow
rows =
    -- two claims, in both forms
    row weekdays case_tables 20230509 0 zeros (failed 69) 10
    ∷ row weekdays case_tables 20230509 0 zeros (failed 70) 0
    ∷ on_ninth (five 7 6 3 2 1) 69 10
    ∷ on_ninth (five 7 6 3 2 1) 70 0
    ∷ on_ninth (five 16 16 16 16 16) 69 10
    ∷ on_ninth (five 16 16 16 16 16) 70 0
    ∷ on_ninth (five 2 3 3 3 3) 69 10
    ∷  -- one claim
    on_ninth (five 1 6 3 2 1) 34 10
    ∷ on_ninth (five 1 6 3 2 1) 35 0
    ∷ on_ninth (five 1 16 16 16 16) 35 0
    ∷  -- another length; a number below 1 or above 16; one larger than the one before
    on_ninth (7 ∷ 6 ∷ 3 ∷ 2 ∷ []) 70 12
    ∷ on_ninth (7 ∷ 6 ∷ 3 ∷ 2 ∷ 1 ∷ 1 ∷ []) 70 12
    ∷ on_ninth [] 70 12
    ∷ on_ninth (five 0 6 3 2 1) 70 12
    ∷ on_ninth (five 17 6 3 2 1) 70 12
    ∷ on_ninth (five 7 6 7 2 1) 70 12
    ∷ on_ninth (five 7 6 3 4 1) 70 12
    ∷ on_ninth (five 7 6 3 2 3) 70 12
    ∷  -- length, calendar and tables before the limits
    row (replicate 479 4294967295) case_tables 20230509 0 zeros (lent [] (failed 70)) 1
    ∷ row (set weekdays 1 4294967295) case_tables 20230509 0 zeros (lent [] (failed 70)) 2
    ∷ row weekdays (set case_tables 0 9) 20230509 0 zeros (lent [] (failed 70)) 3
    ∷  -- the limits before a closed day, a bad balance, the record, the fields and the tag
    row weekdays case_tables 20230401 0 zeros (lent [] (failed 70)) 12
    ∷ row weekdays case_tables 20230509 0 (set zeros 0 1) (lent [] (failed 70)) 12
    ∷ row weekdays case_tables 20230509 0 zeros (lent [] (sent 2 1 2 0 0 0 400000 (tag_line 20230315) 70)) 12
    ∷ row weekdays case_tables 20230509 0 zeros (lent [] (sent 1 16 2 0 0 0 400000 (tag_line 20230315) 70)) 12
    ∷ row weekdays case_tables 20230509 0 zeros (lent [] (sent 1 1 2 0 0 0 400000 (tag_line 20230601) 70)) 12
    ∷  -- the others behind good limits
    row weekdays case_tables 20230401 0 zeros (lent (five 1 1 1 1 1) (failed 70)) 4
    ∷ row weekdays case_tables 20230509 0 zeros (lent (five 1 1 1 1 1) (sent 2 1 2 0 0 0 400000 (tag_line 20230315) 70)) 5
    ∷ row weekdays case_tables 20230509 0 zeros (lent (five 1 1 1 1 1) (sent 1 1 2 0 0 0 400000 (tag_line 20230601) 70)) 138
    ∷  -- with loan codes, which do not use them
    row weekdays case_tables 20230509 0 zeros (lent (five 7 6 3 2 3) (sent 1 1 2 0 0 1 1 blank 0)) 12
    ∷ row weekdays case_tables 20230509 0 held (lent (five 1 1 1 1 1) (sent 1 2 1 0 0 3 40001 blank 0)) 7
    ∷ row weekdays case_tables 20230509 0 held (lent (five 1 1 1 1 1) (sent 1 2 1 0 0 3 40000 blank 0)) 0
    ∷  -- a close is lent none
    row weekdays case_tables 20230509 0 zeros (lent [] (closing 2 0)) 0
    ∷ []

rows_hold : all numbered rows ≡ true
unfolding opened_rows held numbered lent failed on_ninth rows
rows_hold = refl
