-- Minimum pieces worked out (document 02, card 6), as rows that compute at full size: the numbers of transfers that are lent them.
use mathlib.Core.Path.{◌≡◌, refl}
use mathlib.Core.Bool.{true}
use mathlib.Core.List.{List, [], ◌∷◌}
use Prim.Native.Nat.{ℕ}
use lib.ListN.{replicate, set}
use Rattle.lists.specs.All.{all}
use Rattle.days.specs.Weekdays.{weekdays}
use Rattle.securities.specs.Cases.{case_tables}
use Rattle.securities.specs.Lent.{ones}
use Rattle.securities.proofs.LentRows.{five}
use Rattle.history.specs.Calls.{Call}
use Rattle.history.proofs.Rows.{tag_line, blank, sent, lent, in_pieces, closing, zeros, CauseRow, row, numbered, opened_rows}

-- security 0 comes in pieces of 1,000
unfoldable pub thousands : List ℕ
thousands = set ones 0 1000

-- account 1 has lent account 2 40,500
odd : List ℕ
odd = set zeros 18 40500

-- on 4 April, a row by the pieces, the call and the number
on_fourth : List ℕ → List ℕ → Call → ℕ → CauseRow
on_fourth pieces balances call number = row weekdays case_tables 20230404 0 balances (in_pieces pieces call) number

-- a failed transfer of a par from account 1 to account 2, with room; a return of a par by a code, and a start
failed : ℕ → Call
failed par = sent 1 1 2 0 0 0 par (tag_line 20230315) 35

back : ℕ → ℕ → Call
back code par = sent 1 2 1 0 0 code par blank 0

start : ℕ → ℕ → Call
start code par = sent 1 1 2 0 0 code par blank 0

rows : List CauseRow
rows =
    -- on and off the piece
    on_fourth thousands zeros (failed 200000) 0
    ∷ on_fourth thousands zeros (failed 200500) 14
    ∷ on_fourth ones zeros (failed 200500) 0
    ∷ on_fourth thousands zeros (start 1 1500) 14
    ∷ on_fourth (replicate 16 1000000) zeros (failed 1000000) 0
    ∷ on_fourth (set (replicate 16 1000) 0 7) zeros (failed 7) 0
    ∷ on_fourth (set (replicate 16 1000) 0 7) zeros (failed 1000) 14
    ∷  -- a return: the whole balance, less, off the piece, above the balance
    on_fourth thousands odd (back 3 40500) 0
    ∷ on_fourth thousands odd (back 3 40000) 0
    ∷ on_fourth thousands odd (back 3 500) 14
    ∷ on_fourth thousands odd (back 3 41000) 7
    ∷ on_fourth thousands odd (back 3 41500) 14
    ∷  -- the par of the whole balance that takes nothing from it: an increase, a repo's return, no code
    on_fourth thousands odd (start 1 40500) 14
    ∷ on_fourth thousands odd (back 9 40500) 14
    ∷ on_fourth thousands odd (back 0 40500) 14
    ∷  -- another length; a number below 1 or above 1,000,000
    on_fourth (replicate 15 1) zeros (failed 200000) 13
    ∷ on_fourth (replicate 17 1) zeros (failed 200000) 13
    ∷ on_fourth [] zeros (failed 200000) 13
    ∷ on_fourth (set ones 0 0) zeros (failed 200000) 13
    ∷ on_fourth (set ones 15 0) zeros (failed 200000) 13
    ∷ on_fourth (set ones 0 1000001) zeros (failed 200000) 13
    ∷ on_fourth [] odd (back 3 40500) 13
    ∷  -- length, calendar, tables and limits before the pieces
    row (replicate 479 4294967295) case_tables 20230404 0 zeros (in_pieces [] (failed 200000)) 1
    ∷ row (set weekdays 1 4294967295) case_tables 20230404 0 zeros (in_pieces [] (failed 200000)) 2
    ∷ row weekdays (set case_tables 0 9) 20230404 0 zeros (in_pieces [] (failed 200000)) 3
    ∷ on_fourth [] zeros (lent [] (failed 200000)) 12
    ∷ on_fourth [] zeros (lent (five 1 1 1 1 1) (failed 200000)) 13
    ∷  -- the pieces before a closed day, a bad balance, the record and the fields
    row weekdays case_tables 20230401 0 zeros (in_pieces [] (failed 200000)) 13
    ∷ on_fourth [] (set zeros 0 1) (failed 200000) 13
    ∷ on_fourth [] zeros (sent 2 1 2 0 0 0 200000 (tag_line 20230315) 35) 13
    ∷ on_fourth [] zeros (sent 1 16 2 0 0 0 200000 (tag_line 20230315) 35) 13
    ∷  -- a closed day, the record, the fields, the tag, the class and the count before the par
    row weekdays case_tables 20230401 0 zeros (in_pieces thousands (failed 200500)) 4
    ∷ on_fourth thousands zeros (sent 2 1 2 0 0 0 200500 (tag_line 20230315) 35) 5
    ∷ on_fourth thousands zeros (sent 1 1 1 0 0 0 200500 (tag_line 20230315) 35) 6
    ∷ on_fourth thousands zeros (sent 1 1 2 0 0 0 200500 (tag_line 20230405) 35) 138
    ∷ on_fourth thousands zeros (sent 1 1 2 0 1 0 200500 (tag_line 20230315) 35) 139
    ∷ row weekdays case_tables 20230404 4294967295 zeros (in_pieces thousands (failed 200500)) 11
    ∷  -- the par before the largest balance and the room
    on_fourth thousands (set zeros 18 8999999900) (start 1 1500) 14
    ∷ on_fourth thousands (set zeros 18 8999999900) (start 1 1000) 8
    ∷ on_fourth thousands zeros (sent 1 1 2 0 0 0 200500 (tag_line 20230315) 0) 14
    ∷ on_fourth thousands zeros (sent 1 1 2 0 0 0 200000 (tag_line 20230315) 0) 10
    ∷  -- a close is lent none, and takes no notice of balances off a multiple
    on_fourth [] odd (closing 2 0) 0
    ∷ []

rows_hold : all numbered rows ≡ true
unfolding opened_rows numbered thousands odd on_fourth failed back start rows
rows_hold = refl
