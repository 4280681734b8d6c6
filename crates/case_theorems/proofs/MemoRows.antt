-- Days before the 2023 memo worked out (document 02, card 7), as rows that compute at full size: the numbers of calls on either side of it.
use mathlib.Core.Path.{◌≡◌, refl}
use mathlib.Core.Bool.{true}
use mathlib.Core.List.{List, [], ◌∷◌, ◌++◌}
use Prim.Native.Nat.{ℕ}
use lib.ListN.{replicate, set}
use Rattle.lists.specs.All.{all}
use Rattle.days.specs.Weekdays.{weekdays}
use Rattle.securities.specs.Lent.{ones}
use Rattle.securities.proofs.LentRows.{five}
use Rattle.claims.proofs.DelayRows.{monthly}
use Rattle.claims.proofs.MemoRows.{over_memo, empty_line}
use Rattle.history.specs.Calls.{Call}
use Rattle.history.proofs.Rows.{tag, line, tag_line, blank, sent, lent, in_pieces, closing, zeros, held, CauseRow, row, numbered, opened_rows}
use Rattle.case_theorems.proofs.PieceRows.{thousands}

-- security 0 is MBS and security 1 a Treasury, both with rows of the first of July 2022 to February 2023
unfoldable pub over_tables : List ℕ
over_tables = monthly 3 over_memo ++ (monthly 1 over_memo ++ replicate 1596 0)

-- a row by the day, the call and the number, on balances that are zero
on_day : ℕ → Call → ℕ → CauseRow
on_day day call number = row weekdays over_tables day 0 zeros call number

-- 100,000 of a security from account 1 to account 2, with a Contract Date and a room
unfoldable pub failed : ℕ → ℕ → Call
failed security room = sent 1 1 2 security 0 0 100000 (tag_line 20220615) room

-- a transfer by its class, code, line and par, with no room; the other way
coded : ℕ → ℕ → List ℕ → ℕ → Call
coded class code text par = sent 1 1 2 0 class code par text 0

back : ℕ → ℕ → Call
back code par = sent 1 2 1 0 0 code par blank 0

rows : List CauseRow
rows =
    -- six claims on the last open day before the memo, seven from the memo on
    on_day 20230127 (failed 0 209) 10
    ∷ on_day 20230127 (failed 0 210) 0
    ∷ on_day 20230130 (failed 0 244) 10
    ∷ on_day 20230130 (failed 0 245) 0
    ∷ on_day 20230201 (failed 0 244) 10
    ∷ on_day 20230201 (failed 0 245) 0
    ∷  -- the limits are judged and not used
    on_day 20230127 (lent (five 1 1 1 1 1) (failed 0 209)) 10
    ∷ on_day 20230127 (lent (five 1 1 1 1 1) (failed 0 210)) 0
    ∷ on_day 20230127 (lent (five 0 1 1 1 1) (failed 0 210)) 12
    ∷ on_day 20230130 (lent (five 1 1 1 1 1) (failed 0 35)) 0
    ∷  -- a Treasury has no claims before the memo
    on_day 20230127 (failed 1 0) 0
    ∷ on_day 20230130 (failed 1 209) 10
    ∷  -- an empty tag means the day, for class 1 too; one that holds a blank, or a date before 2000, does not
    on_day 20230127 (coded 0 0 empty_line 100000) 0
    ∷ on_day 20230127 (coded 1 0 empty_line 100000) 0
    ∷ on_day 20230127 (coded 1 7 empty_line 100000) 0
    ∷ on_day 20230130 (coded 0 0 empty_line 100000) 135
    ∷ on_day 20230130 (coded 1 0 empty_line 100000) 135
    ∷ on_day 20230127 (coded 0 0 (line (123 ∷ 57 ∷ 56 ∷ 65 ∷ 58 ∷ 67 ∷ 78 ∷ 84 ∷ 82 ∷ 47 ∷ 32 ∷ 125 ∷ [])) 100000) 135
    ∷ on_day 20230127 (coded 0 0 (tag_line 19991231) 100000) 135
    ∷ on_day 20230127 (coded 0 0 (tag_line 20230128) 100000) 138
    ∷ on_day 20230127 (coded 1 0 (tag_line 20230126) 100000) 139
    ∷  -- codes 1 to 6 before the memo, with a tag, an empty one and none; from it on
    on_day 20230127 (coded 0 1 blank 1000) 15
    ∷ on_day 20230127 (coded 0 2 empty_line 1000) 15
    ∷ on_day 20230127 (coded 0 3 (tag_line 20220615) 1000) 15
    ∷ on_day 20230127 (coded 0 4 blank 1000) 15
    ∷ on_day 20230127 (coded 0 5 blank 1000) 15
    ∷ on_day 20230127 (coded 0 6 blank 1000) 15
    ∷ on_day 20230130 (coded 0 1 blank 1000) 0
    ∷ on_day 20230130 (coded 0 6 blank 1000) 7
    ∷  -- codes 0, 7 and 8
    on_day 20230127 (coded 0 0 blank 1000) 0
    ∷ on_day 20230127 (coded 0 7 blank 1000) 0
    ∷ on_day 20230127 (coded 0 8 blank 1000) 7
    ∷  -- the fields, the tag, its date, the class, the count and the piece before 15
    on_day 20230127 (sent 1 1 1 0 0 1 1000 blank 0) 6
    ∷ on_day 20230127 (coded 0 1 (line (tag 20220615 ++ tag 20220615)) 1000) 132
    ∷ on_day 20230127 (coded 0 1 (tag_line 20220631) 1000) 135
    ∷ on_day 20230127 (coded 0 1 (tag_line 20230130) 1000) 138
    ∷ on_day 20230127 (coded 1 1 (tag_line 20220615) 1000) 139
    ∷ row weekdays over_tables 20230127 4294967295 zeros (coded 0 1 blank 1000) 11
    ∷ on_day 20230127 (in_pieces thousands (coded 0 1 blank 1500)) 14
    ∷ on_day 20230127 (in_pieces thousands (coded 0 1 blank 1000)) 15
    ∷ on_day 20230127 (in_pieces (set ones 0 0) (coded 0 1 blank 1000)) 13
    ∷  -- 15 before a decrease above the balance, the whole of it, and an increase past the largest
    row weekdays over_tables 20230127 0 held (back 3 40001) 15
    ∷ row weekdays over_tables 20230127 0 held (back 3 40000) 15
    ∷ row weekdays over_tables 20230127 0 (set zeros 18 8999999900) (coded 0 1 blank 1000) 15
    ∷ row weekdays over_tables 20230130 0 held (back 3 40001) 7
    ∷  -- a balance that a book holds is claimed at a close before the memo
    row weekdays over_tables 20221230 0 held (closing 2 34) 10
    ∷ row weekdays over_tables 20221230 0 held (closing 2 35) 0
    ∷ []

rows_hold : all numbered rows ≡ true
unfolding opened_rows numbered held thousands over_memo over_tables empty_line on_day failed coded back rows
rows_hold = refl
