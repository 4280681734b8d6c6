-- Computed rows at full size: a mark set and gone back to, and the numbers that both calls can meet. More of them stand in the crate
-- case_theorems.
use mathlib.Core.Path.{◌≡◌, refl}
use mathlib.Core.Bool.{Bool, true, ◌&&◌}
use mathlib.Core.List.{List, ◌∷◌, ◌++◌}
use Prim.Native.Nat.{ℕ}
use lib.Dec.{eqb}
use lib.ListN.{length, get_or, replicate, set, take}
use Rattle.days.specs.Weekdays.{weekdays}
use Rattle.history.proofs.Rows.{zeros}
use Rattle.marks.specs.Marks.{set_number, return_number, marked, returned}
use Rattle.marks.proofs.Opened.{opened_marks}

-- account 1 has lent account 2 15,000 in security 0, and 7 on repo
unfoldable pub held : List ℕ
held = set (set zeros 18 15000) 4114 7

-- a store as it is found: no mark of it is set
unfoldable pub found : List ℕ
found = replicate 32780 9

-- mark 2 holds 20230331, count 5 and the balances above
unfoldable pub stored : List ℕ
stored = replicate 8195 9 ++ ((1 ∷ 20230331 ∷ 5 ∷ held) ++ replicate 16390 9)

-- the balances on the day of the return
unfoldable pub present : List ℕ
present = set zeros 19 99

-- ---- setting

sets : ℕ → List ℕ → ℕ → ℕ → Bool
sets day store k number = eqb (set_number weekdays (record { day = day; count = 5 }) held store k) number

-- mark 2: the last word before it, its own first words, those with par, and the first word behind it
set_row : Bool
set_row =
    let s = (marked weekdays (record { day = 20230331; count = 5 }) held found 2).store in
    let at : ℕ → ℕ → Bool = λ w n. eqb (get_or s w 0) n in
    at 8194 9 && at 8195 1 && at 8196 20230331 && at 8197 5 && at 8198 0 && at 8216 15000 && at 12312 7 && at 16389 0 && at 16390 9
    && eqb (length s) 32780

settings : Bool
settings = set_row && sets 20230331 found 0 16 && sets 20230331 found 5 16 && sets 20230331 (take 32779 found) 1 16 && sets 20230331 (9 ∷ found) 1 16 && sets 20230401 found 9 4

-- ---- going back

returns : ℕ → List ℕ → ℕ → ℕ → Bool
returns day store k number = eqb (return_number weekdays (record { day = day; count = 3 }) present store k) number

-- back to mark 2: its day, its count and its balances
return_row : Bool
return_row =
    let r = returned weekdays (record { day = 20230404; count = 3 }) present stored 2 in
    eqb r.number 0 && eqb r.book.day 20230331 && eqb r.book.count 5
    && eqb (get_or r.balances 18 0) 15000 && eqb (get_or r.balances 19 1) 0 && eqb (get_or r.balances 4114 0) 7
    && eqb (length r.balances) 8192

goings : Bool
goings =
    return_row
    && returns 20230404 stored 1 17
    && returns 20230404 (set stored 8195 2) 2 17
    && returns 20230404 (set stored 8197 4294967296) 2 17
    && returns 20230404 (set stored 8196 4315197627) 2 17
    && returns 20230404 (set stored 8215 1) 2 17
    && returns 20230404 stored 5 16
    && returns 20230401 stored 9 4

rows_hold : settings && goings ≡ true
unfolding opened_marks held found stored present sets set_row settings returns return_row goings
rows_hold = refl
