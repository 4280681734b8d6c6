-- Computed rows: tags in either line, across both, at a line's end, without a }, several of them, empty ones on either side of the 2023
-- memo, tags that are not a date, and the edits at C and the day.
use mathlib.Core.Path.{◌≡◌, refl}
use mathlib.Core.Bool.{Bool, true, ◌&&◌}
use mathlib.Core.List.{List, [], ◌∷◌, ◌++◌}
use Prim.Native.Nat.{ℕ}
use lib.Dec.{eqb}
use lib.ListN.{length, replicate}
use Rattle.lists.specs.All.{all}
use Rattle.lists.specs.Put.{put}
use Rattle.lists.specs.First.{first_of}
use Rattle.tags.specs.ContractDateTag.{tag_of, on_day, contract_date, edit_causes}
use Rattle.tags.proofs.Digits.{written}
use Rattle.tags.proofs.Opened.{opened_tags}

-- {98A:CNTR/
mark : List ℕ
mark = 123 ∷ 57 ∷ 56 ∷ 65 ∷ 58 ∷ 67 ∷ 78 ∷ 84 ∷ 82 ∷ 47 ∷ []

-- bytes between {98A:CNTR/ and }
tag : List ℕ → List ℕ
tag bs = mark ++ (bs ++ (125 ∷ []))

-- 64 blanks, and bytes at a place among them
blank : List ℕ
blank = replicate 64 32

line : ℕ → List ℕ → List ℕ
line at bs = put blank at bs

-- the two lines, the class and the day; the Contract Date on that day, 0 for none, and the number of the edit, 0 for none
record Row : Type 0 where
  first : List ℕ
  second : List ℕ
  class : ℕ
  day : ℕ
  date : ℕ
  number : ℕ

abbrev row : List ℕ → List ℕ → ℕ → ℕ → ℕ → ℕ → Row
row a b c d n m = record { first = a; second = b; class = c; day = d; date = n; number = m }

-- a tag in either line, and up to a line's end
plain : List Row
plain =
    row (line 5 (tag (written 20230315))) blank 0 20230404 20230315 0
    ∷ row blank (line 0 (tag (written 20230315))) 0 20230404 20230315 0
    ∷ row blank (line 45 (tag (written 20230315))) 0 20230404 20230315 0
    ∷ []

-- no tag, and a tag across both lines
missing : List Row
missing =
    row blank blank 0 20230404 0 0
    ∷ row (line 55 (123 ∷ 57 ∷ 56 ∷ 65 ∷ 58 ∷ 67 ∷ 78 ∷ 84 ∷ 82 ∷ [])) (line 0 ((47 ∷ []) ++ (written 20230315 ++ (125 ∷ [])))) 0 20230404 0 0
    ∷ row (line 60 (123 ∷ 57 ∷ 56 ∷ 65 ∷ [])) (line 0 ((58 ∷ 67 ∷ 78 ∷ 84 ∷ 82 ∷ 47 ∷ []) ++ (written 20230315 ++ (125 ∷ [])))) 0 20230404 0 0
    ∷ []

-- an opener at a line's very end
at_end : List Row
at_end =
    row (line 54 mark) blank 0 20230404 0 133
    ∷ row blank (line 54 mark) 0 20230404 0 133
    ∷ []

-- } straight after the opener: from the 2023 memo on, and before it, when it means the day, for class 1 too
empty : List Row
empty =
    row (line 53 (tag [])) blank 0 20230404 0 135
    ∷ row blank (line 0 (tag [])) 0 20230404 0 135
    ∷ row (line 0 (tag [])) blank 0 20230130 0 135
    ∷ row (line 0 (tag [])) blank 1 20230130 0 135
    ∷ row (line 0 (tag [])) blank 0 20230129 20230129 0
    ∷ row (line 53 (tag [])) blank 1 20230127 20230127 0
    ∷ row blank (line 0 (tag [])) 0 20000103 20000103 0
    ∷ row (line 0 (tag [] ++ (125 ∷ []))) blank 0 20230127 20230127 0
    ∷ []

-- before the memo: a blank before the }, eight blanks, a date before 2000, two empty tags, one with no }, no tag, and dates as on later days
earlier : List Row
earlier =
    row (line 0 (tag (32 ∷ []))) blank 0 20230127 0 135
    ∷ row (line 0 (tag (replicate 8 32))) blank 0 20230127 0 135
    ∷ row (line 0 (tag (written 19991231))) blank 0 20000103 0 135
    ∷ row (line 0 (tag [])) (line 0 (tag [])) 0 20230127 0 132
    ∷ row (line 54 mark) (line 0 (125 ∷ [])) 0 20230127 0 133
    ∷ row blank blank 1 20230127 0 0
    ∷ row (line 0 (tag (written 20230126))) blank 0 20230127 20230126 0
    ∷ row (line 0 (tag (written 20230128))) blank 0 20230127 20230128 138
    ∷ row (line 0 (tag (written 20230126))) blank 1 20230127 20230126 139
    ∷ []

-- no } after the opener, one in the other line, one before the opener
unended : List Row
unended =
    row (line 3 (mark ++ written 20230315)) blank 0 20230404 0 133
    ∷ row (line 46 (mark ++ written 20230315)) (line 0 (125 ∷ [])) 0 20230404 0 133
    ∷ row (line 2 ((125 ∷ []) ++ mark ++ written 20230315)) blank 0 20230404 0 133
    ∷ []

-- a } before the opener and one after it, and two after it
ends : List Row
ends =
    row (line 0 ((125 ∷ []) ++ tag (written 20230315))) blank 0 20230404 20230315 0
    ∷ row (line 0 (tag (written 20230315) ++ (125 ∷ []))) blank 0 20230404 20230315 0
    ∷ []

-- two openers in one line, one in each line, one inside a tag, two with no }
several : List Row
several =
    row (line 0 (tag (written 20230315) ++ tag (written 20230315))) blank 0 20230404 0 132
    ∷ row (line 0 (tag (written 20230315))) (line 0 (tag (written 20230315))) 0 20230404 0 132
    ∷ row (line 0 (tag (written 20230315 ++ mark))) blank 0 20230404 0 132
    ∷ row blank (line 44 (mark ++ mark)) 0 20230404 0 132
    ∷ []

-- nine digits, seven digits, a letter, a blank, the bytes just outside the digits
not_digits : List Row
not_digits =
    row (line 0 (tag (50 ∷ 48 ∷ 50 ∷ 51 ∷ 48 ∷ 51 ∷ 49 ∷ 53 ∷ 48 ∷ []))) blank 0 20230404 0 135
    ∷ row (line 0 (tag (50 ∷ 48 ∷ 50 ∷ 51 ∷ 48 ∷ 51 ∷ 49 ∷ []))) blank 0 20230404 0 135
    ∷ row (line 0 (tag (50 ∷ 48 ∷ 50 ∷ 51 ∷ 79 ∷ 51 ∷ 49 ∷ 53 ∷ []))) blank 0 20230404 0 135
    ∷ row (line 0 (tag (50 ∷ 48 ∷ 50 ∷ 51 ∷ 32 ∷ 51 ∷ 49 ∷ 53 ∷ []))) blank 0 20230404 0 135
    ∷ row (line 0 (tag (50 ∷ 48 ∷ 50 ∷ 51 ∷ 47 ∷ 51 ∷ 49 ∷ 53 ∷ []))) blank 0 20230404 0 135
    ∷ row (line 0 (tag (50 ∷ 48 ∷ 50 ∷ 51 ∷ 58 ∷ 51 ∷ 49 ∷ 53 ∷ []))) blank 0 20230404 0 135
    ∷ []

-- numbers that are no dates, and the first and the last date
not_dates : List Row
not_dates =
    row (line 0 (tag (written 20230229))) blank 0 20230404 0 135
    ∷ row (line 0 (tag (written 20400101))) blank 0 20391230 0 135
    ∷ row (line 0 (tag (written 19991231))) blank 0 20230404 0 135
    ∷ row (line 0 (tag (written 20000101))) blank 0 20230404 20000101 0
    ∷ row (line 0 (tag (written 20391231))) blank 0 20391231 20391231 0
    ∷ []

-- C one after the day, and C the day
late : List Row
late =
    row (line 0 (tag (written 20230405))) blank 0 20230404 20230405 138
    ∷ row (line 0 (tag (written 20230404))) blank 0 20230404 20230404 0
    ∷ []

-- class 1: C before the day, after it and the day; no tag
other_class : List Row
other_class =
    row (line 0 (tag (written 20230403))) blank 1 20230404 20230403 139
    ∷ row (line 0 (tag (written 20230405))) blank 1 20230404 20230405 138
    ∷ row (line 0 (tag (written 20230404))) blank 1 20230404 20230404 0
    ∷ row blank blank 1 20230404 0 0
    ∷ []

holds : Row → Bool
holds r =
    let t = on_day r.day (tag_of r.first r.second) in
    eqb (contract_date t) r.date && eqb (first_of (edit_causes t r.class r.day)) r.number && eqb (length r.first) 64
    && eqb (length r.second) 64

rows : List Row
rows = plain ++ missing ++ at_end ++ empty ++ earlier ++ unended ++ ends ++ several ++ not_digits ++ not_dates ++ late ++ other_class

rows_hold : all holds rows ≡ true
unfolding opened_tags holds rows plain missing at_end empty earlier unended ends several not_digits not_dates late other_class mark tag blank line
rows_hold = refl
