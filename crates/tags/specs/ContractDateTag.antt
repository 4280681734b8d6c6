-- Document 01, section Contract Date tag: the openers in the two free text lines, what the tag of a transfer says, and its edits; document
-- 02, card 7: what an empty tag means on a day. Lines are lists of bytes, and places in a line count from 0.
use Rattle.std.specs.Prelude.{Bool, true, false, cond, not, ◌&&◌, List, [], ◌∷◌, ℕ, suc, ◌+◌, ◌-◌, ◌*◌, eqb, leb, ltb, length, drop, get_or, take}
use Rattle.lists.specs.All.{all}
use Rattle.lists.specs.Fields.{part}
use Rattle.lists.specs.First.{Cause, cause}
use Rattle.days.specs.Days.{is_date}
use Rattle.days.specs.MemoDay.{before_memo}
use Rattle.tags.specs.declared.Tag.{Tag}
use Rattle.tags.specs.declared.Tag.TheVariants.{Absent, Several, Unended, Empty, NotDate, On}

-- ---- openers

-- The opener: the ten characters {98A:CNTR/
unfoldable pub opener : List ℕ
opener = 123 ∷ 57 ∷ 56 ∷ 65 ∷ 58 ∷ 67 ∷ 78 ∷ 84 ∷ 82 ∷ 47 ∷ []

-- Two lists have the same bytes.
unfoldable pub same : List ℕ → List ℕ → Bool
same [] [] = true
same [] (y ∷ ys) = false
same (x ∷ xs) [] = false
same (x ∷ xs) (y ∷ ys) = eqb x y && same xs ys

-- The places of the openers in bytes of which the first has place i, in order.
unfoldable pub openers_from : ℕ → List ℕ → List ℕ
openers_from i [] = []
openers_from i (b ∷ bs) =
    let rest = openers_from (suc i) bs in
    cond (same opener (take 10 (b ∷ bs))) (i ∷ rest) rest

-- The places of the openers in a line: each lies wholly within it.
unfoldable pub openers : List ℕ → List ℕ
openers line = openers_from 0 line

-- ---- the tag

-- The place of the first } in bytes of which the first has place i; the place behind them where there is none.
unfoldable pub end_in : ℕ → List ℕ → ℕ
end_in i [] = i
end_in i (b ∷ bs) = cond (eqb b 125) i (end_in (suc i) bs)

-- The place of the first } from a place on; the line's length where there is none.
unfoldable pub end_from : List ℕ → ℕ → ℕ
end_from line from = end_in from (drop from line)

-- The byte is an ASCII digit.
unfoldable pub is_digit : ℕ → Bool
is_digit b = leb 48 b && leb b 57

-- The number that digits write behind those of n.
unfoldable pub digits_after : ℕ → List ℕ → ℕ
digits_after n [] = n
digits_after n (b ∷ bs) = digits_after (n * 10 + (b - 48)) bs

-- The number that digits write.
unfoldable pub digits_number : List ℕ → ℕ
digits_number bs = digits_after 0 bs

-- The bytes are exactly eight digits that are a date.
unfoldable pub writes_date : List ℕ → Bool
writes_date bs = eqb (length bs) 8 && (all is_digit bs && is_date (digits_number bs))

-- The tag that holds these bytes.
unfoldable pub tag_holding : List ℕ → Tag
tag_holding bs = cond (writes_date bs) (On (record { 0 = digits_number bs })) NotDate

-- The tag whose opener has place at: it runs to the first } behind the opener, and is empty where this stands straight after it.
unfoldable pub tag_at : List ℕ → ℕ → Tag
tag_at line at =
    let start = at + 10 in
    let end = end_from line start in
    cond (leb (length line) end) Unended (cond (eqb end start) Empty (tag_holding (part start (end - start) line)))

-- The tag of a transfer's two lines.
unfoldable pub tag_of : List ℕ → List ℕ → Tag
tag_of first second =
    let count = length (openers first) + length (openers second) in
    cond (eqb count 0) Absent (cond (ltb 1 count) Several (cond (eqb (length (openers first)) 1)
    (tag_at first (get_or (openers first) 0 0)) (tag_at second (get_or (openers second) 0 0))))

-- The tag as the book's day takes it: on a day before the 2023 memo an empty one means the day itself.
unfoldable pub on_day : ℕ → Tag → Tag
on_day day Empty = cond (before_memo day) (On (record { 0 = day })) Empty
on_day day Absent = Absent
on_day day Several = Several
on_day day Unended = Unended
on_day day NotDate = NotDate
on_day day (On d) = On d

-- ---- what a tag says

-- The transfer has a tag with a date.
unfoldable pub tagged : Tag → Bool
tagged (On d) = true
tagged Absent = false
tagged Several = false
tagged Unended = false
tagged Empty = false
tagged NotDate = false

-- The Contract Date C, 0 where there is none.
unfoldable pub contract_date : Tag → ℕ
contract_date (On d) = d.0
contract_date Absent = 0
contract_date Several = 0
contract_date Unended = 0
contract_date Empty = 0
contract_date NotDate = 0

-- There is more than one opener, both lines together.
unfoldable pub is_several : Tag → Bool
is_several Several = true
is_several Absent = false
is_several Unended = false
is_several Empty = false
is_several NotDate = false
is_several (On d) = false

-- There is one opener, and no } after it in its line.
unfoldable pub is_unended : Tag → Bool
is_unended Unended = true
is_unended Absent = false
is_unended Several = false
is_unended Empty = false
is_unended NotDate = false
is_unended (On d) = false

-- The tag is not a date; an empty one is none either.
unfoldable pub is_not_date : Tag → Bool
is_not_date NotDate = true
is_not_date Empty = true
is_not_date Absent = false
is_not_date Several = false
is_not_date Unended = false
is_not_date (On d) = false

-- ---- the edits

-- The edits of a tag, for the transfer's class and the book's day; they hold for every tracking code.
unfoldable pub edit_causes : Tag → ℕ → ℕ → List Cause
edit_causes tag class day =
    cause 132 (is_several tag)
    ∷ cause 133 (is_unended tag)
    ∷ cause 135 (is_not_date tag)
    ∷ cause 138 (tagged tag && ltb day (contract_date tag))
    ∷ cause 139 (tagged tag && (eqb class 1 && not (eqb (contract_date tag) day)))
    ∷ []
