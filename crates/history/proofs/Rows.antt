-- Computed rows: the number of a call where two neighbouring causes apply, each by its own, and where none does, at full size; and openings.
use mathlib.Core.Path.{◌≡◌, refl}
use mathlib.Core.Bool.{Bool, true, ◌&&◌}
use mathlib.Core.List.{List, [], ◌∷◌, ◌++◌}
use Prim.Native.Nat.{ℕ, ◌+◌, ◌/◌, ◌%◌}
use lib.Dec.{eqb}
use lib.ListN.{length, replicate, set, take}
use Rattle.lists.specs.All.{all}
use Rattle.days.specs.Weekdays.{weekdays}
use Rattle.securities.specs.Cases.{case_tables}
use Rattle.securities.specs.Lent.{ones}
use Rattle.claims.proofs.InterimRows.{three_rows}
use Rattle.claims.proofs.DelayRows.{delays}
use Rattle.book.specs.declared.Book.{Book}
use Rattle.history.specs.Calls.{Call, transfer, close, published_transfer}
use Rattle.history.specs.Causes.{number_for}
use Rattle.history.specs.Results.{opened}
use Rattle.history.proofs.Opened.{opened_history}

-- ---- messages

-- a Contract Date tag, {98A:CNTR/yyyymmdd}
unfoldable pub tag : ℕ → List ℕ
tag c =
    123 ∷ 57 ∷ 56 ∷ 65 ∷ 58 ∷ 67 ∷ 78 ∷ 84 ∷ 82 ∷ 47 ∷ (48 + c / 10000000) ∷ (48 + c / 1000000 % 10) ∷ (48 + c / 100000 % 10)
    ∷ (48 + c / 10000 % 10) ∷ (48 + c / 1000 % 10) ∷ (48 + c / 100 % 10) ∷ (48 + c / 10 % 10) ∷ (48 + c % 10) ∷ 125 ∷ []

-- text filled with spaces to a line of 64 bytes
unfoldable pub line : List ℕ → List ℕ
line text = take 64 (text ++ replicate 64 32)

unfoldable pub tag_line : ℕ → List ℕ
tag_line c = line (tag c)

unfoldable pub blank : List ℕ
blank = line []

-- two tags; a tag without its }; a tag that is no date
two_tags : List ℕ
two_tags = line (tag 20230315 ++ tag 20230315)

open_tag : List ℕ
open_tag = line (take 18 (tag 20230315))

bad_tag : List ℕ
bad_tag = line (tag 20230230)

-- a tag whose } stands straight after its opener
empty_tag : List ℕ
empty_tag = line (take 10 (tag 20230315) ++ (125 ∷ []))

-- a transfer by its kind, sender, receiver, security, class, code, par, first line and the size of its claim buffer
unfoldable pub sent : ℕ → ℕ → ℕ → ℕ → ℕ → ℕ → ℕ → List ℕ → ℕ → Call
sent kind sender receiver security class code par first room =
    published_transfer ones (record {
      message = (139 ∷ 0 ∷ kind ∷ 0 ∷ sender ∷ receiver ∷ security ∷ class ∷ code ∷ (par % 256) ∷ (par / 256 % 256) ∷ (par / 65536 % 256) ∷ (par / 16777216) ∷ [])
          ++ (first ++ blank);
      buffer = replicate room 0;
    })

-- a transfer that is lent limits, and one that is lent pieces
unfoldable pub lent : List ℕ → Call → Call
lent limits (transfer a) = transfer (record { message = a.message; buffer = a.buffer; limits = limits; pieces = a.pieces })
lent limits (close a) = close a

unfoldable pub in_pieces : List ℕ → Call → Call
in_pieces pieces (transfer a) = transfer (record { message = a.message; buffer = a.buffer; limits = a.limits; pieces = pieces })
in_pieces pieces (close a) = close a

unfoldable pub closing : ℕ → ℕ → Call
closing kind room = close (record { message = 2 ∷ 0 ∷ kind ∷ 0 ∷ []; buffer = replicate room 0 })

-- ---- rows

unfoldable pub zeros : List ℕ
zeros = replicate 8192 0

-- account 1 has lent account 2 40,000 in security 0
unfoldable pub held : List ℕ
held = set zeros 18 40000

-- account 1 has lent account 2 100 less than the largest balance
near : List ℕ
near = set zeros 18 8999999900

-- security 15 is an annual Treasury with one row
last_tables : List ℕ
last_tables = replicate 1710 0 ++ ((1 ∷ 4 ∷ 20230401 ∷ 20230401 ∷ 20230415 ∷ 5000000 ∷ []) ++ replicate 108 0)

-- a Record Date on the last open day
late_tables : List ℕ
late_tables = (3 ∷ 1 ∷ 20391230 ∷ 20391230 ∷ 20391230 ∷ 5000000 ∷ []) ++ replicate 1818 0

pub record CauseRow : Type 0 where
  pub calendar : List ℕ
  pub tables : List ℕ
  pub book : Book
  pub balances : List ℕ
  pub call : Call
  pub number : ℕ

abbrev pub row : List ℕ → List ℕ → ℕ → ℕ → List ℕ → Call → ℕ → CauseRow
row c t d n b k r = record { calendar = c; tables = t; book = record { day = d; count = n }; balances = b; call = k; number = r }

-- a call gets its row's number
unfoldable pub numbered : CauseRow → Bool
numbered r = eqb (number_for r.calendar r.tables r.book r.balances r.call) r.number

rows : List CauseRow
rows =
    -- accepted
    row weekdays case_tables 20230404 0 zeros (sent 1 1 2 0 0 0 200000 (tag_line 20230315) 35) 0
    ∷  -- length before calendar
    row (replicate 479 4294967295) case_tables 20230404 0 zeros (sent 1 1 2 0 0 0 200000 (tag_line 20230315) 35) 1
    ∷  -- calendar before tables
    row (set weekdays 1 4294967295) (set case_tables 0 9) 20230404 0 zeros (sent 1 1 2 0 0 0 200000 (tag_line 20230315) 35) 2
    ∷  -- tables before day
    row weekdays (set case_tables 0 9) 20230401 0 zeros (sent 1 1 2 0 0 0 200000 (tag_line 20230315) 35) 3
    ∷  -- day before record
    row weekdays case_tables 20230401 0 zeros (sent 2 1 2 0 0 0 200000 (tag_line 20230315) 35) 4
    ∷  -- record before fields
    row weekdays case_tables 20230404 0 zeros (sent 2 16 2 0 0 0 200000 (tag_line 20230315) 35) 5
    ∷  -- fields before tag
    row weekdays case_tables 20230404 0 zeros (sent 1 16 2 0 0 0 200000 two_tags 35) 6
    ∷  -- receiver
    row weekdays case_tables 20230404 0 zeros (sent 1 1 16 0 0 0 200000 (tag_line 20230315) 35) 6
    ∷  -- security
    row weekdays case_tables 20230404 0 zeros (sent 1 1 2 16 0 0 200000 (tag_line 20230315) 35) 6
    ∷  -- unused security
    row weekdays case_tables 20230404 0 zeros (sent 1 1 2 1 0 0 200000 (tag_line 20230315) 35) 6
    ∷  -- class
    row weekdays case_tables 20230404 0 zeros (sent 1 1 2 0 2 0 200000 (tag_line 20230315) 35) 6
    ∷  -- code
    row weekdays case_tables 20230404 0 zeros (sent 1 1 2 0 0 13 200000 (tag_line 20230315) 35) 6
    ∷  -- no par
    row weekdays case_tables 20230404 0 zeros (sent 1 1 2 0 0 0 0 (tag_line 20230315) 35) 6
    ∷  -- par
    row weekdays case_tables 20230404 0 zeros (sent 1 1 2 0 0 0 100000001 (tag_line 20230315) 35) 6
    ∷  -- largest par
    row weekdays case_tables 20230404 0 zeros (sent 1 1 2 0 0 0 100000000 (tag_line 20230315) 35) 0
    ∷  -- sender is receiver
    row weekdays case_tables 20230404 0 zeros (sent 1 1 1 0 0 0 200000 (tag_line 20230315) 35) 6
    ∷  -- two openers
    row weekdays case_tables 20230404 0 zeros (sent 1 1 2 0 0 0 200000 two_tags 35) 132
    ∷  -- no end
    row weekdays case_tables 20230404 0 zeros (sent 1 1 2 0 0 0 200000 open_tag 35) 133
    ∷  -- no date
    row weekdays case_tables 20230404 0 zeros (sent 1 1 2 0 0 0 200000 bad_tag 35) 135
    ∷  -- an edit with a loan code
    row weekdays case_tables 20230404 0 zeros (sent 1 1 2 0 0 1 200000 (tag_line 20230405) 35) 138
    ∷  -- after the day before class
    row weekdays case_tables 20230404 0 zeros (sent 1 1 2 0 1 0 200000 (tag_line 20230405) 35) 138
    ∷  -- class before count
    row weekdays case_tables 20230404 4294967295 zeros (sent 1 1 2 0 1 0 200000 (tag_line 20230315) 35) 139
    ∷  -- class 1 on the day
    row weekdays case_tables 20230404 0 zeros (sent 1 1 2 0 1 0 200000 (tag_line 20230404) 35) 0
    ∷  -- count before balance
    row weekdays case_tables 20230404 4294967295 zeros (sent 1 1 2 0 0 3 200000 blank 35) 11
    ∷  -- count before room
    row weekdays case_tables 20230404 4294967295 zeros (sent 1 1 2 0 0 0 200000 (tag_line 20230315) 0) 11
    ∷  -- above the balance
    row weekdays case_tables 20230404 0 held (sent 1 2 1 0 0 3 40001 blank 35) 7
    ∷  -- the whole balance
    row weekdays case_tables 20230404 0 held (sent 1 2 1 0 0 3 40000 blank 35) 0
    ∷  -- code 6
    row weekdays case_tables 20230404 0 held (sent 1 2 1 0 0 6 40000 blank 35) 0
    ∷  -- past the limit
    row weekdays case_tables 20230404 0 near (sent 1 1 2 0 0 1 101 blank 35) 8
    ∷  -- up to the limit
    row weekdays case_tables 20230404 0 near (sent 1 1 2 0 0 1 100 blank 35) 0
    ∷  -- the last account as sender, the last security
    row weekdays last_tables 20230404 0 zeros (sent 1 15 0 15 0 0 1 (tag_line 20230315) 35) 0
    ∷  -- the last account as receiver, room for no claim
    row weekdays last_tables 20230404 0 zeros (sent 1 0 15 15 0 0 1 (tag_line 20230315) 34) 10
    ∷  -- the last transfer that is numbered
    row weekdays case_tables 20230404 4294967294 zeros (sent 1 1 2 0 0 0 200000 (tag_line 20230315) 35) 0
    ∷  -- room for no claim
    row weekdays case_tables 20230404 0 zeros (sent 1 1 2 0 0 0 200000 (tag_line 20230315) 34) 10
    ∷  -- room for a fail claim and one interim claim of two
    row weekdays three_rows 20231207 0 zeros (sent 1 1 2 0 0 0 100000 (tag_line 20230915) 104) 10
    ∷  -- room for all three
    row weekdays three_rows 20231207 0 zeros (sent 1 1 2 0 0 0 100000 (tag_line 20230915) 105) 0
    ∷  -- room for one interim claim of two, without a tag
    row weekdays three_rows 20231207 0 zeros (sent 1 1 2 0 0 0 100000 blank 69) 10
    ∷  -- room for two fail claims of three, a fourth row being dropped
    row weekdays delays 20230705 0 zeros (sent 1 1 2 0 0 0 100000 (tag_line 20230315) 104) 10
    ∷  -- room for the three
    row weekdays delays 20230705 0 zeros (sent 1 1 2 0 0 0 100000 (tag_line 20230315) 105) 0
    ∷  -- limits before pieces, pieces before the day
    row weekdays case_tables 20230404 0 zeros (lent [] (in_pieces [] (sent 1 1 2 0 0 0 200000 (tag_line 20230315) 35))) 12
    ∷ row weekdays case_tables 20230401 0 zeros (in_pieces [] (sent 1 1 2 0 0 0 200000 (tag_line 20230315) 35)) 13
    ∷  -- count before piece
    row weekdays case_tables 20230404 4294967295 zeros (in_pieces (replicate 16 1000) (sent 1 1 2 0 0 1 1500 blank 0)) 11
    ∷  -- before the 2023 memo: piece before lending, lending before balance; an empty tag, and from the memo on
    row weekdays case_tables 20230127 0 zeros (in_pieces (replicate 16 1000) (sent 1 1 2 0 0 3 1500 blank 0)) 14
    ∷ row weekdays case_tables 20230127 0 zeros (sent 1 1 2 0 0 3 1500 blank 0) 15
    ∷ row weekdays case_tables 20230127 0 zeros (sent 1 1 2 0 1 0 1500 empty_tag 0) 0
    ∷ row weekdays case_tables 20230130 0 zeros (sent 1 1 2 0 1 0 1500 empty_tag 0) 135
    ∷  -- no claims need no room
    row weekdays case_tables 20230404 0 zeros (sent 1 1 2 0 0 5 200000 (tag_line 20230315) 0) 0
    ∷  -- a close
    row weekdays case_tables 20230404 0 zeros (closing 2 35) 0
    ∷  -- record before last day
    row weekdays case_tables 20391229 0 zeros (closing 1 35) 5
    ∷  -- last day before room
    row weekdays late_tables 20391229 0 held (closing 2 0) 9
    ∷  -- room
    row weekdays case_tables 20230331 0 held (closing 2 34) 10
    ∷  -- exact room
    row weekdays case_tables 20230331 0 held (closing 2 35) 0
    ∷  -- any count
    row weekdays case_tables 20230404 4294967295 zeros (closing 2 35) 0
    ∷ []

-- an accepted opening sets the count and all balances to zero; a refused one returns day 20000101 and count 0 and leaves the balances
unfoldable pub sevens : List ℕ
sevens = replicate 8192 7

opening : ℕ → ℕ → ℕ → ℕ → Bool
opening day number returned balance =
    let o = opened weekdays case_tables sevens day in
    eqb o.number number && eqb o.book.day returned && eqb o.book.count 0 && all (λ w. eqb w balance) o.balances && eqb (length o.balances) 8192

openings : Bool
openings = opening 20230404 0 20230404 0 && opening 20230401 4 20000101 7 && opening 20391230 4 20000101 7

-- ---- the theorems

-- what the theorems open
unfoldable pub opened_rows : ℕ
unfolding opened_history tag line tag_line blank two_tags open_tag bad_tag empty_tag sent lent in_pieces closing zeros sevens
opened_rows = 0

rows_hold : openings && all numbered rows ≡ true
unfolding opened_rows held near last_tables late_tables three_rows delays numbered rows opening openings
rows_hold = refl
