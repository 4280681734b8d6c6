-- Days before the 2023 memo worked out (document 02, card 7; source document 004, Attachment 3), as rows that compute: each claim's fields
-- written out.
use mathlib.Core.Path.{◌≡◌, refl}
use mathlib.Core.Bool.{true}
use mathlib.Core.List.{List, [], ◌∷◌, ◌++◌}
use Prim.Native.Nat.{ℕ, ◌+◌, ◌*◌}
use lib.ListN.{replicate}
use Rattle.lists.specs.All.{all}
use Rattle.lists.specs.Tabulate.{each}
use Rattle.days.specs.Weekdays.{weekdays}
use Rattle.records.specs.MessageRecords.{transfer_of}
use Rattle.securities.proofs.LentRows.{five}
use Rattle.claims.specs.Fails.{contract_tag, transfer_claims}
use Rattle.claims.proofs.Opened.{opened_claims}
use Rattle.claims.proofs.Rows.{tag_line, blank, sent_in, sent, TransferRow, lent_row, row, same_bytes, claimed}
use Rattle.claims.proofs.DelayRows.{dated, monthly}

-- ---- tables

-- a row with both dates on one day
abbrev on : ℕ → ℕ → List ℕ
on date payment_date = dated date date payment_date 0

-- rows of the first of July 2022 to February 2023, paid on the 25th
unfoldable pub over_memo : List ℕ
over_memo = each 6 (λ m. on (20220701 + 100 * m) (20220725 + 100 * m)) ++ (on 20230101 20230125 ++ on 20230201 20230225)

-- securities 0 to 8: MBS around the end of February; MBS with eleven rows of a half year, paid in January; MBS, a Treasury, debt and MBS
-- guaranteed by the United States over the memo's day; MBS with a row before its Beneficiary Date; the memo's pools of 2002 and 2004
memos : List ℕ
memos =
    monthly 3 (on 20220228 20220315 ++ (on 20220301 20220325 ++ on 20220801 20220825))
    ++ (monthly 3 (each 11 (λ k. on (20220801 + k) 20230116))
    ++ (monthly 3 over_memo
    ++ (monthly 1 over_memo
    ++ (monthly 2 over_memo
    ++ (monthly 4 over_memo
    ++ (monthly 3 (dated 20220901 20220915 20220925 0 ++ dated 20230101 20230215 20230227 0)
    ++ (monthly 3 (on 20000104 20000117 ++ (on 20020401 20020415 ++ on 20020501 20020515))
    ++ (monthly 3 (on 20040401 20040415)
    ++ replicate 798 0))))))))

-- ---- transfers

-- a line with a tag whose } stands straight after its opener
unfoldable pub empty_line : List ℕ
empty_line = (123 ∷ 57 ∷ 56 ∷ 65 ∷ 58 ∷ 67 ∷ 78 ∷ 84 ∷ 82 ∷ 47 ∷ 125 ∷ []) ++ replicate 53 32

-- 100,000 of a security from account 1 to account 2, with a Contract Date
failed : ℕ → ℕ → List ℕ
failed security contract = sent 1 2 security 0 100000 (tag_line contract)

-- the claim on a row of such a transfer
claim : ℕ → ℕ → ℕ → ℕ → ℕ → List ℕ
claim type security number release slot = type ∷ 0 ∷ 1 ∷ 2 ∷ security ∷ number ∷ 9 ∷ 50000 ∷ 0 ∷ release ∷ slot ∷ []

-- the fail claims on n rows from a first one on, all with one release date and slot
claims : ℕ → ℕ → ℕ → ℕ → ℕ → List ℕ
claims security first n release slot = each n (λ j. claim 1 security (first + j) release slot)

-- the half year's first day counts and the day before it does not; from 28 to 31 August it is the last of February; C itself does not
-- count; a half year that begins before 2000
edges : List TransferRow
edges =
    row memos 20220829 (failed 0 20220101) (claims 0 0 3 20220830 2)
    ∷ row memos 20220830 (failed 0 20220101) (claims 0 0 3 20220831 2)
    ∷ row memos 20220831 (failed 0 20220101) (claims 0 0 3 20220901 2)
    ∷ row memos 20220901 (failed 0 20220101) (claims 0 1 2 20220902 2)
    ∷ row memos 20220902 (failed 0 20220101) (claims 0 2 1 20220905 2)
    ∷ row memos 20220831 (failed 0 20220228) (claims 0 1 2 20220901 2)
    ∷ row memos 20220831 (failed 0 20220227) (claims 0 0 3 20220901 2)
    ∷ row memos 20220831 (failed 0 20220801) []
    ∷ row memos 20000131 (failed 7 20000103) (claims 7 0 1 20000201 2)
    ∷ row memos 20000131 (failed 7 20000104) []
    ∷ row memos 20000630 (failed 7 20000103) (claims 7 0 1 20000703 2)
    ∷ row memos 20000704 (failed 7 20000103) (claims 7 0 1 20000705 2)
    ∷ row memos 20000705 (failed 7 20000103) []
    ∷ []

-- no limit in number and no cut: eleven rows, all unpaid, also where one date is lent; the day chooses the rule, not C
numbers : List TransferRow
numbers =
    row memos 20220831 (failed 1 20220101) (claims 1 0 11 20230116 3)
    ∷ lent_row memos (five 1 1 1 1 1) 20220831 (failed 1 20220101) (claims 1 0 11 20230116 3)
    ∷ row memos 20220808 (failed 1 20220803) (claims 1 3 5 20230116 3)
    ∷ row memos 20230130 (failed 1 20220101) (claims 1 4 7 20230131 2)
    ∷ row memos 20230127 (failed 2 20220615) (claims 2 1 6 20230130 2)
    ∷ row memos 20230130 (failed 2 20220615) (claims 2 0 7 20230131 2)
    ∷ row memos 20230201 (failed 2 20220615) (claims 2 1 6 20230202 2 ++ claim 1 2 7 20230227 3)
    ∷ row memos 20230127 (failed 5 20220615) (claims 5 1 6 20230130 2)
    ∷ lent_row memos (five 2 2 2 2 2) 20230127 (failed 2 20220615) (claims 2 1 6 20230130 2)
    ∷ lent_row memos (five 2 2 2 2 2) 20230130 (failed 2 20220615) (claims 2 5 2 20230131 2)
    ∷ []

-- types 1 and 2 have no fail claims; an empty tag has none, and interim claims stay; other codes have none
others : List TransferRow
others =
    row memos 20230127 (failed 3 20220615) []
    ∷ row memos 20230127 (failed 4 20220615) []
    ∷ row memos 20230130 (failed 3 20220615) (claims 3 1 6 20230131 2)
    ∷ row memos 20230127 (sent 1 2 2 0 100000 empty_line) []
    ∷ row memos 20230127 (sent_in 1 1 2 2 0 100000 empty_line) []
    ∷ row memos 20230127 (sent 1 2 6 0 100000 empty_line) (claim 2 6 1 20230227 3)
    ∷ row memos 20230127 (sent 1 2 6 0 100000 blank) (claim 2 6 1 20230227 3)
    ∷ row memos 20230127 (failed 6 20220615) (claim 1 6 0 20230130 2 ++ claim 2 6 1 20230227 3)
    ∷ row memos 20230127 (sent 1 2 6 7 100000 (tag_line 20220615)) []
    ∷ []

-- the examples of Attachment 3: 1, 2 and 4 in 2002, 3 and 5 in 2004; the fifth is a repo
examples : List TransferRow
examples =
    row memos 20020320 (sent 1 2 7 0 100000 (tag_line 20020315)) []
    ∷ row memos 20020404 (sent 1 2 7 0 200000 (tag_line 20020315)) (owed 7 1 100000 20020415 3)
    ∷ row memos 20040420 (sent 1 2 8 0 300000 (tag_line 20040315)) (owed 8 0 150000 20040421 2)
    ∷ row memos 20020509 (sent 1 2 7 0 400000 (tag_line 20020315)) (owed 7 1 200000 20020510 2 ++ owed 7 2 200000 20020515 3)
    ∷ row memos 20040420 (sent 1 2 8 7 500000 (tag_line 20040315)) []
    ∷ []
  where
    owed : ℕ → ℕ → ℕ → ℕ → ℕ → List ℕ
    owed security number cents release slot = 1 ∷ 0 ∷ 1 ∷ 2 ∷ security ∷ number ∷ 9 ∷ cents ∷ 0 ∷ release ∷ slot ∷ []

memo_rows_hold :
    all (λ r. same_bytes (claimed (transfer_claims weekdays r.tables r.limits r.day 9 (transfer_of r.message) (contract_tag r.day r.message))) r.claims)
    (edges ++ (numbers ++ (others ++ examples))) ≡ true
unfolding opened_claims tag_line blank sent_in sent same_bytes claimed over_memo memos empty_line failed claim claims edges numbers others examples
memo_rows_hold = refl
