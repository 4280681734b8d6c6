-- Interim claims worked out, as rows that compute: each claim's fields written out. The first table is that of the interim examples of
-- source document 001 (Clearing Memo 278), Attachment II, with the year 2023: example 2 is the row of 7 December; that of example 1 is the
-- one of the 18th, since the 17th is a Sunday.
use mathlib.Core.Path.{◌≡◌, refl}
use mathlib.Core.Bool.{true}
use mathlib.Core.List.{List, [], ◌∷◌, ◌++◌}
use Prim.Native.Nat.{ℕ}
use lib.ListN.{replicate}
use Rattle.lists.specs.All.{all}
use Rattle.days.specs.Weekdays.{weekdays}
use Rattle.records.specs.MessageRecords.{transfer_of}
use Rattle.claims.specs.Fails.{contract_tag, transfer_claims}
use Rattle.claims.proofs.Opened.{opened_claims}
use Rattle.claims.proofs.Rows.{tag_line, blank, sent_in, sent, TransferRow, row, same_bytes, claimed}

-- ---- one row

-- monthly securities 0 to 5 with the same dates: MBS; MBS guaranteed by the United States; debt; MBS with a final row; MBS whose row is
-- masked for account 0; MBS without amounts
one_row : List ℕ
one_row =
    here 3 5000000 0 0 ++ (here 4 5000000 0 0 ++ (here 2 5000000 0 0 ++ (here 3 5000000 1 0 ++ (here 3 5000000 0 1 ++ (here 3 0 0 0 ++ replicate 1140 0)))))
  where
    here : ℕ → ℕ → ℕ → ℕ → List ℕ
    here type factor final mask = (type ∷ 1 ∷ 20231201 ∷ 20231215 ∷ 20231215 ∷ factor ∷ 0 ∷ final ∷ mask ∷ []) ++ replicate 105 0

-- 75,000 of a security from account 0 to account 1, without a tag
plain : ℕ → List ℕ
plain security = sent 0 1 security 0 75000 blank

-- the claim of such a transfer
claim : ℕ → ℕ → List ℕ
claim security slot = 2 ∷ 0 ∷ 0 ∷ 1 ∷ security ∷ 0 ∷ 9 ∷ 37500 ∷ 0 ∷ 20231215 ∷ slot ∷ []

-- the day before the Record Date, on it, between, the day before the Beneficiary Date, on it, after it; types 4 and 2; a loan; class 1
-- with the day as its Contract Date; a tag; final; masked; without amounts; a tag on the Beneficiary Date claims it as failed
one_row_transfers : List TransferRow
one_row_transfers =
    row one_row 20231130 (plain 0) []
    ∷ row one_row 20231201 (plain 0) (claim 0 3)
    ∷ row one_row 20231207 (plain 0) (claim 0 3)
    ∷ row one_row 20231214 (plain 0) (claim 0 3)
    ∷ row one_row 20231215 (plain 0) []
    ∷ row one_row 20231218 (sent 0 1 0 0 200000 blank) []
    ∷ row one_row 20231207 (plain 1) (claim 1 1)
    ∷ row one_row 20231207 (plain 2) []
    ∷ row one_row 20231207 (sent 0 1 0 1 75000 blank) []
    ∷ row one_row 20231207 (sent_in 1 0 1 0 0 75000 (tag_line 20231207)) (claim 0 3)
    ∷ row one_row 20231207 (sent 0 1 0 0 75000 (tag_line 20231115)) (claim 0 3)
    ∷ row one_row 20231207 (plain 3) (claim 3 3)
    ∷ row one_row 20231207 (plain 4) (2 ∷ 3 ∷ 0 ∷ 1 ∷ 4 ∷ 0 ∷ 9 ∷ 37500 ∷ 0 ∷ 0 ∷ 0 ∷ [])
    ∷ row one_row 20231207 (plain 5) (2 ∷ 1 ∷ 0 ∷ 1 ∷ 5 ∷ 0 ∷ 9 ∷ 0 ∷ 0 ∷ 0 ∷ 0 ∷ [])
    ∷ row one_row 20231215 (sent 0 1 0 0 75000 (tag_line 20231115)) (1 ∷ 0 ∷ 0 ∷ 1 ∷ 0 ∷ 0 ∷ 9 ∷ 37500 ∷ 0 ∷ 20231218 ∷ 2 ∷ [])
    ∷ []

-- ---- fail and interim claims together

-- security 0: MBS, its first Beneficiary Date reached on 20231207, its second and third between; security 1: MBS, a Record Date behind its
-- Beneficiary Date
unfoldable pub three_rows : List ℕ
three_rows =
    ((3 ∷ 1
    ∷ 20231001 ∷ 20231001 ∷ 20231025 ∷ 5000000 ∷ 0 ∷ 0 ∷ 0
    ∷ 20231101 ∷ 20231215 ∷ 20231220 ∷ 5000000 ∷ 0 ∷ 0 ∷ 0
    ∷ 20231201 ∷ 20240115 ∷ 20240122 ∷ 5000000 ∷ 0 ∷ 0 ∷ 0 ∷ []) ++ replicate 91 0)
    ++ (((3 ∷ 1 ∷ 20231215 ∷ 20231201 ∷ 20231220 ∷ 5000000 ∷ 0 ∷ 0 ∷ 0 ∷ []) ++ replicate 105 0)
    ++ replicate 1596 0)

both_interim : List ℕ
both_interim = 2 ∷ 0 ∷ 1 ∷ 2 ∷ 0 ∷ 1 ∷ 9 ∷ 50000 ∷ 0 ∷ 20231220 ∷ 3 ∷ 2 ∷ 0 ∷ 1 ∷ 2 ∷ 0 ∷ 2 ∷ 9 ∷ 50000 ∷ 0 ∷ 20240122 ∷ 3 ∷ []

-- tagged and untagged; a Contract Date after the first Beneficiary Date; before, on and behind a Record Date that is behind its
-- Beneficiary Date
three_row_transfers : List TransferRow
three_row_transfers =
    row three_rows 20231207 (sent 1 2 0 0 100000 (tag_line 20230915)) ((1 ∷ 0 ∷ 1 ∷ 2 ∷ 0 ∷ 0 ∷ 9 ∷ 50000 ∷ 0 ∷ 20231208 ∷ 2 ∷ []) ++ both_interim)
    ∷ row three_rows 20231207 (sent 1 2 0 0 100000 blank) both_interim
    ∷ row three_rows 20231207 (sent 1 2 0 0 100000 (tag_line 20231001)) both_interim
    ∷ row three_rows 20231130 (sent 1 2 1 0 100000 blank) []
    ∷ row three_rows 20231207 (sent 1 2 1 0 100000 blank) []
    ∷ row three_rows 20231215 (sent 1 2 1 0 100000 blank) []
    ∷ []

interim_rows_hold :
    all (λ r. same_bytes (claimed (transfer_claims weekdays r.tables r.limits r.day 9 (transfer_of r.message) (contract_tag r.day r.message))) r.claims)
    (one_row_transfers ++ three_row_transfers) ≡ true
unfolding opened_claims tag_line blank sent_in sent same_bytes claimed one_row plain claim one_row_transfers three_rows both_interim three_row_transfers
interim_rows_hold = refl
