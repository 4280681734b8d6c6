-- Long-delay pools worked out (document 02, card 2), as rows that compute: each claim's fields written out.
use mathlib.Core.Path.{◌≡◌, refl}
use mathlib.Core.Bool.{true, cond}
use mathlib.Core.List.{List, [], ◌∷◌, ◌++◌}
use Prim.Native.Nat.{ℕ, ◌+◌, ◌-◌, ◌*◌}
use lib.Dec.{eqb}
use lib.ListN.{length, replicate}
use Rattle.lists.specs.All.{all}
use Rattle.lists.specs.Tabulate.{each}
use Rattle.days.specs.Weekdays.{weekdays}
use Rattle.records.specs.MessageRecords.{transfer_of}
use Rattle.claims.specs.Fails.{contract_tag, transfer_claims}
use Rattle.claims.proofs.Opened.{opened_claims}
use Rattle.claims.proofs.Rows.{tag_line, blank, sent_in, sent, TransferRow, row, same_bytes, claimed}

-- ---- tables

-- a row by its three dates and its mask
abbrev pub dated : ℕ → ℕ → ℕ → ℕ → List ℕ
dated record_date beneficiary_date payment_date mask = record_date ∷ beneficiary_date ∷ payment_date ∷ 5000000 ∷ 0 ∷ 0 ∷ mask ∷ []

-- a monthly security of a type, by the words of its rows
abbrev pub monthly : ℕ → List ℕ → List ℕ
monthly type words = (type ∷ 1 ∷ words) ++ replicate (112 - length words) 0

-- rows of 1 April, 1 May and 1 June that are paid on the dates given, the third masked
abbrev spring : ℕ → ℕ → ℕ → ℕ → List ℕ
spring april may june mask = dated 20230401 20230401 april 0 ++ (dated 20230501 20230501 may 0 ++ dated 20230601 20230601 june mask)

-- and one of 1 July
abbrev july : List ℕ
july = dated 20230701 20230701 20230825 0

-- rows of the first of January to September 2023 that are paid a year later, but for the third
abbrev year : ℕ → List ℕ
year march = each 9 (λ m. dated (20230101 + 100 * m) (20230101 + 100 * m) (cond (eqb m 2) march (20240101 + 100 * m)) 0)

-- securities 0 to 9: MBS; MBS whose third row is paid before its second; MBS whose second row is paid on 5 July; debt; MBS guaranteed by
-- the United States; MBS whose fourth Beneficiary Date is 15 July; MBS paid a year later; the same but for its third row; MBS whose third
-- row is masked for account 1; a Treasury
unfoldable pub delays : List ℕ
delays =
    monthly 3 (late ++ july)
    ++ (monthly 3 (spring 20230525 20230725 20230703 0 ++ july)
    ++ (monthly 3 (spring 20230525 20230705 20230725 0)
    ++ (monthly 2 (late ++ july)
    ++ (monthly 4 (late ++ july)
    ++ (monthly 3 (late ++ dated 20230701 20230715 20230825 0)
    ++ (monthly 3 (year 20240301)
    ++ (monthly 3 (year 20230901)
    ++ (monthly 3 (spring 20230525 20230625 20230725 2 ++ july)
    ++ (monthly 1 (late ++ july)
    ++ replicate 684 0)))))))))
  where
    late : List ℕ
    late = spring 20230525 20230625 20230725 0

-- ---- transfers

-- 100,000 of a security from account 1 to account 2, with a Contract Date
failed : ℕ → ℕ → List ℕ
failed security contract = sent 1 2 security 0 100000 (tag_line contract)

-- a claim of such a transfer by its type, outcome, security, row, release date and slot
claim : ℕ → ℕ → ℕ → ℕ → ℕ → ℕ → List ℕ
claim type outcome security number release slot = type ∷ outcome ∷ 1 ∷ 2 ∷ security ∷ number ∷ 9 ∷ 50000 ∷ 0 ∷ release ∷ slot ∷ []

-- the claims on the first two rows, both paid
paid : ℕ → ℕ → List ℕ
paid security release = claim 1 0 security 0 release 2 ++ claim 1 0 security 1 release 2

-- the fourth row is dropped; the third, already paid, is not; a Contract Date after the third row leaves the fourth as the earliest, one
-- after the second the third; a Payment Date on the day is paid; debt and Treasuries have no cut, guaranteed MBS has; an interim claim is
-- outside; a dropped row makes no room for an eighth, and a paid one before the earliest stays; a notice is kept too; the day before a
-- Payment Date and on it; without a tag nothing is failed
transfers : List TransferRow
transfers =
    row delays 20230705 (failed 0 20230315) (paid 0 20230706 ++ claim 1 0 0 2 20230725 3)
    ∷ row delays 20230705 (failed 1 20230315) (claim 1 0 1 0 20230706 2 ++ (claim 1 0 1 1 20230725 3 ++ claim 1 0 1 2 20230706 2))
    ∷ row delays 20230705 (failed 0 20230601) (claim 1 0 0 3 20230825 3)
    ∷ row delays 20230705 (failed 0 20230501) (claim 1 0 0 2 20230725 3)
    ∷ row delays 20230705 (failed 2 20230415) (claim 1 0 2 1 20230706 2 ++ claim 1 0 2 2 20230725 3)
    ∷ row delays 20230705 (failed 3 20230315) (paid 3 20230706 ++ (claim 1 0 3 2 20230725 3 ++ claim 1 0 3 3 20230825 3))
    ∷ row delays 20230705 (failed 9 20230315) (paid 9 20230706 ++ (claim 1 0 9 2 20230725 1 ++ claim 1 0 9 3 20230825 1))
    ∷ row delays 20230705 (failed 4 20230315) (paid 4 20230706 ++ claim 1 0 4 2 20230725 1)
    ∷ row delays 20230705 (failed 5 20230315) (paid 5 20230706 ++ (claim 1 0 5 2 20230725 3 ++ claim 2 0 5 3 20230825 3))
    ∷ row delays 20230905 (failed 6 20221215) (claim 1 0 6 2 20240301 3)
    ∷ row delays 20230905 (failed 7 20221215) (claim 1 0 7 2 20230906 2 ++ claim 1 0 7 3 20240401 3)
    ∷ row delays 20230705 (failed 8 20230315) (paid 8 20230706 ++ claim 1 3 8 2 0 0)
    ∷ row delays 20230724 (failed 0 20230315) (paid 0 20230725 ++ claim 1 0 0 2 20230725 3)
    ∷ row delays 20230725 (failed 0 20230315) (paid 0 20230726 ++ (claim 1 0 0 2 20230726 2 ++ claim 1 0 0 3 20230825 3))
    ∷ row delays 20230705 (sent 1 2 0 0 100000 blank) []
    ∷ []

delay_rows_hold :
    all (λ r. same_bytes (claimed (transfer_claims weekdays r.tables r.limits r.day 9 (transfer_of r.message) (contract_tag r.day r.message))) r.claims) transfers
    ≡ true
unfolding opened_claims tag_line blank sent_in sent same_bytes claimed delays failed claim paid transfers
delay_rows_hold = refl
