-- Date limits worked out (document 02, card 5), as rows that compute: each claim's fields written out.
use mathlib.Core.Path.{◌≡◌, refl}
use mathlib.Core.Bool.{true}
use mathlib.Core.List.{List, [], ◌∷◌, ◌++◌}
use Prim.Native.Nat.{ℕ, ◌+◌, ◌-◌, ◌*◌}
use lib.ListN.{replicate}
use Rattle.lists.specs.All.{all}
use Rattle.lists.specs.Tabulate.{each}
use Rattle.days.specs.Weekdays.{weekdays}
use Rattle.records.specs.MessageRecords.{transfer_of}
use Rattle.securities.specs.Cases.{case_tables}
use Rattle.securities.proofs.LentRows.{five}
use Rattle.claims.specs.Fails.{contract_tag, transfer_claims}
use Rattle.claims.proofs.Opened.{opened_claims}
use Rattle.claims.proofs.Rows.{tag_line, blank, sent_in, sent, TransferRow, lent_row, row, same_bytes, claimed}
use Rattle.claims.proofs.DelayRows.{delays}

-- ---- the case of April and May, two claims

-- 400,000 from account 1 to account 2; the claim on a row with its release date and slot
case : List ℕ
case = sent 1 2 0 0 400000 (tag_line 20230315)

on_case : ℕ → ℕ → ℕ → List ℕ
on_case number release slot = 1 ∷ 0 ∷ 1 ∷ 2 ∷ 0 ∷ number ∷ 9 ∷ 200000 ∷ 0 ∷ release ∷ slot ∷ []

april : List ℕ
april = on_case 0 20230510 2

may : List ℕ
may = on_case 1 20230515 3

-- the published numbers; the largest; one date of MBS, monthly the same or more; two dates, monthly more
case_transfers : List TransferRow
case_transfers =
    lent_row case_tables (five 7 6 3 2 1) 20230509 case (april ++ may)
    ∷ lent_row case_tables (five 16 16 16 16 16) 20230509 case (april ++ may)
    ∷ lent_row case_tables (five 1 6 3 2 1) 20230509 case may
    ∷ lent_row case_tables (five 1 16 16 16 16) 20230509 case may
    ∷ lent_row case_tables (five 2 3 3 3 3) 20230509 case (april ++ may)
    ∷ []

-- ---- nine dates of each frequency

-- rows of the first of January to September 2023, paid on the 15th
months : List ℕ
months = each 9 (λ m. let first = 20230101 + 100 * m in first ∷ first ∷ (first + 14) ∷ 5000000 ∷ 0 ∷ 0 ∷ 0 ∷ [])

-- agency MBS monthly, Treasury quarterly, debt semiannual, Treasury annual, debt monthly, MBS guaranteed by the United States annual
nine : List ℕ
nine = kind 3 1 ++ (kind 1 2 ++ (kind 2 3 ++ (kind 1 4 ++ (kind 2 1 ++ (kind 4 4 ++ replicate 1140 0)))))
  where
    kind : ℕ → ℕ → List ℕ
    kind type frequency = (type ∷ frequency ∷ months) ++ replicate 49 0

failed : ℕ → ℕ → List ℕ
failed security contract = sent 1 2 security 0 100000 (tag_line contract)

-- the claims on the last n of the nine rows, all paid by 29 September
last : ℕ → ℕ → List ℕ
last security n = each n (λ j. 1 ∷ 0 ∷ 1 ∷ 2 ∷ security ∷ (9 - n + j) ∷ 9 ∷ 50000 ∷ 0 ∷ 20231002 ∷ 2 ∷ [])

-- each number in its place; the published ones; those after the Contract Date alone
nine_transfers : List TransferRow
nine_transfers =
    lent 0 (last 0 9) ∷ lent 1 (last 1 4) ∷ lent 2 (last 2 3) ∷ lent 3 (last 3 2) ∷ lent 4 (last 4 8) ∷ lent 5 (last 5 9)
    ∷ published 0 (last 0 7) ∷ published 1 (last 1 3) ∷ published 2 (last 2 2) ∷ published 3 (last 3 1) ∷ published 4 (last 4 6) ∷ published 5 (last 5 7)
    ∷ lent_row nine (five 9 8 4 3 2) 20230929 (failed 0 20230615) (last 0 3)
    ∷ lent_row nine (five 9 8 4 3 2) 20230929 (failed 1 20230801) (last 1 1)
    ∷ []
  where
    lent : ℕ → List ℕ → TransferRow
    lent security claims = lent_row nine (five 9 8 4 3 2) 20230929 (failed security 20221215) claims

    published : ℕ → List ℕ → TransferRow
    published security claims = row nine 20230929 (failed security 20221215) claims

-- ---- card 2's cut works on the number of MBS

-- of nine rows that wait the first of the last seven, of all nine, of the last one; monthly has no part in it
cut_transfers : List TransferRow
cut_transfers =
    row delays 20230905 (failed 6 20221215) (waiting 2 20240301)
    ∷ lent_row delays (five 9 6 3 2 1) 20230905 (failed 6 20221215) (waiting 0 20240101)
    ∷ lent_row delays (five 1 6 3 2 1) 20230905 (failed 6 20221215) (waiting 8 20240902)
    ∷ lent_row delays (five 7 16 3 2 1) 20230905 (failed 6 20221215) (waiting 2 20240301)
    ∷ []
  where
    waiting : ℕ → ℕ → List ℕ
    waiting number release = 1 ∷ 0 ∷ 1 ∷ 2 ∷ 6 ∷ number ∷ 9 ∷ 50000 ∷ 0 ∷ release ∷ 3 ∷ []

limit_rows_hold :
    all (λ r. same_bytes (claimed (transfer_claims weekdays r.tables r.limits r.day 9 (transfer_of r.message) (contract_tag r.day r.message))) r.claims)
    (case_transfers ++ (nine_transfers ++ cut_transfers)) ≡ true
unfolding opened_claims tag_line blank sent_in sent same_bytes claimed delays case on_case april may case_transfers months nine failed last nine_transfers cut_transfers
limit_rows_hold = refl
