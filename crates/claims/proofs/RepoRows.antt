-- Repo tracking worked out (document 02, card 3), as rows that compute: the claims of closes on par on loan and on repo, each claim's
-- fields written out.
use mathlib.Core.Path.{◌≡◌, refl}
use mathlib.Core.Bool.{true}
use mathlib.Core.List.{List, [], ◌∷◌, ◌++◌}
use Prim.Native.Nat.{ℕ, ◌-◌}
use lib.ListN.{length, replicate, set}
use Rattle.lists.specs.All.{all}
use Rattle.days.specs.Weekdays.{weekdays}
use Rattle.claims.specs.Close.{close_claims}
use Rattle.claims.proofs.Opened.{opened_claims}
use Rattle.claims.proofs.Rows.{same_bytes, claimed}

-- securities 0 to 3: MBS with two rows; a Treasury, redeemed; MBS guaranteed by the United States, masked for account 2; debt that pays a
-- billionth of principal
tables : List ℕ
tables =
    security (3 ∷ 1
    ∷ 20230401 ∷ 20230401 ∷ 20230415 ∷ 5000000 ∷ 0 ∷ 0 ∷ 0
    ∷ 20230402 ∷ 20230402 ∷ 20230416 ∷ 10000000 ∷ 0 ∷ 0 ∷ 0 ∷ [])
    (security (1 ∷ 3 ∷ 20230402 ∷ 20230402 ∷ 20230402 ∷ 5000000 ∷ 250000000 ∷ 1 ∷ 0 ∷ [])
    (security (4 ∷ 1 ∷ 20230403 ∷ 20230403 ∷ 20230420 ∷ 5000000 ∷ 0 ∷ 0 ∷ 4 ∷ [])
    (security (2 ∷ 2 ∷ 20230401 ∷ 20230401 ∷ 20230410 ∷ 0 ∷ 1 ∷ 0 ∷ 0 ∷ [])
    (replicate 1368 0))))
  where
    -- 114 words before the others
    security : List ℕ → List ℕ → List ℕ
    security words others = (words ++ replicate (114 - length words) 0) ++ others

-- a word of the balances and the par that it holds
record Word : Type 0 where
  index : ℕ
  par : ℕ

abbrev holding : ℕ → ℕ → Word
holding w par = record { index = w; par = par }

balances : List Word → List ℕ
balances [] = replicate 8192 0
balances (w ∷ ws) = set (balances ws) w.index w.par

record CloseRow : Type 0 where
  day : ℕ
  held : List Word
  claims : List ℕ

abbrev row : ℕ → List Word → List ℕ → CloseRow
row d h c = record { day = d; held = h; claims = c }

-- two loans and a repo on two rows: within a row lending before repo; par 1 on loan and par 1 on repo, each rounded by itself; a final
-- row; a masked payer, loans and repos each way; claims without an amount, of accounts 14 and 15; nothing crossed
closes : List CloseRow
closes =
    row 20230331 (holding 18 100 ∷ holding 33 300 ∷ holding 4114 200 ∷ [])
    (3 ∷ 0 ∷ 2 ∷ 1 ∷ 0 ∷ 0 ∷ 0 ∷ 50 ∷ 0 ∷ 20230417 ∷ 3
    ∷ 3 ∷ 0 ∷ 1 ∷ 2 ∷ 0 ∷ 0 ∷ 0 ∷ 150 ∷ 0 ∷ 20230417 ∷ 3
    ∷ 4 ∷ 0 ∷ 2 ∷ 1 ∷ 0 ∷ 0 ∷ 0 ∷ 100 ∷ 0 ∷ 20230417 ∷ 3
    ∷ 3 ∷ 0 ∷ 2 ∷ 1 ∷ 0 ∷ 1 ∷ 0 ∷ 100 ∷ 0 ∷ 20230417 ∷ 3
    ∷ 3 ∷ 0 ∷ 1 ∷ 2 ∷ 0 ∷ 1 ∷ 0 ∷ 300 ∷ 0 ∷ 20230417 ∷ 3
    ∷ 4 ∷ 0 ∷ 2 ∷ 1 ∷ 0 ∷ 1 ∷ 0 ∷ 200 ∷ 0 ∷ 20230417 ∷ 3 ∷ [])
    ∷ row 20230331 (holding 18 1 ∷ holding 4114 1 ∷ [])
    (3 ∷ 0 ∷ 2 ∷ 1 ∷ 0 ∷ 0 ∷ 0 ∷ 1 ∷ 0 ∷ 20230417 ∷ 3
    ∷ 4 ∷ 0 ∷ 2 ∷ 1 ∷ 0 ∷ 0 ∷ 0 ∷ 1 ∷ 0 ∷ 20230417 ∷ 3
    ∷ 3 ∷ 0 ∷ 2 ∷ 1 ∷ 0 ∷ 1 ∷ 0 ∷ 1 ∷ 0 ∷ 20230417 ∷ 3
    ∷ 4 ∷ 0 ∷ 2 ∷ 1 ∷ 0 ∷ 1 ∷ 0 ∷ 1 ∷ 0 ∷ 20230417 ∷ 3 ∷ [])
    ∷ row 20230331 (holding 274 1000 ∷ holding 4385 1000 ∷ [])
    (3 ∷ 2 ∷ 2 ∷ 1 ∷ 1 ∷ 0 ∷ 0 ∷ 500 ∷ 25000 ∷ 0 ∷ 0
    ∷ 4 ∷ 2 ∷ 1 ∷ 2 ∷ 1 ∷ 0 ∷ 0 ∷ 500 ∷ 25000 ∷ 0 ∷ 0 ∷ [])
    ∷ row 20230331 (holding 530 1000 ∷ holding 545 7 ∷ holding 4626 3000 ∷ holding 4641 9000000000 ∷ [])
    (3 ∷ 3 ∷ 2 ∷ 1 ∷ 2 ∷ 0 ∷ 0 ∷ 500 ∷ 0 ∷ 0 ∷ 0
    ∷ 3 ∷ 0 ∷ 1 ∷ 2 ∷ 2 ∷ 0 ∷ 0 ∷ 4 ∷ 0 ∷ 20230420 ∷ 1
    ∷ 4 ∷ 3 ∷ 2 ∷ 1 ∷ 2 ∷ 0 ∷ 0 ∷ 1500 ∷ 0 ∷ 0 ∷ 0
    ∷ 4 ∷ 0 ∷ 1 ∷ 2 ∷ 2 ∷ 0 ∷ 0 ∷ 4500000000 ∷ 0 ∷ 20230420 ∷ 1 ∷ [])
    ∷ row 20230331 (holding 1022 1 ∷ holding 5103 4999999 ∷ [])
    (3 ∷ 1 ∷ 14 ∷ 15 ∷ 3 ∷ 0 ∷ 0 ∷ 0 ∷ 0 ∷ 0 ∷ 0
    ∷ 4 ∷ 1 ∷ 15 ∷ 14 ∷ 3 ∷ 0 ∷ 0 ∷ 0 ∷ 0 ∷ 0 ∷ 0 ∷ [])
    ∷ row 20230403 (holding 18 100 ∷ holding 4114 200 ∷ []) []
    ∷ []

rows_hold : all (λ r. same_bytes (claimed (close_claims weekdays tables r.day (balances r.held))) r.claims) closes ≡ true
unfolding opened_claims same_bytes claimed tables balances closes
rows_hold = refl
