-- Computed rows: the claims of transfers and of closes on full tables, balances and message bytes, each claim's 35 bytes written out; then
-- those on rows whose Record and Beneficiary Dates differ, each claim's fields written out.
use mathlib.Core.Path.{◌≡◌, refl}
use mathlib.Core.Bool.{Bool, true, false, ◌&&◌}
use mathlib.Core.List.{List, [], ◌∷◌, ◌++◌}
use Prim.Native.Nat.{ℕ, ◌+◌, ◌*◌, ◌/◌, ◌%◌}
use lib.Dec.{eqb}
use lib.ListN.{replicate, set}
use Rattle.lists.specs.All.{all}
use Rattle.days.specs.Weekdays.{weekdays}
use Rattle.records.specs.declared.Claim.{Claim}
use Rattle.records.specs.MessageRecords.{transfer_of}
use Rattle.securities.specs.Cases.{case_tables}
use Rattle.claims.specs.Fails.{contract_tag, maximum_numbers, maximum_for, transfer_claims}
use Rattle.claims.specs.Close.{close_claims}
use Rattle.claims.specs.Written.{bytes_of_all}
use Rattle.claims.proofs.Opened.{opened_claims}

-- ---- messages

-- a line with a Contract Date tag, {98A:CNTR/yyyymmdd}, and a line of spaces
unfoldable pub tag_line : ℕ → List ℕ
tag_line c =
    (123 ∷ 57 ∷ 56 ∷ 65 ∷ 58 ∷ 67 ∷ 78 ∷ 84 ∷ 82 ∷ 47 ∷ (48 + c / 10000000) ∷ (48 + c / 1000000 % 10) ∷ (48 + c / 100000 % 10) ∷ (48 + c / 10000 % 10)
    ∷ (48 + c / 1000 % 10) ∷ (48 + c / 100 % 10) ∷ (48 + c / 10 % 10) ∷ (48 + c % 10) ∷ 125 ∷ [])
    ++ replicate 45 32

unfoldable pub blank : List ℕ
blank = replicate 64 32

-- a transfer by its class, sender, receiver, security, tracking code, par and first line
unfoldable pub sent_in : ℕ → ℕ → ℕ → ℕ → ℕ → ℕ → List ℕ → List ℕ
sent_in class sender receiver security code par line =
    (139 ∷ 0 ∷ 1 ∷ 0 ∷ sender ∷ receiver ∷ security ∷ class ∷ code ∷ (par % 256) ∷ (par / 256 % 256) ∷ (par / 65536 % 256) ∷ (par / 16777216) ∷ [])
    ++ (line ++ blank)

-- of class 0
unfoldable pub sent : ℕ → ℕ → ℕ → ℕ → ℕ → List ℕ → List ℕ
sent sender receiver security code par line = sent_in 0 sender receiver security code par line

-- ---- tables

-- security 0: MBS with eight rows; 1: a semiannual Treasury, its last row final and masked; 2: MBS guaranteed by the United States
many_tables : List ℕ
many_tables =
    ((3 ∷ 1
    ∷ 20240101 ∷ 20240101 ∷ 20240125 ∷ 5000000 ∷ 0 ∷ 0 ∷ 0
    ∷ 20240201 ∷ 20240201 ∷ 20240225 ∷ 5000001 ∷ 1 ∷ 0 ∷ 0
    ∷ 20240301 ∷ 20240301 ∷ 20240325 ∷ 5000002 ∷ 2 ∷ 0 ∷ 0
    ∷ 20240401 ∷ 20240401 ∷ 20240425 ∷ 5000003 ∷ 3 ∷ 0 ∷ 0
    ∷ 20240501 ∷ 20240501 ∷ 20240525 ∷ 5000004 ∷ 4 ∷ 0 ∷ 0
    ∷ 20240601 ∷ 20240601 ∷ 20240625 ∷ 5000005 ∷ 5 ∷ 0 ∷ 0
    ∷ 20240701 ∷ 20240701 ∷ 20240725 ∷ 5000006 ∷ 6 ∷ 0 ∷ 0
    ∷ 20240801 ∷ 20240801 ∷ 20240825 ∷ 5000007 ∷ 7 ∷ 0 ∷ 0 ∷ []) ++ replicate 56 0)
    ++ (((1 ∷ 3
    ∷ 20220215 ∷ 20220215 ∷ 20220215 ∷ 10000000 ∷ 0 ∷ 0 ∷ 0
    ∷ 20220815 ∷ 20220815 ∷ 20220815 ∷ 20000000 ∷ 0 ∷ 0 ∷ 0
    ∷ 20230215 ∷ 20230215 ∷ 20230215 ∷ 30000000 ∷ 500 ∷ 1 ∷ 6 ∷ []) ++ replicate 91 0)
    ++ (((4 ∷ 1
    ∷ 20230401 ∷ 20230401 ∷ 20230420 ∷ 0 ∷ 1 ∷ 0 ∷ 0
    ∷ 20230501 ∷ 20230501 ∷ 20230515 ∷ 5000000 ∷ 0 ∷ 1 ∷ 2 ∷ []) ++ replicate 98 0)
    ++ replicate 1482 0))

-- par on loan: security, lender, borrower
balances : List ℕ
balances =
    set (set (set (set (set (set (set (set (replicate 8192 0)
    (256 * 0 + 16 * 1 + 2) 15000)
    (256 * 0 + 16 * 2 + 1) 1)
    (256 * 0 + 16 * 15 + 0) 9000000000)
    (256 * 1 + 16 * 3 + 1) 100)
    (256 * 1 + 16 * 3 + 2) 7)
    (256 * 2 + 16 * 2 + 1) 50000)
    (256 * 2 + 16 * 2 + 0) 50000)
    (256 * 5 + 16 * 1 + 2) 77

-- ---- rows

pub record TransferRow : Type 0 where
  pub tables : List ℕ
  pub limits : List ℕ
  pub day : ℕ
  pub message : List ℕ
  pub claims : List ℕ

-- with the limits that it is lent, and with the published numbers
abbrev pub lent_row : List ℕ → List ℕ → ℕ → List ℕ → List ℕ → TransferRow
lent_row t l d m c = record { tables = t; limits = l; day = d; message = m; claims = c }

abbrev pub row : List ℕ → ℕ → List ℕ → List ℕ → TransferRow
row t d m c = lent_row t maximum_numbers d m c

-- the seven most recent of eight dates; those after the Contract Date; none with a loan code or without a tag; final, masked and
-- half a cent
transfers : List TransferRow
transfers =
    row case_tables 20230404 (sent 1 2 0 0 200000 (tag_line 20230315)) (33 ∷ 0 ∷ 3 ∷ 0 ∷ 1 ∷ 0 ∷ 1 ∷ 2 ∷ 0 ∷ 0 ∷ 9 ∷ 0 ∷ 0 ∷ 0 ∷ 160 ∷ 134 ∷ 1 ∷ 0 ∷ 0 ∷ 0 ∷ 0 ∷ 0 ∷ 0 ∷ 0 ∷ 0 ∷ 0 ∷ 0 ∷ 0 ∷ 0 ∷ 0 ∷ 17 ∷ 177 ∷ 52 ∷ 1 ∷ 3 ∷ [])
    ∷ row many_tables 20240904 (sent 3 4 0 0 1000000 (tag_line 20231201)) (33 ∷ 0 ∷ 3 ∷ 0 ∷ 1 ∷ 0 ∷ 3 ∷ 4 ∷ 0 ∷ 1 ∷ 9 ∷ 0 ∷ 0 ∷ 0 ∷ 32 ∷ 161 ∷ 7 ∷ 0 ∷ 0 ∷ 0 ∷ 0 ∷ 0 ∷ 0 ∷ 0 ∷ 0 ∷ 0 ∷ 0 ∷ 0 ∷ 0 ∷ 0 ∷ 9 ∷ 218 ∷ 52 ∷ 1 ∷ 2
    ∷ 33 ∷ 0 ∷ 3 ∷ 0 ∷ 1 ∷ 0 ∷ 3 ∷ 4 ∷ 0 ∷ 2 ∷ 9 ∷ 0 ∷ 0 ∷ 0 ∷ 32 ∷ 161 ∷ 7 ∷ 0 ∷ 0 ∷ 0 ∷ 0 ∷ 0 ∷ 0 ∷ 0 ∷ 0 ∷ 0 ∷ 0 ∷ 0 ∷ 0 ∷ 0 ∷ 9 ∷ 218 ∷ 52 ∷ 1 ∷ 2
    ∷ 33 ∷ 0 ∷ 3 ∷ 0 ∷ 1 ∷ 0 ∷ 3 ∷ 4 ∷ 0 ∷ 3 ∷ 9 ∷ 0 ∷ 0 ∷ 0 ∷ 32 ∷ 161 ∷ 7 ∷ 0 ∷ 0 ∷ 0 ∷ 0 ∷ 0 ∷ 0 ∷ 0 ∷ 0 ∷ 0 ∷ 0 ∷ 0 ∷ 0 ∷ 0 ∷ 9 ∷ 218 ∷ 52 ∷ 1 ∷ 2
    ∷ 33 ∷ 0 ∷ 3 ∷ 0 ∷ 1 ∷ 0 ∷ 3 ∷ 4 ∷ 0 ∷ 4 ∷ 9 ∷ 0 ∷ 0 ∷ 0 ∷ 32 ∷ 161 ∷ 7 ∷ 0 ∷ 0 ∷ 0 ∷ 0 ∷ 0 ∷ 0 ∷ 0 ∷ 0 ∷ 0 ∷ 0 ∷ 0 ∷ 0 ∷ 0 ∷ 9 ∷ 218 ∷ 52 ∷ 1 ∷ 2
    ∷ 33 ∷ 0 ∷ 3 ∷ 0 ∷ 1 ∷ 0 ∷ 3 ∷ 4 ∷ 0 ∷ 5 ∷ 9 ∷ 0 ∷ 0 ∷ 0 ∷ 33 ∷ 161 ∷ 7 ∷ 0 ∷ 0 ∷ 0 ∷ 0 ∷ 0 ∷ 1 ∷ 0 ∷ 0 ∷ 0 ∷ 0 ∷ 0 ∷ 0 ∷ 0 ∷ 9 ∷ 218 ∷ 52 ∷ 1 ∷ 2
    ∷ 33 ∷ 0 ∷ 3 ∷ 0 ∷ 1 ∷ 0 ∷ 3 ∷ 4 ∷ 0 ∷ 6 ∷ 9 ∷ 0 ∷ 0 ∷ 0 ∷ 33 ∷ 161 ∷ 7 ∷ 0 ∷ 0 ∷ 0 ∷ 0 ∷ 0 ∷ 1 ∷ 0 ∷ 0 ∷ 0 ∷ 0 ∷ 0 ∷ 0 ∷ 0 ∷ 9 ∷ 218 ∷ 52 ∷ 1 ∷ 2
    ∷ 33 ∷ 0 ∷ 3 ∷ 0 ∷ 1 ∷ 0 ∷ 3 ∷ 4 ∷ 0 ∷ 7 ∷ 9 ∷ 0 ∷ 0 ∷ 0 ∷ 33 ∷ 161 ∷ 7 ∷ 0 ∷ 0 ∷ 0 ∷ 0 ∷ 0 ∷ 1 ∷ 0 ∷ 0 ∷ 0 ∷ 0 ∷ 0 ∷ 0 ∷ 0 ∷ 9 ∷ 218 ∷ 52 ∷ 1 ∷ 2 ∷ [])
    ∷ row many_tables 20240904 (sent 3 4 0 0 1000000 (tag_line 20240601)) (33 ∷ 0 ∷ 3 ∷ 0 ∷ 1 ∷ 0 ∷ 3 ∷ 4 ∷ 0 ∷ 6 ∷ 9 ∷ 0 ∷ 0 ∷ 0 ∷ 33 ∷ 161 ∷ 7 ∷ 0 ∷ 0 ∷ 0 ∷ 0 ∷ 0 ∷ 1 ∷ 0 ∷ 0 ∷ 0 ∷ 0 ∷ 0 ∷ 0 ∷ 0 ∷ 9 ∷ 218 ∷ 52 ∷ 1 ∷ 2
    ∷ 33 ∷ 0 ∷ 3 ∷ 0 ∷ 1 ∷ 0 ∷ 3 ∷ 4 ∷ 0 ∷ 7 ∷ 9 ∷ 0 ∷ 0 ∷ 0 ∷ 33 ∷ 161 ∷ 7 ∷ 0 ∷ 0 ∷ 0 ∷ 0 ∷ 0 ∷ 1 ∷ 0 ∷ 0 ∷ 0 ∷ 0 ∷ 0 ∷ 0 ∷ 0 ∷ 9 ∷ 218 ∷ 52 ∷ 1 ∷ 2 ∷ [])
    ∷ row many_tables 20240904 (sent 3 4 0 1 1000000 (tag_line 20240601)) []
    ∷ row many_tables 20240904 (sent 3 4 0 0 1000000 blank) []
    ∷ row many_tables 20230215 (sent 3 4 1 0 100 (tag_line 20220101)) (33 ∷ 0 ∷ 3 ∷ 0 ∷ 1 ∷ 0 ∷ 3 ∷ 4 ∷ 1 ∷ 1 ∷ 9 ∷ 0 ∷ 0 ∷ 0 ∷ 200 ∷ 0 ∷ 0 ∷ 0 ∷ 0 ∷ 0 ∷ 0 ∷ 0 ∷ 0 ∷ 0 ∷ 0 ∷ 0 ∷ 0 ∷ 0 ∷ 0 ∷ 0 ∷ 72 ∷ 176 ∷ 52 ∷ 1 ∷ 2
    ∷ 33 ∷ 0 ∷ 3 ∷ 0 ∷ 1 ∷ 0 ∷ 3 ∷ 4 ∷ 1 ∷ 2 ∷ 9 ∷ 0 ∷ 0 ∷ 0 ∷ 44 ∷ 1 ∷ 0 ∷ 0 ∷ 0 ∷ 0 ∷ 0 ∷ 0 ∷ 0 ∷ 0 ∷ 0 ∷ 0 ∷ 0 ∷ 0 ∷ 0 ∷ 0 ∷ 72 ∷ 176 ∷ 52 ∷ 1 ∷ 2 ∷ [])
    ∷ row many_tables 20230215 (sent 1 4 1 0 100 (tag_line 20220101)) (33 ∷ 0 ∷ 3 ∷ 0 ∷ 1 ∷ 0 ∷ 1 ∷ 4 ∷ 1 ∷ 1 ∷ 9 ∷ 0 ∷ 0 ∷ 0 ∷ 200 ∷ 0 ∷ 0 ∷ 0 ∷ 0 ∷ 0 ∷ 0 ∷ 0 ∷ 0 ∷ 0 ∷ 0 ∷ 0 ∷ 0 ∷ 0 ∷ 0 ∷ 0 ∷ 72 ∷ 176 ∷ 52 ∷ 1 ∷ 2
    ∷ 33 ∷ 0 ∷ 3 ∷ 0 ∷ 1 ∷ 3 ∷ 1 ∷ 4 ∷ 1 ∷ 2 ∷ 9 ∷ 0 ∷ 0 ∷ 0 ∷ 44 ∷ 1 ∷ 0 ∷ 0 ∷ 0 ∷ 0 ∷ 0 ∷ 0 ∷ 0 ∷ 0 ∷ 0 ∷ 0 ∷ 0 ∷ 0 ∷ 0 ∷ 0 ∷ 0 ∷ 0 ∷ 0 ∷ 0 ∷ 0 ∷ [])
    ∷ row many_tables 20230502 (sent 1 4 2 0 1 (tag_line 20220101)) (33 ∷ 0 ∷ 3 ∷ 0 ∷ 1 ∷ 1 ∷ 1 ∷ 4 ∷ 2 ∷ 0 ∷ 9 ∷ 0 ∷ 0 ∷ 0 ∷ 0 ∷ 0 ∷ 0 ∷ 0 ∷ 0 ∷ 0 ∷ 0 ∷ 0 ∷ 0 ∷ 0 ∷ 0 ∷ 0 ∷ 0 ∷ 0 ∷ 0 ∷ 0 ∷ 0 ∷ 0 ∷ 0 ∷ 0 ∷ 0
    ∷ 33 ∷ 0 ∷ 3 ∷ 0 ∷ 1 ∷ 3 ∷ 1 ∷ 4 ∷ 2 ∷ 1 ∷ 9 ∷ 0 ∷ 0 ∷ 0 ∷ 1 ∷ 0 ∷ 0 ∷ 0 ∷ 0 ∷ 0 ∷ 0 ∷ 0 ∷ 0 ∷ 0 ∷ 0 ∷ 0 ∷ 0 ∷ 0 ∷ 0 ∷ 0 ∷ 0 ∷ 0 ∷ 0 ∷ 0 ∷ 0 ∷ [])
    ∷ []

record CloseRow : Type 0 where
  tables : List ℕ
  day : ℕ
  claims : List ℕ

abbrev close_row : List ℕ → ℕ → List ℕ → CloseRow
close_row t d c = record { tables = t; day = d; claims = c }

-- a Record Date on a Saturday; none; final and masked rows; two securities
closes : List CloseRow
closes =
    close_row case_tables 20230331 (33 ∷ 0 ∷ 3 ∷ 0 ∷ 3 ∷ 0 ∷ 2 ∷ 1 ∷ 0 ∷ 0 ∷ 0 ∷ 0 ∷ 0 ∷ 0 ∷ 76 ∷ 29 ∷ 0 ∷ 0 ∷ 0 ∷ 0 ∷ 0 ∷ 0 ∷ 0 ∷ 0 ∷ 0 ∷ 0 ∷ 0 ∷ 0 ∷ 0 ∷ 0 ∷ 17 ∷ 177 ∷ 52 ∷ 1 ∷ 3
    ∷ 33 ∷ 0 ∷ 3 ∷ 0 ∷ 3 ∷ 0 ∷ 1 ∷ 2 ∷ 0 ∷ 0 ∷ 0 ∷ 0 ∷ 0 ∷ 0 ∷ 1 ∷ 0 ∷ 0 ∷ 0 ∷ 0 ∷ 0 ∷ 0 ∷ 0 ∷ 0 ∷ 0 ∷ 0 ∷ 0 ∷ 0 ∷ 0 ∷ 0 ∷ 0 ∷ 17 ∷ 177 ∷ 52 ∷ 1 ∷ 3
    ∷ 33 ∷ 0 ∷ 3 ∷ 0 ∷ 3 ∷ 0 ∷ 0 ∷ 15 ∷ 0 ∷ 0 ∷ 0 ∷ 0 ∷ 0 ∷ 0 ∷ 0 ∷ 141 ∷ 56 ∷ 12 ∷ 1 ∷ 0 ∷ 0 ∷ 0 ∷ 0 ∷ 0 ∷ 0 ∷ 0 ∷ 0 ∷ 0 ∷ 0 ∷ 0 ∷ 17 ∷ 177 ∷ 52 ∷ 1 ∷ 3 ∷ [])
    ∷ close_row case_tables 20230403 []
    ∷ close_row many_tables 20230214 (33 ∷ 0 ∷ 3 ∷ 0 ∷ 3 ∷ 2 ∷ 1 ∷ 3 ∷ 1 ∷ 2 ∷ 0 ∷ 0 ∷ 0 ∷ 0 ∷ 44 ∷ 1 ∷ 0 ∷ 0 ∷ 0 ∷ 0 ∷ 0 ∷ 0 ∷ 0 ∷ 0 ∷ 0 ∷ 0 ∷ 0 ∷ 0 ∷ 0 ∷ 0 ∷ 0 ∷ 0 ∷ 0 ∷ 0 ∷ 0
    ∷ 33 ∷ 0 ∷ 3 ∷ 0 ∷ 3 ∷ 2 ∷ 2 ∷ 3 ∷ 1 ∷ 2 ∷ 0 ∷ 0 ∷ 0 ∷ 0 ∷ 21 ∷ 0 ∷ 0 ∷ 0 ∷ 0 ∷ 0 ∷ 0 ∷ 0 ∷ 0 ∷ 0 ∷ 0 ∷ 0 ∷ 0 ∷ 0 ∷ 0 ∷ 0 ∷ 0 ∷ 0 ∷ 0 ∷ 0 ∷ 0 ∷ [])
    ∷ close_row many_tables 20230428 (33 ∷ 0 ∷ 3 ∷ 0 ∷ 3 ∷ 2 ∷ 0 ∷ 2 ∷ 2 ∷ 1 ∷ 0 ∷ 0 ∷ 0 ∷ 0 ∷ 168 ∷ 97 ∷ 0 ∷ 0 ∷ 0 ∷ 0 ∷ 0 ∷ 0 ∷ 0 ∷ 0 ∷ 0 ∷ 0 ∷ 0 ∷ 0 ∷ 0 ∷ 0 ∷ 0 ∷ 0 ∷ 0 ∷ 0 ∷ 0
    ∷ 33 ∷ 0 ∷ 3 ∷ 0 ∷ 3 ∷ 2 ∷ 1 ∷ 2 ∷ 2 ∷ 1 ∷ 0 ∷ 0 ∷ 0 ∷ 0 ∷ 168 ∷ 97 ∷ 0 ∷ 0 ∷ 0 ∷ 0 ∷ 0 ∷ 0 ∷ 0 ∷ 0 ∷ 0 ∷ 0 ∷ 0 ∷ 0 ∷ 0 ∷ 0 ∷ 0 ∷ 0 ∷ 0 ∷ 0 ∷ 0 ∷ [])
    ∷ []

unfoldable pub same_bytes : List ℕ → List ℕ → Bool
same_bytes [] [] = true
same_bytes [] (y ∷ ys) = false
same_bytes (x ∷ xs) [] = false
same_bytes (x ∷ xs) (y ∷ ys) = eqb x y && same_bytes xs ys

-- the maximum numbers of a type, by frequency
maxima_of : ℕ → List ℕ
maxima_of type =
    maximum_for maximum_numbers type 1 ∷ maximum_for maximum_numbers type 2 ∷ maximum_for maximum_numbers type 3 ∷ maximum_for maximum_numbers type 4 ∷ []

maxima : Bool
maxima =
    same_bytes (maxima_of 1) (6 ∷ 3 ∷ 2 ∷ 1 ∷ []) && same_bytes (maxima_of 2) (6 ∷ 3 ∷ 2 ∷ 1 ∷ [])
    && same_bytes (maxima_of 3) (7 ∷ 7 ∷ 7 ∷ 7 ∷ []) && same_bytes (maxima_of 4) (7 ∷ 7 ∷ 7 ∷ 7 ∷ [])

-- ---- Record and Beneficiary Dates that differ

-- security 0: quarterly debt, its first row masked for account 2, its second final; security 3: MBS guaranteed by the United States, its
-- first row paid on the next open day, its second without amounts, final and masked for account 1
apart_tables : List ℕ
apart_tables =
    ((2 ∷ 2
    ∷ 20230402 ∷ 20230410 ∷ 20230415 ∷ 10000000 ∷ 1 ∷ 0 ∷ 4
    ∷ 20230403 ∷ 20230411 ∷ 20230420 ∷ 3000000 ∷ 500000000 ∷ 1 ∷ 0 ∷ []) ++ replicate 98 0)
    ++ (replicate 228 0
    ++ (((4 ∷ 1
    ∷ 20230401 ∷ 20230328 ∷ 20230403 ∷ 7000000 ∷ 250000000 ∷ 0 ∷ 0
    ∷ 20230403 ∷ 20230405 ∷ 20230425 ∷ 0 ∷ 0 ∷ 1 ∷ 2 ∷ []) ++ replicate 98 0)
    ++ replicate 1368 0))

-- loans each way in security 0, two loans in security 3
loans : List ℕ
loans =
    set (set (set (set (replicate 8192 0)
    (256 * 0 + 16 * 1 + 2) 40000)
    (256 * 0 + 16 * 2 + 1) 30000)
    (256 * 3 + 16 * 0 + 15) 999)
    (256 * 3 + 16 * 4 + 1) 1000000000

-- a claim's fields in the record's order
unfoldable pub claimed : List Claim → List ℕ
claimed [] = []
claimed (c ∷ cs) =
    c.claim_type ∷ c.outcome ∷ c.payer ∷ c.payee ∷ c.security ∷ c.row ∷ c.transfer ∷ c.interest.0 ∷ c.principal.0 ∷ c.release ∷ c.slot
    ∷ claimed cs

-- between the Record and the Beneficiary Dates; C after the Record Date; C on the first Beneficiary Date; the day on it; a day before the
-- Record Date; C on the Beneficiary Date
apart_transfers : List TransferRow
apart_transfers =
    row apart_tables 20230404 (sent 1 2 0 0 1000 (tag_line 20230331)) []
    ∷ row apart_tables 20230411 (sent 1 2 0 0 1000 (tag_line 20230405)) (1 ∷ 0 ∷ 1 ∷ 2 ∷ 0 ∷ 0 ∷ 9 ∷ 1000 ∷ 0 ∷ 20230417 ∷ 3
    ∷ 1 ∷ 0 ∷ 1 ∷ 2 ∷ 0 ∷ 1 ∷ 9 ∷ 300 ∷ 50000 ∷ 20230420 ∷ 3 ∷ [])
    ∷ row apart_tables 20230411 (sent 1 2 0 0 1000 (tag_line 20230410)) (1 ∷ 0 ∷ 1 ∷ 2 ∷ 0 ∷ 1 ∷ 9 ∷ 300 ∷ 50000 ∷ 20230420 ∷ 3 ∷ [])
    ∷ row apart_tables 20230410 (sent 1 2 0 0 1000 (tag_line 20230405)) (1 ∷ 0 ∷ 1 ∷ 2 ∷ 0 ∷ 0 ∷ 9 ∷ 1000 ∷ 0 ∷ 20230417 ∷ 3 ∷ [])
    ∷ row apart_tables 20230331 (sent 1 2 3 0 1000 (tag_line 20230327)) (1 ∷ 0 ∷ 1 ∷ 2 ∷ 3 ∷ 0 ∷ 9 ∷ 700 ∷ 25000 ∷ 20230403 ∷ 1 ∷ [])
    ∷ row apart_tables 20230331 (sent 1 2 3 0 1000 (tag_line 20230328)) []
    ∷ []

-- two rows of two securities, masked, settled, final, paid on the next open day and without amounts; Record Dates on the day;
-- a Beneficiary Date after the day
apart_closes : List CloseRow
apart_closes =
    close_row apart_tables 20230331 (3 ∷ 3 ∷ 2 ∷ 1 ∷ 0 ∷ 0 ∷ 0 ∷ 40000 ∷ 0 ∷ 0 ∷ 0
    ∷ 3 ∷ 0 ∷ 1 ∷ 2 ∷ 0 ∷ 0 ∷ 0 ∷ 30000 ∷ 0 ∷ 20230417 ∷ 3
    ∷ 3 ∷ 2 ∷ 2 ∷ 1 ∷ 0 ∷ 1 ∷ 0 ∷ 12000 ∷ 2000000 ∷ 0 ∷ 0
    ∷ 3 ∷ 2 ∷ 1 ∷ 2 ∷ 0 ∷ 1 ∷ 0 ∷ 9000 ∷ 1500000 ∷ 0 ∷ 0
    ∷ 3 ∷ 0 ∷ 15 ∷ 0 ∷ 3 ∷ 0 ∷ 0 ∷ 699 ∷ 24975 ∷ 20230403 ∷ 1
    ∷ 3 ∷ 0 ∷ 1 ∷ 4 ∷ 3 ∷ 0 ∷ 0 ∷ 700000000 ∷ 25000000000 ∷ 20230403 ∷ 1
    ∷ 3 ∷ 1 ∷ 15 ∷ 0 ∷ 3 ∷ 1 ∷ 0 ∷ 0 ∷ 0 ∷ 0 ∷ 0
    ∷ 3 ∷ 1 ∷ 1 ∷ 4 ∷ 3 ∷ 1 ∷ 0 ∷ 0 ∷ 0 ∷ 0 ∷ 0 ∷ [])
    ∷ close_row apart_tables 20230403 []
    ∷ close_row apart_tables 20230410 []
    ∷ []

-- ---- the theorems

rows_hold :
    all (λ r. same_bytes (bytes_of_all (transfer_claims weekdays r.tables r.limits r.day 9 (transfer_of r.message) (contract_tag r.day r.message))) r.claims) transfers
    && all (λ r. same_bytes (bytes_of_all (close_claims weekdays r.tables r.day balances)) r.claims) closes
    && maxima ≡ true
unfolding opened_claims tag_line blank sent_in sent same_bytes many_tables balances transfers closes maxima_of maxima
rows_hold = refl

apart_rows_hold :
    all (λ r. same_bytes (claimed (transfer_claims weekdays r.tables r.limits r.day 9 (transfer_of r.message) (contract_tag r.day r.message))) r.claims) apart_transfers
    && all (λ r. same_bytes (claimed (close_claims weekdays r.tables r.day loans)) r.claims) apart_closes ≡ true
unfolding opened_claims tag_line blank sent_in sent same_bytes apart_tables loans claimed apart_transfers apart_closes
apart_rows_hold = refl
