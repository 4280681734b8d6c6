-- The rows on which a transfer claims, found once for the pass that counts its claims and the pass that stores them: those from the
-- first up to the reached ones are claimed as failed where the rule of the day allows, those from there up to the end as interim.
use Rattle.std.specs.Prelude.{cond, List, [], ◌∷◌, ℕ, ◌+◌, ◌-◌, eqb, ltb, Option, Some, None}
use Rattle.lists.specs.Tabulate.{each}
use Rattle.days.specs.MemoDay.{before_memo, six_months_before}
use Rattle.records.specs.declared.Claim.{Claim}
use Rattle.records.specs.declared.Transfer.{Transfer}
use Rattle.securities.specs.declared.Row.{Row}
use Rattle.tags.specs.declared.Tag.{Tag}
use Rattle.tags.specs.ContractDateTag.{tagged, contract_date}
use Rattle.amounts.specs.Numbers.{type_number}
use Rattle.amounts.specs.declared.ClaimType.{ClaimType}
use Rattle.amounts.specs.declared.ClaimType.TheVariants as claim_type
use Rattle.claims.specs.Amounts.{claim_on}
use Rattle.claims.specs.Fails.{maximum_of, transfer_parties}
use Rattle.claims.specs.Reached.{row_at, reached_rows, interim_end, waiting_row, is_kept_by, after_both, first_before}
use Rattle.fails.specs.declared.Recent.{Recent}
use Rattle.fails.specs.declared.RowDate.{RowDate}
use Rattle.fails.specs.declared.RowDate.TheVariants as row_date

-- The place of a date among those of the definitions of reached rows: the Record Date is 0, the Beneficiary Date 1.
abbrev pub column : RowDate → ℕ
column row_date.Record = 0
column row_date.Beneficiary = 1

-- ---- the rows

-- No rows: the tracking code is not 0.
abbrev pub no_rows : Recent
no_rows = record { after = 0; first = 0; reached = 0; end = 0; waiting = 0 }

-- Without a date in its tag a transfer claims no row as failed.
unfoldable pub untagged_rows : List ℕ → ℕ → Transfer → Recent
untagged_rows tables day t =
    let s = t.security in
    let reached = reached_rows tables s day in
    record { after = 0; first = reached; reached = reached; end = interim_end tables s day; waiting = reached }

-- With a Contract Date, before the 2023 memo: of MBS all rows that the day has reached by Beneficiary Date, behind the Contract Date and
-- within the half year, and none is dropped.
unfoldable pub rows_before : List ℕ → ℕ → Transfer → ℕ → Recent
rows_before tables day t contract =
    let s = t.security in
    let reached = reached_rows tables s day in
    record {
      after = after_both contract (six_months_before day);
      first = first_before tables s day;
      reached = reached;
      end = interim_end tables s day;
      waiting = reached;
    }

-- From the memo on: of these rows the most recent, up to the maximum number of the limits lent, behind the Contract Date.
unfoldable pub rows_now : List ℕ → List ℕ → ℕ → Transfer → ℕ → Recent
rows_now tables limits day t contract =
    let s = t.security in
    let reached = reached_rows tables s day in
    let first = reached - maximum_of tables limits s in
    record {
      after = contract;
      first = first;
      reached = reached;
      end = interim_end tables s day;
      waiting = waiting_row tables s contract day first;
    }

-- The rows of a transfer, by its tag; the day chooses the rule.
unfoldable pub recent_rows : List ℕ → List ℕ → ℕ → Transfer → Tag → Recent
recent_rows tables limits day t tag =
    cond (eqb t.code 0)
    (cond (tagged tag)
    (cond (before_memo day) (rows_before tables day t (contract_date tag)) (rows_now tables limits day t (contract_date tag)))
    (untagged_rows tables day t))
    no_rows

-- ---- their claims

-- The claim type of a row, none where it is not claimed: behind the reached rows it is interim; one of them is claimed as failed if its
-- Beneficiary Date is after the rows' date and the cut leaves it.
unfoldable pub due_type : ℕ → Recent → Row → Option ClaimType
due_type day rows row =
    cond (ltb row.index rows.reached) (cond (is_kept_by rows.after rows.waiting day row) (Some claim_type.Fail) None) (Some claim_type.Interim)

-- The claim of a type on a row, or none.
unfoldable pub typed_claim : List ℕ → List ℕ → ℕ → ℕ → Transfer → Row → Option ClaimType → List Claim
typed_claim calendar tables day number t row None = []
typed_claim calendar tables day number t row (Some x) = claim_on calendar tables day number (transfer_parties t) t.par (type_number x) row ∷ []

-- The claim on a row, or none.
unfoldable pub due_claim : List ℕ → List ℕ → ℕ → ℕ → Transfer → Recent → Row → List Claim
due_claim calendar tables day number t rows row = typed_claim calendar tables day number t row (due_type day rows row)

-- The claims on the rows, one after the other.
unfoldable pub recent_claims : List ℕ → List ℕ → ℕ → ℕ → Transfer → Recent → List Claim
recent_claims calendar tables day number t rows =
    each (rows.end - rows.first) (λ j. due_claim calendar tables day number t rows (row_at tables t.security (rows.first + j)))
