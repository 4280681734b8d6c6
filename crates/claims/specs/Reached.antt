-- The rows of a security in their places in the tables, those that a day has reached by either date, and the first of these that waits.
-- Contracts of private functions cite these; the laws of proofs/Reached tie them to the sections' definitions.
use Rattle.std.specs.Prelude.{Bool, cond, not, ◌&&◌, List, [], ◌∷◌, ℕ, zero, suc, ◌+◌, ◌-◌, ◌≤◌, ◌<◌, ltb, leb, take, drop}
use Rattle.lists.specs.Select.{first_key}
use Rattle.records.specs.declared.Transfer.{Transfer}
use Rattle.securities.specs.Securities.{security_of, type_of, rows_of}
use Rattle.securities.specs.declared.Row.{Row}
unfoldable pub use Rattle.securities.specs.Securities.{row_at}
use Rattle.claims.specs.Fails.{is_mbs, waits}

-- ---- rows

-- How many elements, from the first on, pass a test.
unfoldable pub leading : {A : Type 0} → (A → Bool) → List A → ℕ
leading p [] = 0
leading p (x ∷ xs) = cond (p x) (suc (leading p xs)) 0

-- The Record Date of a row, its word 0, or the Beneficiary Date, its word 1.
unfoldable pub date_at : ℕ → Row → ℕ
date_at zero row = row.record_date
date_at (suc column) row = row.beneficiary_date

-- A row with that date on or before the day.
unfoldable pub is_reached : ℕ → ℕ → Row → Bool
is_reached column day row = ltb 0 (date_at column row) && leb (date_at column row) day

-- The row behind those of a security, from a first one on, that the day has reached by that date.
unfoldable pub reached_from : ℕ → List ℕ → ℕ → ℕ → ℕ → ℕ
reached_from column tables s day first = first + leading (is_reached column day) (drop first (rows_of (security_of tables s)))

-- How many rows of a security the day has reached by Beneficiary Date; they come first.
unfoldable pub reached_rows : List ℕ → ℕ → ℕ → ℕ
reached_rows tables s day = reached_from 1 tables s day 0

-- The row behind the interim rows: of MBS those behind the reached ones that the day has reached by Record Date.
unfoldable pub interim_end : List ℕ → ℕ → ℕ → ℕ
interim_end tables s day =
    let reached = reached_rows tables s day in
    cond (is_mbs (type_of (security_of tables s))) (reached_from 0 tables s day reached) reached

-- ---- the cut by row numbers

-- A row that waits, with its Beneficiary Date after the Contract Date.
unfoldable pub is_waiting : ℕ → ℕ → Row → Bool
is_waiting contract day row = ltb contract row.beneficiary_date && waits day row

-- The number of the first such row of a security, from a first one up to an end; the end where there is none.
unfoldable pub waiting_from : List ℕ → ℕ → ℕ → ℕ → ℕ → ℕ → ℕ
waiting_from tables s contract day end first =
    first_key (λ row. row.index) end (is_waiting contract day) (take (end - first) (drop first (rows_of (security_of tables s))))

-- The row behind which the cut drops those that wait: of MBS the first such from a first one up to the reached rows. For other types it
-- is the row behind the reached ones, and nothing is dropped.
unfoldable pub waiting_row : List ℕ → ℕ → ℕ → ℕ → ℕ → ℕ
waiting_row tables s contract day first =
    let reached = reached_rows tables s day in
    cond (is_mbs (type_of (security_of tables s))) (waiting_from tables s contract day reached first) reached

-- A row with its Beneficiary Date after the Contract Date; behind the waiting row only if it does not wait itself.
unfoldable pub is_kept_by : ℕ → ℕ → ℕ → Row → Bool
is_kept_by contract waiting day row = not (ltb waiting row.index && waits day row) && ltb contract row.beneficiary_date

-- ---- before the 2023 memo

-- The number behind which a date is after the Contract Date and on or after another date.
unfoldable pub after_both : ℕ → ℕ → ℕ
after_both contract from = cond (ltb contract from) (from - 1) contract

-- The first row that may be claimed: the first of all for MBS, and the row behind the reached ones for other types.
unfoldable pub first_before : List ℕ → ℕ → ℕ → ℕ
first_before tables s day = cond (is_mbs (type_of (security_of tables s))) 0 (reached_rows tables s day)

-- ---- claims on rows

-- What claims on the rows of a transfer's security ask: a security and a sender of the book, and factors in range.
pub record Claiming (tables : List ℕ) (t : Transfer) : Type 0 where
  pub held : t.security < 16
  pub paying : t.sender < 16
  pub interest : (i : ℕ) → i < 16 → (row_at tables t.security i).interest_factor ≤ 2000000000
  pub principal : (i : ℕ) → i < 16 → (row_at tables t.security i).principal_factor ≤ 2000000000
