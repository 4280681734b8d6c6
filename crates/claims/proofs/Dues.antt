-- What a transfer claims, in other words: an interim row is one of type 3 or 4 with Record Date ≤ S < Beneficiary Date, and the rows
-- claimed are those of the table that are eligible or interim, in its order. A row is never both, since an eligible one has
-- Beneficiary Date ≤ S; so no Beneficiary Date is claimed twice, and a transfer has at most 16 claims.
use mathlib.Core.Path.{◌≡◌, refl, ap, ap₂, ◌∙◌}
use mathlib.Core.Logic.{◌↔◌}
use mathlib.Core.Bool.{Bool, true, false, cond, ◌&&◌, ◌||◌}
use mathlib.Core.List.{List, [], ◌∷◌, ◌++◌, map, map-append}
use Prim.Native.Nat.{ℕ, ◌≤◌, ◌<◌}
use native.Mathlib.Omega.{arith}
use lib.Dec.{eqb, leb}
use lib.ListN.{length, length-map}
use borrow.Author.Tests.{ltb-true, leb-true, lt-ltb, le-leb}
use Rattle.lists.specs.Tests.{and_left, and_right}
use Rattle.lists.specs.Select.{select, rising, select_halves, rising_select}
use Rattle.days.specs.MemoDay.{before_memo}
use Rattle.records.specs.declared.Transfer.{Transfer}
use Rattle.securities.specs.Securities.{security_of, type_of, rows_of, is_filled, filled_rows, good_row}
use Rattle.securities.specs.declared.Row.{Row}
use Rattle.securities.proofs.Sound.{good_row_lem}
use Rattle.tags.specs.declared.Tag.{Tag}
use Rattle.tags.specs.ContractDateTag.{contract_date}
use Rattle.claims.specs.Amounts.{fail_type, interim_type}
use Rattle.claims.specs.Fails.{is_mbs, maximum_of, eligible_in, cut, eligible_now, eligible_before, eligible, is_interim, interim_in, interim, Due, due, fails, dues, transfer_claims}
use Rattle.claims.proofs.Runs.{select_within}
use Rattle.claims.proofs.TableRows.{length_rows_of}
use Rattle.claims.proofs.Eligible.{select_under, beneficiary, is_kept, is_eligible_before, eligible_words, cut_words, cut_is, before_words, before_is}

-- ---- interim rows

-- an interim row of a security of a type
unfoldable pub is_interim_of : ℕ → ℕ → Row → Bool
is_interim_of type day row = is_mbs type && is_interim day row

pub interim_words : (type day : ℕ) (row : Row)
    → (is_interim_of type day row ≡ true) ↔ ((3 ≤ type) × (row.record_date ≤ day) × (day < row.beneficiary_date))
unfolding is_interim_of is_mbs is_interim
interim_words type day row = (
  λ e. let r = and_right (leb 3 type) _ e in (
    leb-true 3 type (and_left _ _ e),
    leb-true row.record_date day (and_left _ _ r),
    ltb-true day row.beneficiary_date (and_right (leb row.record_date day) _ r),
  ),
  λ h. rw (le-leb 3 type h.0, le-leb row.record_date day h.1, lt-ltb day row.beneficiary_date h.2),
)

-- the interim rows are those of the table that are interim, in its order
pub interim_is : (type day : ℕ) (rows : List Row) → interim_in type day rows ≡ select (is_interim_of type day) rows
unfolding interim_in is_interim_of
interim_is type day rows = select_under (is_mbs type) (is_interim day) rows

-- their Payment Dates are to come
pub interim_timely : (last type day : ℕ) (row : Row) → good_row last row ≡ true → is_interim_of type day row ≡ true → day < row.payment_date
interim_timely last type day row g e = omega (arith, (good_row_lem last row g).due, ((interim_words type day row).0 e).2)

-- ---- the rows that a transfer claims

module _ (tables limits : List ℕ) (day : ℕ) (t : Transfer) (tag : Tag) where
  abbrev rows : List Row
  rows = filled_rows tables t.security

  abbrev type : ℕ
  type = type_of (security_of tables t.security)

  abbrev maximum : ℕ
  maximum = maximum_of tables limits t.security

  -- an eligible row by the rule that the day chooses
  unfoldable pub is_eligible_on : Row → Bool
  is_eligible_on row =
      let type = type_of (security_of tables t.security) in
      cond (before_memo day)
      (is_eligible_before type (contract_date tag) day row)
      (is_kept type (maximum_of tables limits t.security) (contract_date tag) day (filled_rows tables t.security) row)

  -- the eligible rows are those of the table that are so, in its order
  pub eligible_rows : rising beneficiary (filled_rows tables t.security) ≡ true
      → eligible tables limits day t tag ≡ select is_eligible_on (filled_rows tables t.security)
  unfolding eligible eligible_now is_eligible_on
  eligible_rows e = go (before_memo day)
    where
      go : (b : Bool)
          → cond b (eligible_before type (contract_date tag) day rows) (cut type day (eligible_in maximum (contract_date tag) day rows))
          ≡ select (λ row. cond b (is_eligible_before type (contract_date tag) day row) (is_kept type maximum (contract_date tag) day rows row)) rows
      go true = before_is type (contract_date tag) day rows
      go false = cut_is type maximum (contract_date tag) day rows e

  -- the day has reached them
  pub eligible_reached : (row : Row) → is_eligible_on row ≡ true → row.beneficiary_date ≤ day
  unfolding is_eligible_on
  eligible_reached row = go (before_memo day)
    where
      go : (b : Bool) → cond b (is_eligible_before type (contract_date tag) day row) (is_kept type maximum (contract_date tag) day rows row) ≡ true
          → row.beneficiary_date ≤ day
      go true h = ((before_words type (contract_date tag) day row).0 h).3
      go false h = ((eligible_words maximum (contract_date tag) day rows row).0 ((cut_words type maximum (contract_date tag) day rows row).0 h).0).1

  -- a row that a failed transfer claims
  unfoldable pub is_fail_due : Row → Bool
  is_fail_due row = fails t tag && is_eligible_on row

  -- a row that is claimed with tracking code 0, tag or no tag
  unfoldable pub is_interim_due : Row → Bool
  is_interim_due row = eqb t.code 0 && is_interim_of (type_of (security_of tables t.security)) day row

  rows_of_dues : (claim_type : ℕ) (rs : List Row) → map (λ d. d.row) (map (due claim_type) rs) ≡ rs
  rows_of_dues claim_type [] = refl
  rows_of_dues claim_type (row ∷ rs) = ap (◌∷◌ row) (rows_of_dues claim_type rs)

  of_part : (b : Bool) (claim_type : ℕ) (p : Row → Bool) (rs : List Row) → rs ≡ select p rows
      → map (λ d. d.row) (cond b (map (due claim_type) rs) []) ≡ select (λ row. b && p row) rows
  of_part true claim_type p rs e = rows_of_dues claim_type rs ∙ e
  of_part false claim_type p rs e = select_under false p rows

  -- the rows claimed are those of the table that are claimed for either reason, each once, in its order
  pub dues_rows : rising beneficiary (filled_rows tables t.security) ≡ true
      → map (λ d. d.row) (dues tables limits day t tag) ≡ select (λ row. is_fail_due row || is_interim_due row) (filled_rows tables t.security)
  unfolding dues interim is_fail_due is_interim_due
  dues_rows e =
      map-append (λ (d : Due). d.row) (cond (fails t tag) (map (due fail_type) (eligible tables limits day t tag)) []) _
      ∙ ap₂ (λ (xs ys : List Row). xs ++ ys)
      (of_part (fails t tag) fail_type _ _ (eligible_rows e))
      (of_part (eqb t.code 0) interim_type _ _ (interim_is _ day rows))
      ∙ select_halves beneficiary day is_fail_due is_interim_due rows e
      (λ row h. eligible_reached row (and_right (fails t tag) _ h))
      (λ row h. ((interim_words _ day row).0 (and_right (eqb t.code 0) _ h)).2)

  -- so what rises with the table's rows rises with the claimed ones: the Beneficiary Date, so none is claimed twice; the row number
  pub rising_dues : (key : Row → ℕ) → rising beneficiary (filled_rows tables t.security) ≡ true → rising key (filled_rows tables t.security) ≡ true
      → rising key (map (λ d. d.row) (dues tables limits day t tag)) ≡ true
  rising_dues key e k = rw (dues_rows e) (rising_select key _ (filled_rows tables t.security) k)

  -- ---- how many claims

  few_filled : length rows ≤ 16
  unfolding filled_rows
  few_filled = omega (arith, select_within is_filled (rows_of (security_of tables t.security)), length_rows_of tables t.security)

  -- no more than the security has rows
  pub few_transfer : (calendar : List ℕ) (number : ℕ) → rising beneficiary (filled_rows tables t.security) ≡ true
      → length (transfer_claims calendar tables limits day number t tag) ≤ 16
  unfolding transfer_claims
  few_transfer calendar number e =
      let claimed = select_within (λ (row : Row). is_fail_due row || is_interim_due row) rows in
      simp length-map (omega (arith, few_filled, claimed, ap length (dues_rows e), length-map (dues tables limits day t tag) (λ d. d.row)))

-- ---- before the 2023 memo

-- limits are not used: with others the claims are the same
pub limits_unused : (calendar tables limits others : List ℕ) (day number : ℕ) (t : Transfer) (tag : Tag) → before_memo day ≡ true
    → transfer_claims calendar tables limits day number t tag ≡ transfer_claims calendar tables others day number t tag
unfolding transfer_claims dues eligible
limits_unused calendar tables limits others day number t tag d = rw d refl
