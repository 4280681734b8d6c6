-- The rows that a transfer claims, by their numbers. In sound tables both dates rise, so the rows that the day has reached by either
-- date come first: the eligible rows are among the last that it has reached by Beneficiary Date, the cut of these goes by the number of one
-- row, and the interim rows are those behind these that it has reached by Record Date. Before the 2023 memo the eligible rows are those
-- of MBS that it has reached and that are behind one number.
use mathlib.Core.Path.{◌≡◌, refl, sym, ap, ap₂, ◌∙◌}
use mathlib.Core.Bool.{Bool, true, false, cond, not, ◌&&◌, and-false}
use mathlib.Core.List.{List, [], ◌++◌, map, map-append, map-map}
use Prim.Native.Nat.{ℕ, ◌+◌, ◌-◌, ◌≤◌, ◌<◌}
use native.Mathlib.Nat.{zero-add, le_refl}
use native.Mathlib.Omega.{arith}
use lib.Dec.{ltb, leb}
use lib.ListN.{length, take, drop, length-drop}
use lib.Seq.{length-take-le, get_or-take}
use borrow.Author.Tests.{ltb-true, ltb-false, leb-true, leb-false, lt-ltb, le-ltb, le-leb, eq-eqb, ne_eqb}
use Rattle.lists.specs.All.{all, all_at, all_of}
use Rattle.lists.specs.Parts.{drop_take}
use Rattle.lists.specs.Select.{select, last_of, keep_first, first_key, rising, select_agree, select_same, select_both, rising_select, rising_last, first_key_select, keep_first_key}
use Rattle.days.specs.Days.{last_open}
use Rattle.days.specs.MemoDay.{six_months_before}
use Rattle.records.specs.declared.Claim.{Claim}
use Rattle.records.specs.declared.Transfer.{Transfer}
use Rattle.securities.specs.Securities.{security_of, type_of, rows_of, filled_rows, good_tables}
use Rattle.securities.specs.declared.Row.{Row}
use Rattle.tags.specs.declared.Tag.{Tag}
use Rattle.tags.specs.ContractDateTag.{tagged}
use Rattle.claims.specs.Amounts.{fail_type, interim_type, claim_on}
use Rattle.claims.specs.Fails.{is_mbs, maximum_of, eligible_in, waits, cut, eligible_now, within_half_year, eligible_before, eligible, is_interim, interim_in, interim, Due, due, fails, dues, transfer_parties, transfer_claims}
use Rattle.claims.specs.Reached.{row_at, leading, date_at, is_reached, reached_from, reached_rows, interim_end, is_waiting, waiting_from, waiting_row, is_kept_by, after_both, first_before, Claiming}
use Rattle.claims.proofs.TableRows.{rows_of_at, row_number, length_rows_of, row_behind, rising_numbers, good_rows_lem}
use Rattle.claims.proofs.Leading.{leading_within, in_range, factors, dated, dated_leading, between, interim_rows, all_in_range}

-- ---- the claims of a transfer

module _ (calendar tables : List ℕ) (day number : ℕ) (t : Transfer) where
  abbrev pub claimed : ℕ → Row → Claim
  claimed claim_type row = claim_on calendar tables day number (transfer_parties t) t.par claim_type row

  pub none_by_code : (limits : List ℕ) (tag : Tag) → (t.code ≡ 0 → ⊥) → transfer_claims calendar tables limits day number t tag ≡ []
  unfolding transfer_claims dues fails
  none_by_code limits tag h = rw (ne_eqb t.code 0 h)

  -- with tracking code 0: on the eligible rows where there is a tag, then on the interim rows
  pub claims_by_rows : (limits : List ℕ) (tag : Tag) → t.code ≡ 0
      → transfer_claims calendar tables limits day number t tag
      ≡ cond (tagged tag) (map (claimed fail_type) (eligible tables limits day t tag)) [] ++ map (claimed interim_type) (interim tables day t)
  unfolding transfer_claims dues fails
  claims_by_rows limits tag z =
      rw (eq-eqb t.code 0 z)
      (map-append claim (cond (tagged tag) (map (due fail_type) (eligible tables limits day t tag)) []) _
      ∙ ap₂ (λ (xs ys : List Claim). xs ++ ys) (go (tagged tag)) (map-map claim (due interim_type) (interim tables day t)))
    where
      claim : Due → Claim
      claim d = claimed d.claim_type d.row

      go : (b : Bool) → map claim (cond b (map (due fail_type) (eligible tables limits day t tag)) []) ≡ cond b (map (claimed fail_type) (eligible tables limits day t tag)) []
      go true = map-map claim (due fail_type) (eligible tables limits day t tag)
      go false = refl

-- ---- the cut by row numbers

-- a number behind all rows drops none
kept_behind : (contract day n : ℕ) (rows : List Row) → all (λ row. ltb row.index n) rows ≡ true
    → select (λ row. ltb contract row.beneficiary_date) rows ≡ select (is_kept_by contract n day) rows
unfolding is_kept_by
kept_behind contract day n rows b = select_agree _ _ _ rows b (λ row (h : ltb row.index n ≡ true). rw (le-ltb n row.index (omega (arith, ltb-true row.index n h))))

-- where all rows have numbers below n, which stands for none of them
cut_by_number : (type contract day n : ℕ) (rows : List Row) → rising (λ row. row.index) rows ≡ true → all (λ row. ltb row.index n) rows ≡ true
    → cut type day (select (λ row. ltb contract row.beneficiary_date) rows)
    ≡ select (is_kept_by contract (cond (is_mbs type) (first_key (λ row. row.index) n (is_waiting contract day) rows) n) day) rows
unfolding cut is_kept_by is_waiting
cut_by_number type contract day n rows e b = go (is_mbs type)
  where
    after : Row → Bool
    after row = ltb contract row.beneficiary_date

    go : (b : Bool) → cond b (keep_first (waits day) (select after rows)) (select after rows)
        ≡ select (is_kept_by contract (cond b (first_key (λ row. row.index) n (is_waiting contract day) rows) n) day) rows
    go true =
        keep_first_key (λ row. row.index) n (waits day) (select after rows) (rising_select (λ row. row.index) after rows e)
        ∙ select_both _ after rows
        ∙ ap (λ (w : ℕ). select (λ row. not (ltb w row.index && waits day row) && after row) rows)
        (first_key_select (λ row. row.index) n (waits day) after rows)
    go false = kept_behind contract day n rows b

-- ---- before the 2023 memo

-- a date behind the one number is after the Contract Date and on or after the other date
pub after_both_lem : (contract from date : ℕ) → ltb (after_both contract from) date ≡ (ltb contract date && leb from date)
unfolding after_both
after_both_lem contract from date = go (ltb contract from) refl
  where
    reached : (b : Bool) → leb from date ≡ b → contract < from → ltb (from - 1) date ≡ (ltb contract date && b)
    reached true q l =
        let h = leb-true from date q in
        rw (lt-ltb (from - 1) date (omega arith), lt-ltb contract date (omega arith))
    reached false q l =
        let h = leb-false from date q in
        rw (le-ltb (from - 1) date (omega arith), and-false (ltb contract date))

    later : (b : Bool) → ltb contract date ≡ b → from ≤ contract → b ≡ (b && leb from date)
    later true q l = let h = ltb-true contract date q in rw (le-leb from date (omega arith))
    later false q l = refl

    go : (b : Bool) → ltb contract from ≡ b → ltb (cond b (from - 1) contract) date ≡ (ltb contract date && leb from date)
    go true e = reached (leb from date) refl (ltb-true contract from e)
    go false e = later (ltb contract date) refl (ltb-false contract from e)

-- ---- the rows of a transfer's security

reached_leading : (tables : List ℕ) (s day : ℕ) → reached_rows tables s day ≡ leading (is_reached 1 day) (rows_of (security_of tables s))
unfolding reached_rows reached_from
reached_leading tables s day = zero-add (leading (is_reached 1 day) (rows_of (security_of tables s)))

pub few_reached : (tables : List ℕ) (s day : ℕ) → reached_rows tables s day ≤ 16
few_reached tables s day =
    omega (arith, reached_leading tables s day, leading_within (is_reached 1 day) (rows_of (security_of tables s)), length_rows_of tables s)

pub first_within : (tables : List ℕ) (s day : ℕ) → first_before tables s day ≤ reached_rows tables s day
unfolding first_before
first_within tables s day = go (is_mbs (type_of (security_of tables s)))
  where
    go : (b : Bool) → cond b 0 (reached_rows tables s day) ≤ reached_rows tables s day
    go true = omega arith
    go false = le_refl _

module _ (calendar tables : List ℕ) (day : ℕ) (t : Transfer) where
  abbrev rows : List Row
  rows = rows_of (security_of tables t.security)

  abbrev reached_now : ℕ
  reached_now = reached_rows tables t.security day

  abbrev end_now : ℕ
  end_now = interim_end tables t.security day

  -- the rows up to the end of the interim ones are of the table
  pub reached_end : (reached_now ≤ end_now) × (end_now ≤ 16)
  unfolding interim_end reached_from
  reached_end = go (is_mbs (type_of (security_of tables t.security)))
    where
      go : (b : Bool) → (reached_now ≤ cond b (reached_from 0 tables t.security day reached_now) reached_now)
          × (cond b (reached_from 0 tables t.security day reached_now) reached_now ≤ 16)
      go true =
          let within = leading_within (is_reached 0 day) (drop reached_now rows) in
          (omega arith, omega (arith, few_reached tables t.security day, within, length-drop reached_now rows, length_rows_of tables t.security))
      go false = (omega arith, few_reached tables t.security day)

  module _ (sound : good_tables calendar tables ≡ true) (held : t.security < 16) where
    -- claims on the rows ask no more than is there
    pub claiming : t.sender < 16 → Claiming tables t
    claiming p =
        record { held = held; paying = p; interest = λ i h. (at i h).0; principal = λ i h. (at i h).1 }
      where
        at : (i : ℕ) → i < 16 → ((row_at tables t.security i).interest_factor ≤ 2000000000) × ((row_at tables t.security i).principal_factor ≤ 2000000000)
        at i h =
            let row = row_at tables t.security i in
            let here = rows_of_at tables t.security i row h in
            let e = all_at in_range rows row (all_in_range (last_open calendar) day 0 0 rows (good_rows_lem calendar tables t.security sound held)) i
            (omega (arith, length_rows_of tables t.security)) in
            factors row (rw here at e)

    -- the rows with Beneficiary Date on or before the day
    all_reached : select (λ row. leb row.beneficiary_date day) (filled_rows tables t.security) ≡ take reached_now rows
    unfolding filled_rows dated date_at
    all_reached =
        dated_leading (last_open calendar) day 1 0 0 rows (good_rows_lem calendar tables t.security sound held)
        ∙ ap (λ (n : ℕ). take n rows) (sym (reached_leading tables t.security day))

    -- the last of them, up to a maximum number
    last_reached : (maximum : ℕ)
        → last_of maximum (select (λ row. leb row.beneficiary_date day) (filled_rows tables t.security))
        ≡ take (reached_now - (reached_now - maximum)) (drop (reached_now - maximum) rows)
    unfolding last_of
    last_reached maximum =
        let long : length (take reached_now rows) ≡ reached_now = length-take-le reached_now rows (omega (arith, few_reached tables t.security day, length_rows_of tables t.security)) in
        rw (all_reached, long) (drop_take (reached_now - maximum) reached_now rows)

    -- the numbers of the rows from a first one up to the reached ones
    below_reached : (first : ℕ) → first ≤ reached_now → all (λ row. ltb row.index reached_now) (take (reached_now - first) (drop first rows)) ≡ true
    below_reached first h =
        let row = row_at tables t.security 0 in
        let few = few_reached tables t.security day in
        let long = length-take-le (reached_now - first) (drop first rows) (omega (arith, few, length-drop first rows, length_rows_of tables t.security)) in
        all_of (λ row. ltb row.index reached_now) (take (reached_now - first) (drop first rows)) row (λ k (l : k < length (take (reached_now - first) (drop first rows))).
        let here : k < reached_now - first = omega arith in
        rw (get_or-take (reached_now - first) (drop first rows) k row here, row_behind tables t.security first k row (omega arith), row_number tables t.security (first + k))
        (lt-ltb (first + k) reached_now (omega arith)))

    -- the eligible rows are those of the last ones that the number of the first that waits leaves
    pub now_window : (limits : List ℕ) (contract : ℕ)
        → let first = reached_now - maximum_of tables limits t.security in
        let waiting = waiting_row tables t.security contract day first in
        eligible_now tables limits t.security contract day ≡ select (is_kept_by contract waiting day) (take (reached_now - first) (drop first rows))
    unfolding eligible_now eligible_in waiting_row waiting_from
    now_window limits contract =
        let type = type_of (security_of tables t.security) in
        let maximum = maximum_of tables limits t.security in
        let first = reached_now - maximum in
        let numbers : rising (λ row. row.index) (last_of maximum (select (λ row. leb row.beneficiary_date day) (filled_rows tables t.security))) ≡ true
        = rising_last _ maximum _ (rising_select _ _ _ (rising_numbers tables t.security)) in
        ap (λ (l : List Row). cut type day (select (λ row. ltb contract row.beneficiary_date) l)) (last_reached maximum)
        ∙ cut_by_number type contract day reached_now (take (reached_now - first) (drop first rows))
        (rw (last_reached maximum) at numbers) (below_reached first (omega arith))

    -- before the 2023 memo they are those of MBS that are after both dates
    pub before_window : (contract : ℕ)
        → let first = first_before tables t.security day in
        eligible_before (type_of (security_of tables t.security)) contract day (filled_rows tables t.security)
        ≡ select (is_kept_by (after_both contract (six_months_before day)) reached_now day) (take (reached_now - first) (drop first rows))
    unfolding eligible_before within_half_year first_before select
    before_window contract = go (is_mbs (type_of (security_of tables t.security)))
      where
        after : ℕ
        after = after_both contract (six_months_before day)

        go : (b : Bool) → let first = cond b 0 reached_now in
            cond b (select (within_half_year contract day) (select (λ row. leb row.beneficiary_date day) (filled_rows tables t.security))) []
            ≡ select (is_kept_by after reached_now day) (take (reached_now - first) (drop first rows))
        go true =
            let whole : reached_now ≡ reached_now - 0 = omega arith in
            select_same (within_half_year contract day) (λ row. ltb after row.beneficiary_date)
            (select (λ row. leb row.beneficiary_date day) (filled_rows tables t.security)) (λ row. sym (after_both_lem contract (six_months_before day) row.beneficiary_date))
            ∙ ap (select (λ row. ltb after row.beneficiary_date)) (all_reached ∙ ap (λ (n : ℕ). take n rows) whole)
            ∙ kept_behind after day reached_now (take (reached_now - 0) rows) (below_reached 0 (omega arith))
        go false =
            let z : 0 ≡ reached_now - reached_now = omega arith in
            ap (λ (n : ℕ). select (is_kept_by after reached_now day) (take n (drop reached_now rows))) z

    between_window : select (is_interim day) (filled_rows tables t.security)
        ≡ take (reached_from 0 tables t.security day reached_now - reached_now) (drop reached_now rows)
    unfolding filled_rows between reached_from
    between_window =
        let k : leading (is_reached 0 day) (drop reached_now rows) ≡ reached_now + leading (is_reached 0 day) (drop reached_now rows) - reached_now = omega arith in
        interim_rows (last_open calendar) day 0 0 rows (good_rows_lem calendar tables t.security sound held)
        ∙ ap (λ (n : ℕ). take (leading (is_reached 0 day) (drop n rows)) (drop n rows)) (sym (reached_leading tables t.security day))
        ∙ ap (λ (n : ℕ). take n (drop reached_now rows)) k

    pub interim_window : interim tables day t ≡ take (end_now - reached_now) (drop reached_now rows)
    unfolding interim interim_in interim_end
    interim_window = go (is_mbs (type_of (security_of tables t.security)))
      where
        go : (b : Bool) → cond b (select (is_interim day) (filled_rows tables t.security)) []
            ≡ take (cond b (reached_from 0 tables t.security day reached_now) reached_now - reached_now) (drop reached_now rows)
        go true = between_window
        go false =
            let z : 0 ≡ reached_now - reached_now = omega arith in
            ap (λ (n : ℕ). take n (drop reached_now rows)) z
