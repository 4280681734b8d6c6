-- A claim on a sound row fits its record: amounts by the largest par and factor, release dates by the last date, the rest by their lists.
use mathlib.Core.Path.{◌≡◌, refl}
use mathlib.Core.Bool.{Bool, true, false, cond, ◌&&◌}
use mathlib.Core.List.{List, [], ◌∷◌, map, map-append}
use Prim.Native.Nat.{ℕ, zero, suc, ◌≤◌, ◌<◌}
use native.Mathlib.Nat.{mul-le-mul}
use native.Mathlib.Omega.{arith}
use lib.Dec.{eqb, leb, ltb}
use lib.ListN.{get_or}
use borrow.Author.Tests.{ltb-true}
use Rattle.lists.specs.Tests.{and_left, and_right}
use Rattle.lists.specs.All.{all, all_both}
use Rattle.lists.specs.Select.{select, keep_first, all_select, all_last, all_keep_first}
use Rattle.lists.specs.Tabulate.{each, each_of}
use Rattle.days.specs.Days.{bit_on, last_open}
use Rattle.days.specs.MemoDay.{before_memo}
use Rattle.days.proofs.OpenDays.{Kept, after_small, from_small}
use Rattle.records.specs.declared.Claim.{Claim}
use Rattle.records.specs.MessageRecords.{claim_kind, claim_values}
use Rattle.records.specs.declared.Transfer.{Transfer}
use Rattle.tags.specs.declared.Tag.{Tag}
use Rattle.tags.specs.ContractDateTag.{contract_date}
use Rattle.securities.specs.Securities.{security_of, type_of, filled_rows, good_row}
use Rattle.securities.specs.declared.Row.{Row}
use Rattle.securities.proofs.Sound.{good_row_lem, Sound}
use Rattle.claims.specs.Amounts.{Part, of_interest, of_principal, cents_on, cents_for, factor_for, amount, is_tracked, outcome_of, is_late, release_of, is_early, slot_of, claim_on, fail_type, interim_type}
use Rattle.claims.specs.declared.Parties.{Parties}
use Rattle.claims.specs.Fails.{is_mbs, eligible_in, waits, cut, eligible_now, eligible_before, eligible, is_interim, interim_in, interim, Due, due, fails, dues, transfer_parties, transfer_claims}
use Rattle.claims.specs.Close.{crossed, tracking_type, loan_parties, loan_claim, tracking_claims, row_claims, close_claims, security_balances, lender_balances}
use Rattle.claims.specs.Written.{Fits, AllFit}
use Rattle.claims.proofs.Written.{all_fit_append}

-- ---- rows that keep their rules

-- a row with a number of the table, whose factors are in range
unfoldable pub row_fits : ℕ → Row → Bool
row_fits last row = good_row last row && ltb row.index 16

pub sound_fit : (last : ℕ) (rows : List Row) → Sound last rows → all (row_fits last) rows ≡ true
unfolding row_fits
sound_fit last rows s = all_both (good_row last) (λ row. ltb row.index 16) rows s.good s.indexes

-- ---- the parts of a claim

fit_cond : (n : ℕ) (b : Bool) (x y : ℕ) → x < n → y < n → cond b x y < n
fit_cond n true x y h k = h
fit_cond n false x y h k = k

small_cents : (part : Part) (par factor : ℕ) → par ≤ 9000000000 → factor ≤ 2000000000 → cents_for part par factor < 18446744073709551616
unfolding cents_for cents_on
small_cents of_interest par factor a b = omega (arith, mul-le-mul a b)
small_cents of_principal par factor a b = omega (arith, mul-le-mul a b)

fit_outcome : (claim_type payer : ℕ) (row : Row) (i j : ℕ) → outcome_of claim_type payer row i j < 256
unfolding outcome_of
fit_outcome claim_type payer row i j =
    fit_cond 256 (eqb i 0 && eqb j 0) 1 _ (omega arith)
    (fit_cond 256 (is_tracked claim_type && eqb row.redeems 1) 2 _ (omega arith) (fit_cond 256 (bit_on row.mask payer) 3 0 (omega arith) (omega arith)))

fit_slot : (type claim_type day : ℕ) (row : Row) (o : ℕ) → slot_of type claim_type day row o < 256
unfolding slot_of
fit_slot type claim_type day row o =
    fit_cond 256 (eqb o 0) _ 0
    (fit_cond 256 (is_late claim_type day row) 2 _ (omega arith) (fit_cond 256 (is_early type) 1 3 (omega arith) (omega arith))) (omega arith)

-- accounts and a security of the book
pub record SmallParties (x : Parties) : Type 0 where
  pub security : x.security < 16
  pub payee : x.payee < 16
  pub payer : x.payer < 16

module _ (calendar tables : List ℕ) (kept : Kept calendar) where
  fit_release : (claim_type day : ℕ) (row : Row) (o : ℕ) → release_of calendar claim_type day row o < 4294967296
  unfolding release_of
  fit_release claim_type day row o =
      fit_cond 4294967296 (eqb o 0) _ 0
      (fit_cond 4294967296 (is_late claim_type day row) _ _ (omega (arith, after_small kept day)) (omega (arith, from_small kept row.payment_date)))
      (omega arith)

  -- ---- a claim

  fit_claim : (day n : ℕ) (x : Parties) (par claim_type : ℕ) (row : Row) → claim_type < 256 → n < 4294967296 → SmallParties x → par ≤ 9000000000
      → row_fits (last_open calendar) row ≡ true → Fits (claim_on calendar tables day n x par claim_type row)
  unfolding claim_kind claim_values claim_on amount factor_for row_fits
  fit_claim day n x par claim_type row a b r c d =
      let g = good_row_lem (last_open calendar) row (and_left (good_row (last_open calendar) row) _ d) in
      let i = ltb-true row.index 16 (and_right (good_row (last_open calendar) row) _ d) in
      let o = outcome_of claim_type x.payer row (amount of_interest par row) (amount of_principal par row) in (
        a,
        (
          fit_outcome claim_type x.payer row _ _,
          (
            omega (arith, r.payer),
            (
              omega (arith, r.payee),
              (
                omega (arith, r.security),
                (
                  omega arith,
                  (
                    b,
                    (
                      small_cents of_interest par row.interest_factor c g.interest,
                      (
                        small_cents of_principal par row.principal_factor c g.principal,
                        (fit_release claim_type day row o, (fit_slot (type_of (security_of tables x.security)) claim_type day row o, tt)),
                      ),
                    ),
                  ),
                ),
              ),
            ),
          ),
        ),
      )

  -- ---- the claims of a transfer

  fit_dues : (day n : ℕ) (x : Parties) (par claim_type : ℕ) (rows : List Row) → claim_type < 256 → n < 4294967296 → SmallParties x → par ≤ 9000000000
      → all (row_fits (last_open calendar)) rows ≡ true
      → AllFit (map (λ (d : Due). claim_on calendar tables day n x par d.claim_type d.row) (map (due claim_type) rows))
  fit_dues day n x par claim_type [] a b r c d = tt
  fit_dues day n x par claim_type (row ∷ rows) a b r c d = (
    fit_claim day n x par claim_type row a b r c (and_left _ _ d),
    fit_dues day n x par claim_type rows a b r c (and_right (row_fits (last_open calendar) row) _ d),
  )

  -- rows selected from sound ones fit
  fit_eligible : (limits : List ℕ) (day : ℕ) (t : Transfer) (tag : Tag) → Sound (last_open calendar) (filled_rows tables t.security)
      → all (row_fits (last_open calendar)) (eligible tables limits day t tag) ≡ true
  unfolding eligible eligible_now eligible_in cut eligible_before
  fit_eligible limits day t tag s = on (before_memo day)
    where
      type : ℕ
      type = type_of (security_of tables t.security)

      reached : List Row
      reached = select (λ row. leb row.beneficiary_date day) (filled_rows tables t.security)

      fit_reached : all (row_fits (last_open calendar)) reached ≡ true
      fit_reached = all_select _ _ _ (sound_fit (last_open calendar) (filled_rows tables t.security) s)

      cut_fit : (b : Bool) (rows : List Row) → all (row_fits (last_open calendar)) rows ≡ true
          → all (row_fits (last_open calendar)) (cond b (keep_first (waits day) rows) rows) ≡ true
      cut_fit true rows e = all_keep_first _ _ rows e
      cut_fit false rows e = e

      kind_fit : (b : Bool) (rows : List Row) → all (row_fits (last_open calendar)) rows ≡ true → all (row_fits (last_open calendar)) (cond b rows []) ≡ true
      kind_fit true rows e = e
      kind_fit false rows e = refl

      on : (b : Bool)
          → all (row_fits (last_open calendar))
          (cond b (eligible_before type (contract_date tag) day (filled_rows tables t.security)) (eligible_now tables limits t.security (contract_date tag) day)) ≡ true
      on true = kind_fit (is_mbs type) _ (all_select _ _ _ fit_reached)
      on false = cut_fit (is_mbs type) _ (all_select _ _ _ (all_last _ _ _ fit_reached))

  fit_interim : (day : ℕ) (t : Transfer) → Sound (last_open calendar) (filled_rows tables t.security)
      → all (row_fits (last_open calendar)) (interim tables day t) ≡ true
  unfolding interim interim_in
  fit_interim day t s = go (is_mbs (type_of (security_of tables t.security)))
    where
      go : (b : Bool) → all (row_fits (last_open calendar)) (cond b (select (is_interim day) (filled_rows tables t.security)) []) ≡ true
      go true = all_select _ _ _ (sound_fit (last_open calendar) (filled_rows tables t.security) s)
      go false = refl

  pub fit_transfer : (limits : List ℕ) (day n : ℕ) (t : Transfer) (tag : Tag) → n < 4294967296 → SmallParties (transfer_parties t) → t.par ≤ 9000000000
      → Sound (last_open calendar) (filled_rows tables t.security) → AllFit (transfer_claims calendar tables limits day n t tag)
  unfolding transfer_claims dues
  fit_transfer limits day n t tag b r c s =
      let failed = cond (fails t tag) (map (due fail_type) (eligible tables limits day t tag)) [] in
      let between = cond (eqb t.code 0) (map (due interim_type) (interim tables day t)) [] in
      rw (map-append claim failed between)
      (all_fit_append (map claim failed) (map claim between)
      (go (fails t tag) fail_type (eligible tables limits day t tag) (omega arith) (fit_eligible limits day t tag s))
      (go (eqb t.code 0) interim_type (interim tables day t) (omega arith) (fit_interim day t s)))
    where
      claim : Due → Claim
      claim d = claim_on calendar tables day n (transfer_parties t) t.par d.claim_type d.row

      go : (f : Bool) (claim_type : ℕ) (rows : List Row) → claim_type < 256 → all (row_fits (last_open calendar)) rows ≡ true
          → AllFit (map claim (cond f (map (due claim_type) rows) []))
      go true claim_type rows a d = fit_dues day n (transfer_parties t) t.par claim_type rows a b r c d
      go false claim_type rows a d = tt

  -- ---- the claims of a close

  fit_each : (n : ℕ) (f : ℕ → List Claim) → ((i : ℕ) → i < n → AllFit (f i)) → AllFit (each n f)
  unfolding each
  fit_each zero f h = tt
  fit_each (suc n) f h = all_fit_append (each n f) (f n) (fit_each n f (λ i k. h i (omega arith))) (h n (omega arith))

  fit_rows : (rows : List Row) (f : Row → List Claim) → all (row_fits (last_open calendar)) rows ≡ true
      → ((row : Row) → row_fits (last_open calendar) row ≡ true → AllFit (f row)) → AllFit (each_of rows f)
  unfolding each_of
  fit_rows [] f r h = tt
  fit_rows (row ∷ rows) f r h =
      all_fit_append (f row) (each_of rows f) (h row (and_left _ _ r)) (fit_rows rows f (and_right (row_fits (last_open calendar) row) _ r) h)

  fit_loan : (day claim_type : ℕ) (row : Row) (x : Parties) (par : ℕ) → claim_type < 256 → par ≤ 9000000000 → SmallParties x
      → row_fits (last_open calendar) row ≡ true → AllFit (loan_claim calendar tables day claim_type row x par)
  unfolding loan_claim
  fit_loan day claim_type row x par a c r d = go (ltb 0 par)
    where
      go : (b : Bool) → AllFit (cond b (claim_on calendar tables day 0 x par claim_type row ∷ []) [])
      go true = (fit_claim day 0 x par claim_type row a (omega arith) r c d, tt)
      go false = tt

  pub fit_close : (day : ℕ) (balances : List ℕ)
      → ((k s l b : ℕ) → k < 2 → s < 16 → l < 16 → b < 16 → get_or (lender_balances (security_balances balances k s) l) b 0 ≤ 9000000000)
      → ((s : ℕ) → s < 16 → Sound (last_open calendar) (filled_rows tables s))
      → AllFit (close_claims calendar tables day balances)
  unfolding close_claims crossed row_claims tracking_claims tracking_type loan_parties
  fit_close day balances small sound =
      fit_each 16 _ (λ s i.
      fit_rows (crossed calendar tables day s) _ (all_select _ _ _ (sound_fit (last_open calendar) (filled_rows tables s) (sound s i))) (λ row d.
      fit_each 2 _ (λ t h.
      fit_each 16 _ (λ l j.
      fit_each 16 _ (λ b k.
      fit_loan day _ row _ _ (omega arith) (small t s l b h i j k) (record { security = i; payee = j; payer = k }) d)))))
