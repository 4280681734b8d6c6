-- The amount rule in other words; outcome, release and slot by their cases; each field of a claim.
use mathlib.Core.Path.{◌≡◌, refl, sym, ◌∙◌}
use mathlib.Core.Logic.{◌≢◌}
use mathlib.Core.Bool.{Bool, true, false, cond, ◌&&◌, ◌||◌, true≢false}
use mathlib.Core.List.{List}
use Prim.Native.Nat.{ℕ, zero, suc, ◌+◌, ◌*◌, ◌≤◌, ◌<◌}
use native.Mathlib.Omega.{arith}
use lib.Dec.{eqb}
use borrow.Author.Tests.{eq-eqb, ne_eqb, eqb-true, le-leb, lt-leb}
use Rattle.days.specs.Days.{bit_on, open_after, open_from}
use Rattle.records.specs.declared.Claim.{Claim}
use Rattle.securities.specs.Securities.{security_of, type_of, good_row}
use Rattle.securities.specs.declared.Row.{Row}
use Rattle.claims.specs.Amounts.{fail_type, interim_type, Part, of_interest, of_principal, cents_on, cents_for, factor_for, amount, is_tracked, outcome_of, is_late, release_of, is_early, slot_of, claim_on}
use Rattle.claims.specs.declared.Parties.{Parties}
use Rattle.claims.specs.Close.{tracking_type}
use Rattle.claims.proofs.Dues.{is_interim_of, interim_timely}

-- ---- the amount rule

-- the cents of either part are the nearest to the exact amount, half a cent going up
pub cents_nearest : (part : Part) (par factor : ℕ)
    → (10000000 * cents_for part par factor ≤ par * factor + 5000000) × (par * factor + 5000000 < 10000000 * cents_for part par factor + 10000000)
unfolding cents_for cents_on
cents_nearest of_interest par factor = omega arith
cents_nearest of_principal par factor = omega arith

-- ---- the outcome

module _ (payer : ℕ) (row : Row) (interest principal : ℕ) where
  pub outcome_zero : (claim_type : ℕ) → interest ≡ 0 → principal ≡ 0 → outcome_of claim_type payer row interest principal ≡ 1
  unfolding outcome_of
  outcome_zero claim_type i p = rw (eq-eqb interest 0 i, eq-eqb principal 0 p)

  some : 0 < interest + principal → (eqb interest 0 && eqb principal 0) ≡ false
  some h = go interest principal h
    where
      go : (i p : ℕ) → 0 < i + p → (eqb i 0 && eqb p 0) ≡ false
      go zero zero k = absurd (omega arith)
      go zero (suc p) k = ne_eqb (suc p) 0 (omega arith)
      go (suc i) p k = rw (ne_eqb (suc i) 0 (omega arith))

  -- a lending or repo claim on a final row
  pub tracked_final : (claim_type : ℕ) → is_tracked claim_type ≡ true → 0 < interest + principal → row.redeems ≡ 1
      → outcome_of claim_type payer row interest principal ≡ 2
  unfolding outcome_of
  tracked_final claim_type t h f = rw (some h, t, eq-eqb row.redeems 1 f)

  -- a fail claim, and a lending or repo claim on a row that is not final
  pub fail_masked : 0 < interest + principal → bit_on row.mask payer ≡ true → outcome_of 1 payer row interest principal ≡ 3
  unfolding outcome_of is_tracked
  fail_masked h m = rw (some h, m)

  pub tracked_masked : (claim_type : ℕ) → is_tracked claim_type ≡ true → 0 < interest + principal → row.redeems ≢ 1 → bit_on row.mask payer ≡ true
      → outcome_of claim_type payer row interest principal ≡ 3
  unfolding outcome_of
  tracked_masked claim_type t h f m = rw (some h, t, ne_eqb row.redeems 1 f, m)

  pub fail_settles : 0 < interest + principal → bit_on row.mask payer ≡ false → outcome_of 1 payer row interest principal ≡ 0
  unfolding outcome_of is_tracked
  fail_settles h m = rw (some h, m)

  pub tracked_settles : (claim_type : ℕ) → is_tracked claim_type ≡ true → 0 < interest + principal → row.redeems ≢ 1 → bit_on row.mask payer ≡ false
      → outcome_of claim_type payer row interest principal ≡ 0
  unfolding outcome_of
  tracked_settles claim_type t h f m = rw (some h, t, ne_eqb row.redeems 1 f, m)

-- ---- lending and repo

-- both trackings have claims of such a type
pub tracking_tracked : (tracking : ℕ) → tracking < 2 → is_tracked (tracking_type tracking) ≡ true
unfolding is_tracked tracking_type
tracking_tracked zero h = refl
tracking_tracked (suc zero) h = refl
tracking_tracked (suc (suc n)) h = absurd (omega arith)

-- and no other type is
tracked_types : (claim_type : ℕ) → is_tracked claim_type ≡ true → 3 ≤ claim_type
unfolding is_tracked
tracked_types claim_type t = go (eqb claim_type 3) (eqb claim_type 4) refl refl t
  where
    go : (a b : Bool) → eqb claim_type 3 ≡ a → eqb claim_type 4 ≡ b → (a || b) ≡ true → 3 ≤ claim_type
    go true b e f u = omega (arith, eqb-true claim_type 3 e)
    go false true e f u = omega (arith, eqb-true claim_type 4 f)
    go false false e f u = absurd (true≢false (sym u))

-- ---- release and slot

module _ (calendar : List ℕ) (day type : ℕ) (row : Row) where
  pub notice_release : (claim_type outcome : ℕ) → outcome ≢ 0 → release_of calendar claim_type day row outcome ≡ 0
  unfolding release_of
  notice_release claim_type outcome h = rw (ne_eqb outcome 0 h)

  pub notice_slot : (claim_type outcome : ℕ) → outcome ≢ 0 → slot_of type claim_type day row outcome ≡ 0
  unfolding slot_of
  notice_slot claim_type outcome h = rw (ne_eqb outcome 0 h)

  -- a fail claim whose Payment Date has come
  pub late_release : row.payment_date ≤ day → release_of calendar 1 day row 0 ≡ open_after calendar day
  unfolding release_of is_late
  late_release h = rw (le-leb row.payment_date day h)

  pub late_slot : row.payment_date ≤ day → slot_of type 1 day row 0 ≡ 2
  unfolding slot_of is_late
  late_slot h = rw (le-leb row.payment_date day h)

  -- a fail claim whose Payment Date is to come, and every lending and repo claim
  pub timely_release : day < row.payment_date → release_of calendar 1 day row 0 ≡ open_from calendar row.payment_date
  unfolding release_of is_late
  timely_release h = rw (lt-leb row.payment_date day h)

  pub tracked_release : (claim_type : ℕ) → is_tracked claim_type ≡ true → release_of calendar claim_type day row 0 ≡ open_from calendar row.payment_date
  unfolding release_of is_late
  tracked_release claim_type t = rw (lt-leb claim_type 2 (tracked_types claim_type t))

  pub timely_slot : day < row.payment_date → slot_of type 1 day row 0 ≡ cond (is_early type) 1 3
  unfolding slot_of is_late
  timely_slot h = rw (lt-leb row.payment_date day h)

  pub tracked_slot : (claim_type : ℕ) → is_tracked claim_type ≡ true → slot_of type claim_type day row 0 ≡ cond (is_early type) 1 3
  unfolding slot_of is_late
  tracked_slot claim_type t = rw (lt-leb claim_type 2 (tracked_types claim_type t))

-- ---- an interim claim is as a fail claim

module _ (calendar : List ℕ) (day type payer : ℕ) (row : Row) where
  pub interim_outcome : (interest principal : ℕ) → outcome_of interim_type payer row interest principal ≡ outcome_of fail_type payer row interest principal
  unfolding outcome_of is_tracked
  interim_outcome interest principal = refl

  pub interim_as_fail : (outcome : ℕ) → release_of calendar interim_type day row outcome ≡ release_of calendar fail_type day row outcome
  unfolding release_of is_late
  interim_as_fail outcome = refl

  -- but its Payment Date is to come: a claim that settles goes on the first open day on or after it, in the slot of its type
  pub interim_release : (last : ℕ) → good_row last row ≡ true → is_interim_of type day row ≡ true
      → release_of calendar interim_type day row 0 ≡ open_from calendar row.payment_date
  interim_release last g e = interim_as_fail 0 ∙ timely_release calendar day type row (interim_timely last type day row g e)

  pub interim_slot : (last : ℕ) → good_row last row ≡ true → is_interim_of type day row ≡ true → slot_of type interim_type day row 0 ≡ cond (is_early type) 1 3
  unfolding slot_of is_late
  interim_slot last g e = timely_slot calendar day type row (interim_timely last type day row g e)

-- types 1 and 4 alone are early
pub early_types : (is_early 1 ≡ true) × (is_early 4 ≡ true) × (is_early 2 ≡ false) × (is_early 3 ≡ false)
unfolding is_early
early_types = (refl, refl, refl, refl)

-- ---- the fields of a claim

pub record Says (c : Claim) (calendar tables : List ℕ) (day number : ℕ) (x : Parties) (par claim_type : ℕ) (row : Row) : Type 0 where
  pub claim_type_lem : c.claim_type ≡ claim_type
  pub outcome : c.outcome ≡ outcome_of claim_type x.payer row (cents_for of_interest par row.interest_factor) (cents_for of_principal par row.principal_factor)
  pub payer : c.payer ≡ x.payer
  pub payee : c.payee ≡ x.payee
  pub security : c.security ≡ x.security
  pub row_number : c.row ≡ row.index
  pub transfer_number : c.transfer ≡ number
  pub interest : c.interest.0 ≡ cents_for of_interest par row.interest_factor
  pub principal : c.principal.0 ≡ cents_for of_principal par row.principal_factor
  pub release : c.release ≡ release_of calendar claim_type day row c.outcome
  pub slot : c.slot ≡ slot_of (type_of (security_of tables x.security)) claim_type day row c.outcome

pub claim_says : (calendar tables : List ℕ) (day number : ℕ) (x : Parties) (par claim_type : ℕ) (row : Row)
    → Says (claim_on calendar tables day number x par claim_type row) calendar tables day number x par claim_type row
unfolding claim_on amount factor_for
claim_says calendar tables day number x par claim_type row =
    record {
      claim_type_lem = refl;
      outcome = refl;
      payer = refl;
      payee = refl;
      security = refl;
      row_number = refl;
      transfer_number = refl;
      interest = refl;
      principal = refl;
      release = refl;
      slot = refl;
    }
