-- Document 01, section Amounts, outcomes, release: what a claim on a row says.
use Rattle.std.specs.Prelude.{Bool, cond, ◌&&◌, ◌||◌, List, ℕ, ◌+◌, ◌*◌, ◌/◌, eqb, leb}
use Rattle.days.specs.Days.{bit_on, open_after, open_from}
use Rattle.records.specs.declared.Claim.{Claim}
use Rattle.securities.specs.Securities.{security_of, type_of}
use Rattle.securities.specs.declared.Row.{Row}
use Rattle.claims.specs.declared.Parties.{Parties}

-- ---- amounts

-- The two parts of a payment, counted apart.
pub data Part : Type 0 where
  of_interest of_principal : Part

-- The cents on whole dollars of par at a factor in billionths of a dollar; half a cent goes up.
unfoldable pub cents_on : ℕ → ℕ → ℕ
cents_on par factor = (par * factor + 5000000) / 10000000

-- The amount rule of each part, on par at the part's own factor. Only this rule leads from dollars of par to cents.
unfoldable pub cents_for : Part → ℕ → ℕ → ℕ
cents_for of_interest par factor = cents_on par factor
cents_for of_principal par factor = cents_on par factor

-- The factor of a part in a row.
unfoldable pub factor_for : Part → Row → ℕ
factor_for of_interest row = row.interest_factor
factor_for of_principal row = row.principal_factor

-- The cents of a part of a row's payment.
unfoldable pub amount : Part → ℕ → Row → ℕ
amount part par row = cents_for part par (factor_for part row)

-- ---- claim types and outcomes

-- Claim types: 1 fail, 2 interim, 3 lending, 4 repo (document 02, cards 1 and 3).
abbrev pub fail_type : ℕ
fail_type = 1

abbrev pub interim_type : ℕ
interim_type = 2

abbrev pub lending_type : ℕ
lending_type = 3

abbrev pub repo_type : ℕ
repo_type = 4

-- A claim on par on loan or on repo.
unfoldable pub is_tracked : ℕ → Bool
is_tracked claim_type = eqb claim_type lending_type || eqb claim_type repo_type

-- The first that applies: 1 both amounts zero; 2 lending or repo and final; 3 the payer's mask bit on; 0 settle.
unfoldable pub outcome_of : ℕ → ℕ → Row → ℕ → ℕ → ℕ
outcome_of claim_type payer row interest principal =
    cond (eqb interest 0 && eqb principal 0) 1
    (cond (is_tracked claim_type && eqb row.redeems 1) 2
    (cond (bit_on row.mask payer) 3 0))

-- ---- release

-- A fail or interim claim with Payment Date on or before the day.
unfoldable pub is_late : ℕ → ℕ → Row → Bool
is_late claim_type day row = leb claim_type interim_type && leb row.payment_date day

-- A late claim goes on the first open day after the day, any other on the first open day on or after its Payment Date; outcomes 1
-- to 3 are notices and have release date 0.
unfoldable pub release_of : List ℕ → ℕ → ℕ → Row → ℕ → ℕ
release_of calendar claim_type day row outcome =
    cond (eqb outcome 0) (cond (is_late claim_type day row) (open_after calendar day) (open_from calendar row.payment_date)) 0

-- Types 1 and 4, Treasury and MBS guaranteed by the United States, are released early in the day.
unfoldable pub is_early : ℕ → Bool
is_early type = eqb type 1 || eqb type 4

-- Slot 2 (8:45) for a late claim; else slot 1 (8:05) for types 1 and 4, and slot 3 for the others; 0 for a notice.
unfoldable pub slot_of : ℕ → ℕ → ℕ → Row → ℕ → ℕ
slot_of type claim_type day row outcome =
    cond (eqb outcome 0) (cond (is_late claim_type day row) 2 (cond (is_early type) 1 3)) 0

-- ---- a claim

-- The claim of a type on a row, made on a day for a par between two accounts, with a transfer number.
unfoldable pub claim_on : List ℕ → List ℕ → ℕ → ℕ → Parties → ℕ → ℕ → Row → Claim
claim_on calendar tables day number x par claim_type row =
    let interest = amount of_interest par row in
    let principal = amount of_principal par row in
    let outcome = outcome_of claim_type x.payer row interest principal in
    record {
      claim_type = claim_type;
      outcome = outcome;
      payer = x.payer;
      payee = x.payee;
      security = x.security;
      row = row.index;
      transfer = number;
      interest = record { 0 = interest };
      principal = record { 0 = principal };
      release = release_of calendar claim_type day row outcome;
      slot = slot_of (type_of (security_of tables x.security)) claim_type day row outcome;
    }
