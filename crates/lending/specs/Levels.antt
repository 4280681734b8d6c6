-- The claims of a close at each level of its loops, by what the code gathers for that level.
use Rattle.std.specs.Prelude.{List, ℕ}
use Rattle.amounts.specs.Numbers.{type_number}
use Rattle.records.specs.declared.Claim.{Claim}
use Rattle.securities.specs.declared.Row.{Row}
use Rattle.claims.specs.Close.{loan_parties, loan_claim, tracking_claims, row_claims, close_claims}
use Rattle.claims.specs.Turns.{lender_claims, turn_claims, security_claims}
use Rattle.lending.specs.declared.given.Close.{Close}
use Rattle.lending.specs.declared.given.Entry.{Entry}

-- ---- on a row: of a par, a lender and a tracking

abbrev pub loan_level : Entry → ℕ → ℕ → ℕ → List Claim
loan_level e lender borrower par =
    loan_claim e.calendar.now e.tables.now e.day (type_number e.claim_type) e.row (loan_parties e.security lender borrower) par

abbrev pub lender_level : Entry → ℕ → List ℕ → List Claim
lender_level e lender lent = lender_claims e.calendar.now e.tables.now e.day (type_number e.claim_type) e.row e.security lender lent

abbrev pub tracking_level : Entry → List ℕ → List Claim
tracking_level e held = tracking_claims e.calendar.now e.tables.now e.day (type_number e.claim_type) e.security held e.row

-- ---- of a row that is crossed, of any row, of a security, and of the close

abbrev pub row_level : Close → ℕ → Row → List Claim
row_level c s row = row_claims c.calendar.now c.tables.now c.day s c.balances.now row

abbrev pub turn_level : Close → ℕ → Row → List Claim
turn_level c s row = turn_claims c.calendar.now c.tables.now c.day c.next s c.balances.now row

abbrev pub security_level : Close → ℕ → List Claim
security_level c s = security_claims c.calendar.now c.tables.now c.day s c.balances.now

abbrev pub close_level : Close → List Claim
close_level c = close_claims c.calendar.now c.tables.now c.day c.balances.now
