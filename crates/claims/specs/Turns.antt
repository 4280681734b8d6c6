-- The claims of a close turn by turn, as the loops of its code make them: what each level asks and gives.
use Rattle.std.specs.Prelude.{◌≡◌, Bool, true, cond, List, [], ℕ, ◌≤◌, ◌<◌, leb, get_or}
use Rattle.lists.specs.Tabulate.{each, each_of}
use Rattle.days.specs.Days.{open_after}
use Rattle.records.specs.declared.Claim.{Claim}
use Rattle.securities.specs.Securities.{row_at, good_tables}
use Rattle.securities.specs.declared.Row.{Row}
use Rattle.claims.specs.Close.{crosses, crossed, loan_parties, loan_claim, row_claims}

-- A balance that is not too large.
unfoldable pub small : ℕ → Bool
small par = leb par 9000000000

-- What claims on a row of a security ask: a security of the book, and factors in range.
pub record Ready (security : ℕ) (row : Row) : Type 0 where
  pub known : security < 16
  pub interest : row.interest_factor ≤ 2000000000
  pub principal : row.principal_factor ≤ 2000000000

-- What a close that goes on to the next open day asks: sound tables.
pub record SoundClose (calendar tables : List ℕ) (day next : ℕ) : Type 0 where
  pub table_rules : good_tables calendar tables ≡ true
  pub next_day : next ≡ open_after calendar day

-- What it asks of a row of the tables.
pub record Sound (calendar tables : List ℕ) (day next security : ℕ) (row : Row) : Type 0 where
  pub close : SoundClose calendar tables day next
  pub known : security < 16
  pub numbered : row.index < 16
  pub here : row ≡ row_at tables security row.index

-- The claims of a lender on a row, by borrower.
unfoldable pub lender_claims : List ℕ → List ℕ → ℕ → ℕ → Row → ℕ → ℕ → List ℕ → List Claim
lender_claims calendar tables day claim_type row s lender lent =
    each 16 λ borrower. loan_claim calendar tables day claim_type row (loan_parties s lender borrower) (get_or lent borrower 0)

-- The claims on a row if the close crosses it.
unfoldable pub turn_claims : List ℕ → List ℕ → ℕ → ℕ → ℕ → List ℕ → Row → List Claim
turn_claims calendar tables day next s balances row =
    cond (crosses day next row) (row_claims calendar tables day s balances row) []

-- The claims on a security's rows.
unfoldable pub security_claims : List ℕ → List ℕ → ℕ → ℕ → List ℕ → List Claim
security_claims calendar tables day s balances = each_of (crossed calendar tables day s) (row_claims calendar tables day s balances)
