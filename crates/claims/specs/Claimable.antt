-- What a claim on a row asks of the numbers that it is made from.
use Rattle.std.specs.Prelude.{ℕ, ◌≤◌, ◌<◌}
use Rattle.securities.specs.declared.Row.{Row}
use Rattle.claims.specs.declared.Parties.{Parties}

-- A security and a payer of the book, a par in range, and a row with factors in range.
pub record Claimable (x : Parties) (par : ℕ) (row : Row) : Type 0 where
  pub held : x.security < 16
  pub paying : x.payer < 16
  pub small : par ≤ 9000000000
  pub interest : row.interest_factor ≤ 2000000000
  pub principal : row.principal_factor ≤ 2000000000
