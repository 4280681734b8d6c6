-- The numbers that a claim's record gives for its type and its outcome.
use Rattle.std.specs.Prelude.{ℕ}
use Rattle.claims.specs.Amounts.{fail_type, interim_type, lending_type, repo_type}
use Rattle.amounts.specs.declared.ClaimType.{ClaimType}
use Rattle.amounts.specs.declared.ClaimType.TheVariants as claim_type
use Rattle.amounts.specs.declared.Outcome.{Outcome}
use Rattle.amounts.specs.declared.Outcome.TheVariants as outcome

unfoldable pub type_number : ClaimType → ℕ
type_number claim_type.Fail = fail_type
type_number claim_type.Interim = interim_type
type_number claim_type.Lending = lending_type
type_number claim_type.Repo = repo_type

unfoldable pub outcome_number : Outcome → ℕ
outcome_number outcome.Settle = 0
outcome_number outcome.Nothing = 1
outcome_number outcome.Redeemed = 2
outcome_number outcome.Masked = 3
