-- The definitions of this crate and of those below it that computed rows open, under one name.
use Prim.Native.Nat.{ℕ}
use Rattle.lists.specs.First.{with_test}
use Rattle.history.specs.Results.{left_open, followed_by}
use Rattle.history.proofs.Rows.{opened_rows}
use Rattle.carry_over.specs.CarriedOver.{widened, carry_number, carried_for, carried}
use Rattle.carry_over.specs.LendingForm.{lending_claims, lending_claims_of, lending_out_of_range, lending_causes, lending_number, lending_result, lending_opened}
use Rattle.carry_over.specs.Statement.{is_repo, with_repo_empty}

unfoldable pub opened_carry : ℕ
unfolding opened_rows with_test left_open followed_by widened carry_number carried_for carried lending_claims lending_claims_of lending_out_of_range lending_causes lending_number lending_result lending_opened is_repo with_repo_empty
opened_carry = 0
