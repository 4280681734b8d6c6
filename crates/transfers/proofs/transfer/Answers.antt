-- The form without limits is the form that is lent the published numbers.
use Rattle.claims.specs.Fails.{maximum_numbers}
use Rattle.transfers.proofs.transfer.Goals as goal

pub returns : goal.returns
unfolding maximum_numbers
returns c = c.transfer_with_limits.ensures
