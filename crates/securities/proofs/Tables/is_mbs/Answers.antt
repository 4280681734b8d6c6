-- Types 3 and 4, as the definition says.
use mathlib.Core.Path.{ap}
use lib.Dec.{leb}
use Rattle.securities.specs.Lent.{is_mbs}
use Rattle.securities.proofs.Tables.is_mbs.Goals as goal

pub returns : goal.returns
unfolding is_mbs
returns c = ap (leb 3) c.security_type.ensures
