-- The arithmetic is the definition's.
use mathlib.Core.Path.{refl}
use Rattle.days.specs.Days.{date_of}
use Rattle.days.proofs.date_of.Goals as goal

pub returns : goal.returns
unfolding date_of
returns c = refl
