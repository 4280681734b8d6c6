-- The fields are those of the definition.
use mathlib.Core.Path.{refl}
use Rattle.program.specs.Steps.{resting}
use Rattle.steps.proofs.rest.Goals as goal

pub returns : goal.returns
unfolding resting
returns c = refl
