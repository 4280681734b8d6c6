-- The answer stands at the output's start.
use mathlib.Core.Path.{refl}
use Rattle.program.specs.Steps.{refused_held}
use Rattle.steps.proofs.refuse.Goals as goal

pub returns : goal.returns
unfolding refused_held
returns c = (refl, c.put_answer.ensures)
