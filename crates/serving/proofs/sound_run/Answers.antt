-- The fields are those of the contract.
use mathlib.Core.Path.{refl}
use Rattle.stream.specs.Serving.{is_full}
use Rattle.serving.proofs.sound_run.Goals as goal

pub returns : goal.returns
unfolding is_full
returns c = refl
