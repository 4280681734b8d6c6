-- The tag of the lines, as the day takes it.
use mathlib.Core.Path.{ap, ◌∙◌}
use Rattle.tags.specs.ContractDateTag.{on_day}
use Rattle.tags.proofs.tag_on.Goals as goal

pub returns : goal.returns
returns c = c.on_day.ensures ∙ ap (on_day _) c.tag_of.ensures
