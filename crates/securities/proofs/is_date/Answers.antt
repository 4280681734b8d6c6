-- `is_date` answers whether the constructor makes a date.
use mathlib.Core.Path.{ap, ◌∙◌}
use Rattle.std.specs.Option.{is_some}
use Rattle.days.proofs.Parts.{some_date}
use Rattle.securities.proofs.is_date.Goals as goal

pub returns : goal.returns
returns c = c.is_some.ensures ∙ ap is_some c.new.ensures ∙ some_date _
