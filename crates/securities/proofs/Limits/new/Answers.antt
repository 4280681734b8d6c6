-- Good limits are five.
use mathlib.Core.Path.{sym, ◌∙◌}
use Rattle.securities.proofs.Sound.{five_limits}
use Rattle.securities.proofs.Limits.new.Goals as goal

pub invariant_of-result : goal.invariant_of-result
invariant_of-result c = five_limits _ (sym c.good_limits.ensures ∙ c.if-good_limits.true)
