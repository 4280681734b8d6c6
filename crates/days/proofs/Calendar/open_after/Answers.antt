-- The bits to skip are the definition's.
use mathlib.Core.Path.{ap, ◌∙◌}
use mathlib.Core.List.{List}
use Prim.Native.Nat.{ℕ}
use Rattle.days.specs.Days.{open_after, as_day}
use Rattle.days.proofs.Calendar.open_after.Goals as goal

pub returns : goal.returns
unfolding open_after
returns c = c.open_at.ensures ∙ ap (λ (s : List ℕ). as_day (open_after s c.args.n)) c.self.view_is
