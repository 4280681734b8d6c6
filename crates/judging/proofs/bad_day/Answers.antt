-- `bad_day` asks whether the day is open and whether an open day follows it.
use mathlib.Core.Path.{sym, ap, ◌∙◌}
use mathlib.Core.Bool.{not}
use Rattle.book.proofs.Causes.{day_closed, day_open}
use Rattle.judging.proofs.bad_day.Goals as goal

pub returns-then-not-is_open : goal.returns-then-not-is_open
returns-then-not-is_open c = ap not c.if-not-is_open.true ∙ day_closed _ _ (sym c.is_open.ensures ∙ c.if-not-is_open.true)

pub returns-else-not-is_open : goal.returns-else-not-is_open
returns-else-not-is_open c = day_open _ _ (sym c.is_open.ensures ∙ c.if-not-is_open.false) c.open_after.ensures c.is_none.ensures
