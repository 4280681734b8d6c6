-- `last_day` gives the number of the day that the search finds, or 0.
use mathlib.Core.Path.{sym}
use Rattle.days.proofs.OpenDays.{on_day_lem, no_day}
use Rattle.securities.proofs.last_day.Goals as goal

pub returns-in-Some : goal.returns-in-Some
returns-in-Some c = on_day_lem _ c.last_open.ensures c.in-Some.is

pub returns-in-None : goal.returns-in-None
returns-in-None c = sym (no_day _ c.last_open.ensures c.in-None.is)
