use mathlib.Core.Path.{sym, ap, ◌∙◌}
use Rattle.days.specs.Days.{bad_calendar}
use Rattle.days.proofs.Months.{year_start, year_bad, year_next, year_end}
use borrow.Author.Rules.{rules}
use Rattle.days.proofs.Calendar.is_bad.Goals as goal

pub loop-y-init : goal.loop-y-init
loop-y-init c = year_start _

pub returns-then-bad_year : goal.returns-then-bad_year
returns-then-bad_year c =
    year_bad c.loop-y.invariant (search rules) c.self.invariant (sym c.if-bad_year.true ∙ c.bad_year.ensures)
    ∙ ap bad_calendar c.self.view_is

pub loop-y-preserved : goal.loop-y-preserved
loop-y-preserved c = year_next c.loop-y.invariant (search rules) c.self.invariant (sym c.if-bad_year.false ∙ c.bad_year.ensures)

pub returns : goal.returns
returns c = year_end c.loop-y.invariant c.loop-y-test.false c.self.invariant ∙ ap bad_calendar c.self.view_is
