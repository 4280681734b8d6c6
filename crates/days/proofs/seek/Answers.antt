use mathlib.Core.Path.{refl, sym, ◌∙◌}
use Rattle.days.proofs.Months.{seek_here, seek_next, seek_end}
use Rattle.days.proofs.Parts.{found_day, nothing_found}
use borrow.Author.Rules.{rules}
use Rattle.days.proofs.seek.Goals as goal

pub loop-m-init : goal.loop-m-init
loop-m-init c = (search rules, refl)

pub returns-then-d-lt32 : goal.returns-then-d-lt32
returns-then-d-lt32 c =
    found_day _ _ c.date_of.ensures
    (c.date_of.ensures
    ∙ seek_here _ _ _ _ (search rules) c.lowest_from-d.ensures c.if-d-lt32.true
    ∙ sym c.loop-m.invariant.1)

pub loop-m-preserved : goal.loop-m-preserved
loop-m-preserved c = (
  search rules,
  c.loop-m.invariant.1 ∙ seek_next _ _ _ _ c.loop-m-test.true c.lowest_from-d.ensures c.if-d-lt32.false,
)

pub returns : goal.returns
returns c = nothing_found (seek_end _ _ _ c.loop-m-test.false ∙ sym c.loop-m.invariant.1)
