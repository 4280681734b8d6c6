use mathlib.Core.Path.{ap, ◌∙◌}
use Rattle.days.specs.Days.{last_open}
use Rattle.days.proofs.Bits.{highest_led, positive}
use Rattle.days.proofs.Parts.{found_day, nothing_found}
use Rattle.days.proofs.Months.{fall_start, fall_here, fall_next, fall_end}
use native.Mathlib.Omega.{arith}
use Rattle.days.proofs.Calendar.last_open.Goals as goal

pub loop-m-init : goal.loop-m-init
loop-m-init c = fall_start _

pub overflow_sub-w : goal.overflow_sub-w
overflow_sub-w c = (highest_led _ (positive _ c.if-w-ne0.true) (omega arith)).1

pub date_of-requires : goal.date_of-requires
date_of-requires c = (omega (arith, c.loop-m.invariant.small), omega arith)

pub returns-then-w-ne0 : goal.returns-then-w-ne0
returns-then-w-ne0 c =
    found_day _ _ c.date_of.ensures
    (c.date_of.ensures
    ∙ fall_here c.loop-m.invariant c.loop-m-test.true _ c.if-w-ne0.true
    (highest_led _ (positive _ c.if-w-ne0.true) (omega arith)).0
    ∙ ap last_open c.self.view_is)

pub loop-m-preserved : goal.loop-m-preserved
loop-m-preserved c = fall_next c.loop-m.invariant c.loop-m-test.true c.if-w-ne0.false

pub returns : goal.returns
returns c = nothing_found (fall_end c.loop-m.invariant c.loop-m-test.false ∙ ap last_open c.self.view_is)
