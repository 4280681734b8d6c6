-- From July on the month is of the same year, before that of the year before.
use mathlib.Core.Path.{◌∙◌}
use native.Mathlib.Omega.{arith}
use Rattle.days.proofs.Parts.{parts}
use Rattle.days.proofs.HalfYear.{half_later, half_earlier}
use Rattle.days.proofs.six_months_before.Goals as goal

pub day_within-requires : goal.day_within-requires
day_within-requires c = let p = parts _ c.requires in (omega arith, omega arith, omega arith, omega arith, p.day_31)

pub returns-then-m-gt6 : goal.returns-then-m-gt6
returns-then-m-gt6 c = c.day_within.ensures ∙ half_later _ c.if-m-gt6.true

pub overflow_sub-y : goal.overflow_sub-y
overflow_sub-y c = let p = parts _ c.requires in omega arith

pub day_within-requires-2 : goal.day_within-requires-2
day_within-requires-2 c = let p = parts _ c.requires in (omega arith, omega arith, omega arith, omega arith, p.day_31)

pub returns : goal.returns
returns c = c.day_within-2.ensures ∙ half_earlier _ c.if-m-gt6.false
