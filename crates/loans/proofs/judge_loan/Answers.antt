-- The change that the code asks for decides; it is judged without a sum that could wrap.
use mathlib.Core.Path.{sym, ◌∙◌}
use native.Mathlib.Omega.{arith}
use Rattle.records.specs.Refusals.{refusal_number, judged_number}
use Rattle.book.proofs.Posted.{increase_past, increase_within, decrease_above, decrease_within, unchanged_accepted}
use Rattle.loans.proofs.judge_loan.Goals as goal

pub returns-then-par : goal.returns-then-par
unfolding judged_number refusal_number
returns-then-par c = increase_past _ _ (sym c.change_of.ensures ∙ c.in-Increase.is) c.par.ensures c.if-par.true

pub returns-else-par : goal.returns-else-par
unfolding judged_number
returns-else-par c = increase_within _ _ (sym c.change_of.ensures ∙ c.in-Increase.is) c.par.ensures (omega arith) c.if-par.false

pub returns-then-par-2 : goal.returns-then-par-2
unfolding judged_number refusal_number
returns-then-par-2 c = decrease_above _ _ (sym c.change_of.ensures ∙ c.in-Decrease.is) c.par-in-Decrease.ensures c.if-par-2.true

pub returns-else-par-2 : goal.returns-else-par-2
unfolding judged_number
returns-else-par-2 c = decrease_within _ _ (sym c.change_of.ensures ∙ c.in-Decrease.is) c.par-in-Decrease.ensures c.if-par-2.false

pub returns-in-Unchanged : goal.returns-in-Unchanged
unfolding judged_number
returns-in-Unchanged c = unchanged_accepted _ _ (sym c.change_of.ensures ∙ c.in-Unchanged.is)
