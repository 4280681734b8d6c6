-- 4 for the day or the balances.
use mathlib.Core.Path.{sym, ◌∙◌}
use Rattle.records.specs.Refusals.{refusal_number, judged_number}
use Rattle.lists.specs.First.{hit, skip, none}
use Rattle.book.specs.Soundness.{bad_day, state_causes}
use Rattle.book.proofs.Causes.{or_left, or_right, or_none}
use Rattle.judging.proofs.judge_state.Goals as goal
use Rattle.judging.proofs.judge_state.Goals.{then-bad_day-via-then-bad_day, then-bad_day-via-else-bad_day+then-bad_balances}

pub returns-then-bad_day : goal.returns-then-bad_day
unfolding state_causes judged_number refusal_number
returns-then-bad_day c =
    hit 4 _
    (elim c.then-bad_day.branch [
      | then-bad_day-via-then-bad_day w ↦ or_left _ _ (sym c.bad_day.ensures ∙ w.if-bad_day.true)
      | then-bad_day-via-else-bad_day+then-bad_balances w ↦ or_right (bad_day _ _) _ (sym w.bad_balances.ensures ∙ w.if-bad_balances.true)
    ])

pub returns : goal.returns
unfolding state_causes judged_number
returns c = skip 4 _ (or_none _ _ (sym c.bad_day.ensures ∙ c.if-bad_day.false) (sym c.bad_balances.ensures ∙ c.if-bad_balances.false)) none
