-- 17 for an unset mark, a count or a day past 32 bits, and a day or balances that number 4 would refuse.
use native.Mathlib.Omega.{arith}
use Rattle.records.specs.Refusals.{refusal_number, judged_number}
use Rattle.records.proofs.Refusals.{failed, passed}
use Rattle.marks.specs.Marks.{day_in, count_in, balances_in}
use Rattle.marks.proofs.Numbers.{saved_unset, saved_count, saved_day, saved_state, saved_clear}
use Rattle.marks.proofs.Stored.{all_behind, state_read}
use Rattle.marks.proofs.judge_saved.Goals as goal

pub returns-then-words-ne1-clause-number : goal.returns-then-words-ne1-clause-number
unfolding judged_number refusal_number
returns-then-words-ne1-clause-number c = saved_unset _ _ c.if-words-ne1.true

pub returns-in_default-clause-number : goal.returns-in_default-clause-number
unfolding judged_number refusal_number
returns-in_default-clause-number c = saved_count _ _ c.in_default.ensures

pub returns-in_default-try_from-clause-number : goal.returns-in_default-try_from-clause-number
unfolding judged_number refusal_number
returns-in_default-try_from-clause-number c = saved_day _ _ c.in_default-try_from.ensures

pub returns-then-is_err-clause-number : goal.returns-then-is_err-clause-number
unfolding judged_number refusal_number
returns-then-is_err-clause-number c = saved_state _ _ (state_read _ _ c.judge_state.ensures c.in-Ok-try_from.ensures.1) (failed _ c.if-is_err.ensures.negation)

pub returns-clause-value : goal.returns-clause-value
unfolding day_in count_in balances_in
returns-clause-value c =
    (λ i. record { day = c.in-Ok-try_from.ensures.1 i; count = c.in-Ok.ensures.1 i }, all_behind c.args.words.now)

pub returns-clause-number : goal.returns-clause-number
unfolding judged_number
returns-clause-number c =
    saved_clear _ _ c.if-words-ne1.false (omega (arith, c.in-Ok.ensures.0)) (state_read _ _ c.judge_state.ensures c.in-Ok-try_from.ensures.1) (passed _ c.if-is_err.ensures.negation)
