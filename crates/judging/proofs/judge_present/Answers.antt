-- 1 for a length, 2 for the calendar, then the causes of the day and the balances.
use mathlib.Core.Path.{refl, sym, ap, ◌∙◌}
use mathlib.Core.Bool.{true≢false}
use mathlib.Core.List.{List}
use Prim.Native.Nat.{ℕ}
use Rattle.lists.specs.First.{first_of}
use Rattle.records.specs.Refusals.{refusal_number, judged_number}
use Rattle.records.proofs.Refusals.{handed_on}
use Rattle.days.specs.Days.{bad_calendar}
use Rattle.book.specs.Soundness.{state_causes}
use Rattle.book.proofs.Causes.{present_calendar, present_balances, present_bad_calendar, present_state}
use Rattle.judging.proofs.judge_present.Goals as goal

pub returns-in_default-clause-number : goal.returns-in_default-clause-number
unfolding judged_number refusal_number
returns-in_default-clause-number c = present_calendar _ _ _ (λ l. true≢false (sym (c.in_default.ensures.variant.1 l)))

pub returns-then-balances-ne-BALANCE_WORDS-clause-number : goal.returns-then-balances-ne-BALANCE_WORDS-clause-number
unfolding judged_number refusal_number
returns-then-balances-ne-BALANCE_WORDS-clause-number c = present_balances _ _ _ c.if-balances-ne-BALANCE_WORDS.true

pub returns-then-is_bad-clause-number : goal.returns-then-is_bad-clause-number
unfolding judged_number refusal_number
returns-then-is_bad-clause-number c =
    let m = c.in-Some.ensures in
    present_bad_calendar _ _ _ (m.variant.0 refl) c.if-balances-ne-BALANCE_WORDS.false
    (sym (ap bad_calendar m.value) ∙ (sym c.is_bad.ensures ∙ c.if-is_bad.true))

pub returns-in_err-judge_state-clause-number : goal.returns-in_err-judge_state-clause-number
returns-in_err-judge_state-clause-number c =
    let m = c.in-Some.ensures in
    handed_on _ c.in_err-judge_state.was c.from_residual.ensures.1
    ∙ present_state _ _ _ (m.variant.0 refl) c.if-balances-ne-BALANCE_WORDS.false
    (sym (ap bad_calendar m.value) ∙ (sym c.is_bad.ensures ∙ c.if-is_bad.false))
    (c.judge_state.ensures ∙ ap (λ (l : List ℕ). first_of (state_causes l c.args.day c.args.balances.now)) m.value)

pub returns-clause-number : goal.returns-clause-number
unfolding judged_number
returns-clause-number c =
    let m = c.in-Some.ensures in
    present_state _ _ _ (m.variant.0 refl) c.if-balances-ne-BALANCE_WORDS.false
    (sym (ap bad_calendar m.value) ∙ (sym c.is_bad.ensures ∙ c.if-is_bad.false))
    (c.in_ok-judge_state.ensures ∙ ap (λ (l : List ℕ). first_of (state_causes l c.args.day c.args.balances.now)) m.value)
