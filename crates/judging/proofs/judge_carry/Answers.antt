-- 1 for a length, 2 for the calendar, then the causes of the day and the saved balances.
use mathlib.Core.Path.{refl, sym, ap, ◌∙◌}
use mathlib.Core.Bool.{true≢false}
use mathlib.Core.List.{List}
use Prim.Native.Nat.{ℕ}
use Rattle.lists.specs.First.{first_of}
use Rattle.records.specs.Refusals.{refusal_number, judged_number}
use Rattle.days.specs.Days.{bad_calendar}
use Rattle.book.specs.Soundness.{state_causes}
use Rattle.book.proofs.Causes.{carry_calendar, carry_saved, carry_balances, carry_bad_calendar, carry_state}
use Rattle.judging.proofs.judge_carry.Goals as goal

pub returns-in_default : goal.returns-in_default
unfolding judged_number refusal_number
returns-in_default c = carry_calendar _ _ _ _ (λ l. true≢false (sym (c.in_default.ensures.variant.1 l)))

pub returns-then-saved-ne-TRACKING_WORDS : goal.returns-then-saved-ne-TRACKING_WORDS
unfolding judged_number refusal_number
returns-then-saved-ne-TRACKING_WORDS c = carry_saved _ _ _ _ c.if-saved-ne-TRACKING_WORDS.true

pub returns-then-balances-ne-BALANCE_WORDS : goal.returns-then-balances-ne-BALANCE_WORDS
unfolding judged_number refusal_number
returns-then-balances-ne-BALANCE_WORDS c = carry_balances _ _ _ _ c.if-balances-ne-BALANCE_WORDS.true

pub returns-then-is_bad : goal.returns-then-is_bad
unfolding judged_number refusal_number
returns-then-is_bad c =
    let m = c.in-Some.ensures in
    carry_bad_calendar _ _ _ _ (m.variant.0 refl) c.if-saved-ne-TRACKING_WORDS.false c.if-balances-ne-BALANCE_WORDS.false
    (sym (ap bad_calendar m.value) ∙ (sym c.is_bad.ensures ∙ c.if-is_bad.true))

pub returns : goal.returns
returns c =
    let m = c.in-Some.ensures in
    carry_state _ _ _ _ (m.variant.0 refl) c.if-saved-ne-TRACKING_WORDS.false c.if-balances-ne-BALANCE_WORDS.false
    (sym (ap bad_calendar m.value) ∙ (sym c.is_bad.ensures ∙ c.if-is_bad.false))
    (c.judge_state.ensures ∙ ap (λ (l : List ℕ). first_of (state_causes l c.args.day c.args.saved.now)) m.value)
