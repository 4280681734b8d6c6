-- Each test of the code decides the next cause.
use mathlib.Core.Path.{refl, sym, ap, ◌∙◌}
use mathlib.Core.Bool.{true≢false}
use Rattle.records.specs.Refusals.{refusal_number, judged_number}
use Rattle.days.specs.Days.{bad_calendar}
use Rattle.book.proofs.Causes.{wrong_calendar, wrong_tables, wrong_balances, bad_calendar_number, bad_tables_number, tables_accepted}
use Rattle.judging.proofs.judge_tables.Goals as goal

pub returns-in_default-clause-number : goal.returns-in_default-clause-number
unfolding judged_number refusal_number
returns-in_default-clause-number c = wrong_calendar _ _ _ (λ l. true≢false (sym (c.in_default.ensures.variant.1 l)))

pub returns-in_default-new-clause-number : goal.returns-in_default-new-clause-number
unfolding judged_number refusal_number
returns-in_default-new-clause-number c = wrong_tables _ _ _ (λ l. true≢false (sym (c.in_default-new.ensures.variant.1 l)))

pub returns-then-balances-ne-BALANCE_WORDS-clause-number : goal.returns-then-balances-ne-BALANCE_WORDS-clause-number
unfolding judged_number refusal_number
returns-then-balances-ne-BALANCE_WORDS-clause-number c = wrong_balances _ _ _ c.if-balances-ne-BALANCE_WORDS.true

pub returns-then-is_bad-clause-number : goal.returns-then-is_bad-clause-number
unfolding judged_number refusal_number
returns-then-is_bad-clause-number c =
    let m = c.in-Some.ensures in
    bad_calendar_number _ _ _ (m.variant.0 refl) (c.in-Some-new.ensures.variant.0 refl) c.if-balances-ne-BALANCE_WORDS.false
    (sym (ap bad_calendar m.value) ∙ (sym c.is_bad.ensures ∙ c.if-is_bad.true))

pub returns-then-not-is_good-clause-number : goal.returns-then-not-is_good-clause-number
unfolding judged_number refusal_number
returns-then-not-is_good-clause-number c =
    let m = c.in-Some.ensures in
    let t = c.in-Some-new.ensures in
    bad_tables_number _ _ _ (m.variant.0 refl) (t.variant.0 refl) c.if-balances-ne-BALANCE_WORDS.false
    (sym (ap bad_calendar m.value) ∙ (sym c.is_bad.ensures ∙ c.if-is_bad.false))
    (rw (← m.value, ← t.value) (sym c.is_good.ensures ∙ c.if-not-is_good.true))

pub returns-clause-number : goal.returns-clause-number
unfolding judged_number
returns-clause-number c =
    let m = c.in-Some.ensures in
    let t = c.in-Some-new.ensures in
    tables_accepted _ _ _ (m.variant.0 refl) (t.variant.0 refl) c.if-balances-ne-BALANCE_WORDS.false
    (sym (ap bad_calendar m.value) ∙ (sym c.is_bad.ensures ∙ c.if-is_bad.false))
    (rw (← m.value, ← t.value) (sym c.is_good.ensures ∙ c.if-not-is_good.false))
