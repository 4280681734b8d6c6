-- The causes of the present book come first, then 16 for the mark or the store.
use mathlib.Core.Path.{refl, sym, ◌∙◌}
use mathlib.Core.Bool.{true≢false}
use Rattle.records.specs.Refusals.{refusal_number, judged_number}
use Rattle.records.proofs.Refusals.{handed_on, refused_first, passed_first}
use Rattle.book.proofs.Causes.{numbered_present}
use Rattle.marks.specs.Marks.{set_causes}
use Rattle.marks.proofs.Numbers.{no_mark, mark_there}
use Rattle.marks.proofs.judge_setting.Goals as goal

pub returns-in_err-calendar-clause-number : goal.returns-in_err-calendar-clause-number
unfolding set_causes
returns-in_err-calendar-clause-number c =
    handed_on _ c.in_err-calendar.was c.from_residual.ensures.1 ∙ refused_first _ _ c.judge_present.ensures.number c.in_err-calendar.was

pub returns-in_default-clause-number : goal.returns-in_default-clause-number
unfolding set_causes judged_number refusal_number
returns-in_default-clause-number c =
    let a = c.args in
    passed_first _ _ (numbered_present _ _ _) c.judge_present.ensures.number c.in_ok-calendar.was
    (no_mark a.calendar.now a.day a.balances.now a.store.now a.mark (λ h. true≢false (sym (c.in_default.ensures.variant.1 h))))

pub returns-clause-number : goal.returns-clause-number
unfolding set_causes judged_number
returns-clause-number c =
    let a = c.args in
    let h = c.in-Some.ensures.variant.0 refl in
    passed_first _ _ (numbered_present _ _ _) c.judge_present.ensures.number c.in_ok-calendar.was
    (mark_there a.calendar.now a.day a.balances.now a.store.now a.mark h.0 h.1)
