-- The causes of the tables come first, then 12 for the limits and 13 for the pieces, then those of the day and the balances.
use mathlib.Core.Path.{refl, sym, ap, ◌∙◌}
use mathlib.Core.Bool.{not, true≢false}
use mathlib.Core.List.{List}
use Prim.Native.Nat.{ℕ}
use Rattle.lists.specs.First.{first_of, hit, skip}
use Rattle.records.specs.Refusals.{refusal_number, judged_number}
use Rattle.records.proofs.Refusals.{handed_on, refused_first, passed_first}
use Rattle.book.specs.Soundness.{state_causes, lent_causes, lent_book_causes}
use Rattle.book.proofs.Causes.{numbered_tables, unless}
use Rattle.judging.proofs.judge_transfer.Goals as goal

pub returns-in_err-market-clause-number : goal.returns-in_err-market-clause-number
unfolding lent_book_causes
returns-in_err-market-clause-number c =
    handed_on _ c.in_err-market.was c.from_residual.ensures.1 ∙ refused_first _ _ c.judge_tables.ensures.number c.in_err-market.was

pub returns-in_default-clause-number : goal.returns-in_default-clause-number
unfolding lent_book_causes lent_causes judged_number refusal_number
returns-in_default-clause-number c =
    passed_first _ _ (numbered_tables _ _ _) c.judge_tables.ensures.number c.in_ok-market.was
    (hit 12 _ (unless _ (λ g. true≢false (sym (c.in_default.ensures.variant.1 g)))))

pub returns-in_default-new-clause-number : goal.returns-in_default-new-clause-number
unfolding lent_book_causes lent_causes judged_number refusal_number
returns-in_default-new-clause-number c =
    passed_first _ _ (numbered_tables _ _ _) c.judge_tables.ensures.number c.in_ok-market.was
    (skip 12 _ (ap not (c.in-Some.ensures.variant.0 refl))
    (hit 13 _ (unless _ (λ g. true≢false (sym (c.in_default-new.ensures.variant.1 g))))))

pub returns-in_err-judge_state-clause-number : goal.returns-in_err-judge_state-clause-number
unfolding lent_book_causes lent_causes
returns-in_err-judge_state-clause-number c =
    handed_on _ c.in_err-judge_state.was c.from_residual-in_err-judge_state.ensures.1
    ∙ passed_first _ _ (numbered_tables _ _ _) c.judge_tables.ensures.number c.in_ok-market.was
    (skip 12 _ (ap not (c.in-Some.ensures.variant.0 refl))
    (skip 13 _ (ap not (c.in-Some-new.ensures.variant.0 refl))
    (c.judge_state.ensures ∙ ap (λ (m : List ℕ). first_of (state_causes m c.args.day c.args.balances.now)) c.in_ok-market.ensures.value.0)))

pub returns-clause-number : goal.returns-clause-number
unfolding lent_book_causes lent_causes judged_number
returns-clause-number c =
    passed_first _ _ (numbered_tables _ _ _) c.judge_tables.ensures.number c.in_ok-market.was
    (skip 12 _ (ap not (c.in-Some.ensures.variant.0 refl))
    (skip 13 _ (ap not (c.in-Some-new.ensures.variant.0 refl))
    (c.in_ok-judge_state.ensures ∙ ap (λ (m : List ℕ). first_of (state_causes m c.args.day c.args.balances.now)) c.in_ok-market.ensures.value.0)))
