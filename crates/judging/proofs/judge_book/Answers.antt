-- The causes of the tables come first, then those of the day and the balances.
use mathlib.Core.Path.{ap, ◌∙◌}
use mathlib.Core.List.{List}
use Prim.Native.Nat.{ℕ}
use Rattle.lists.specs.First.{first_of}
use Rattle.records.specs.Refusals.{judged_number}
use Rattle.records.proofs.Refusals.{handed_on, refused_first, passed_first}
use Rattle.book.specs.Soundness.{state_causes, book_causes}
use Rattle.book.proofs.Causes.{numbered_tables}
use Rattle.judging.proofs.judge_book.Goals as goal

pub returns-in_err-market-clause-number : goal.returns-in_err-market-clause-number
unfolding book_causes
returns-in_err-market-clause-number c =
    handed_on _ c.in_err-market.was c.from_residual.ensures.1 ∙ refused_first _ _ c.judge_tables.ensures.number c.in_err-market.was

pub returns-in_err-judge_state-clause-number : goal.returns-in_err-judge_state-clause-number
unfolding book_causes
returns-in_err-judge_state-clause-number c =
    handed_on _ c.in_err-judge_state.was c.from_residual-in_err-judge_state.ensures.1
    ∙ passed_first _ _ (numbered_tables _ _ _) c.judge_tables.ensures.number c.in_ok-market.was
    (c.judge_state.ensures ∙ ap (λ (m : List ℕ). first_of (state_causes m c.args.day c.args.balances.now)) c.in_ok-market.ensures.value.0)

pub returns-clause-number : goal.returns-clause-number
unfolding book_causes judged_number
returns-clause-number c =
    passed_first _ _ (numbered_tables _ _ _) c.judge_tables.ensures.number c.in_ok-market.was
    (c.in_ok-judge_state.ensures ∙ ap (λ (m : List ℕ). first_of (state_causes m c.args.day c.args.balances.now)) c.in_ok-market.ensures.value.0)
