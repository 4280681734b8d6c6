-- The causes of the tables come first, then 4 for the day.
use mathlib.Core.Path.{sym, ap, ◌∙◌}
use mathlib.Core.List.{List}
use Prim.Native.Nat.{ℕ}
use Rattle.lists.specs.First.{hit, skip, none}
use Rattle.records.specs.Refusals.{refusal_number, judged_number}
use Rattle.records.proofs.Refusals.{handed_on, refused_first, passed_first}
use Rattle.book.specs.Soundness.{bad_day, opening_causes}
use Rattle.book.proofs.Causes.{numbered_tables}
use Rattle.judging.proofs.judge_opening.Goals as goal

pub returns-in_err-market : goal.returns-in_err-market
unfolding opening_causes
returns-in_err-market c = handed_on _ c.in_err-market.was c.from_residual.ensures.1 ∙ refused_first _ _ c.judge_tables.ensures.number c.in_err-market.was

pub returns-then-bad_day : goal.returns-then-bad_day
unfolding opening_causes judged_number refusal_number
returns-then-bad_day c =
    passed_first _ _ (numbered_tables _ _ _) c.judge_tables.ensures.number c.in_ok-market.was
    (hit 4 _ (sym (ap (λ (m : List ℕ). bad_day m c.args.day) c.in_ok-market.ensures.value.0) ∙ (sym c.bad_day.ensures ∙ c.if-bad_day.true)))

pub returns : goal.returns
unfolding opening_causes judged_number
returns c =
    passed_first _ _ (numbered_tables _ _ _) c.judge_tables.ensures.number c.in_ok-market.was
    (skip 4 _ (sym (ap (λ (m : List ℕ). bad_day m c.args.day) c.in_ok-market.ensures.value.0) ∙ (sym c.bad_day.ensures ∙ c.if-bad_day.false)) none)
