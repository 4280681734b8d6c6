-- `figures` meets its contract: a bad account or date, then a bad record, then a sum past the limit is refused, and else the sums are whole.
use mathlib.Core.Path.{sym, ◌∙◌}
use Rattle.std.proofs.lemmas.Result.{err_from_is_err_and}
use Rattle.forecast.proofs.Answers.{sums_within, wanted_refused, record_refused, sum_refused, accepted_answer}
use Rattle.forecast.proofs.figures.Goals as goal

pub returns-then-bad_wanted : goal.returns-then-bad_wanted
returns-then-bad_wanted c = wanted_refused _ _ _ (sym c.bad_wanted.ensures ∙ c.if-bad_wanted.true)

pub returns-in_err-sums : goal.returns-in_err-sums
returns-in_err-sums c =
    let p = err_from_is_err_and c.from_residual.result c.from_residual.ensures.1 in
    rw (p.1, p.2)
    (record_refused _ _ _ (sym c.bad_wanted.ensures ∙ c.if-bad_wanted.false) (sym c.in_err-sums.was ∙ c.sums_of.ensures))

pub returns-then-past_limit : goal.returns-then-past_limit
returns-then-past_limit c =
    sum_refused _ _ _ (sym c.bad_wanted.ensures ∙ c.if-bad_wanted.false) (sym c.in_ok-sums.was ∙ c.sums_of.ensures)
    (sym c.past_limit.ensures ∙ c.if-past_limit.true)

pub cash_of-requires : goal.cash_of-requires
cash_of-requires c = sums_within _ (sym c.past_limit.ensures ∙ c.if-past_limit.false)

pub returns : goal.returns
returns c =
    accepted_answer _ _ _ (sym c.bad_wanted.ensures ∙ c.if-bad_wanted.false) (sym c.in_ok-sums.was ∙ c.sums_of.ensures)
    (sym c.past_limit.ensures ∙ c.if-past_limit.false) c.cash_of.ensures
