use mathlib.Core.Path.{sym, ◌∙◌}
use native.Mathlib.Omega.{arith}
use borrow.Author.Tests.{eqb-true, eqb-false}
use Rattle.std.proofs.lemmas.Result.{err_from_is_err_and}
use Rattle.forecast.proofs.Summing.{sums_start, sums_fit, sums_stop, sums_step, sums_end}
use Rattle.forecast.proofs.sums_of.Goals as goal

pub loop-rest-init : goal.loop-rest-init
loop-rest-init c = sums_start _ _ _

pub with_record-requires : goal.with_record-requires
with_record-requires c = sums_fit c.loop-rest.invariant

pub returns-in_err-sums : goal.returns-in_err-sums
returns-in_err-sums c =
    let some = eqb-false _ _ (sym c.is_empty.ensures ∙ c.loop-rest-test.true) in
    let p = err_from_is_err_and c.from_residual.result c.from_residual.ensures.1 in
    rw (p.1, p.2) (sums_stop c.loop-rest.invariant (omega arith) c.with_record.ensures c.in_err-sums.was)

pub loop-rest-preserved : goal.loop-rest-preserved
loop-rest-preserved c =
    let some = eqb-false _ _ (sym c.is_empty.ensures ∙ c.loop-rest-test.true) in
    sums_step c.loop-rest.invariant (omega arith) c.with_record.ensures c.in_ok-sums.was c.min.ensures

pub returns : goal.returns
returns c = sums_end c.loop-rest.invariant (eqb-true _ _ (sym c.is_empty.ensures ∙ c.loop-rest-test.false))
