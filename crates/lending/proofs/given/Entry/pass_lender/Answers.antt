use Rattle.std.proofs.Common.{◌<◌, arith, rules}
use Rattle.claims.specs.Passes.{turn_start, turn_free, turn_end}
use Rattle.claims.specs.Turns.{lender_claims}
use Rattle.claims.proofs.Passes.{turn_step}
use Rattle.claims.proofs.Turns.{small_at}
use Rattle.lending.proofs.given.Entry.pass_lender.Goals as goal

pub loop-borrower-init : goal.loop-borrower-init
loop-borrower-init c = turn_start _ _ 16 _ _

pub pass_loan-m-requires : goal.pass_loan-m-requires
unfolding lender_claims
pass_loan-m-requires c =
    let p = c.requires in
    let here : c.loop-borrower.borrower < 16 = omega arith in
    (search rules, small_at _ c.loop-borrower.borrower p.1 (search rules), turn_free _ p.2 c.loop-borrower.invariant here)

pub loop-borrower-preserved : goal.loop-borrower-preserved
unfolding lender_claims
loop-borrower-preserved c =
    let d = c.pass_loan-m in
    let here : c.loop-borrower.borrower < 16 = omega arith in
    turn_step _ c.requires.2 c.loop-borrower.invariant here d.ensures d.auto.buffer

pub returns : goal.returns
unfolding lender_claims
returns c = turn_end _ c.requires.2 c.loop-borrower.invariant (omega arith)
