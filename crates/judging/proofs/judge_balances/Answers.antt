-- Each turn judges the next word.
use mathlib.Core.Path.{sym, ◌∙◌}
use Rattle.book.proofs.Causes.{judge_start, judge_bad, judge_next, judge_end}
use Rattle.judging.proofs.judge_balances.Goals as goal

pub loop-w-init : goal.loop-w-init
loop-w-init c = judge_start _

pub returns-then-not-good_balance : goal.returns-then-not-good_balance
returns-then-not-good_balance c = judge_bad c.loop-w-test.true c.loop-w.invariant (sym c.good_balance.ensures ∙ c.if-not-good_balance.true)

pub loop-w-preserved : goal.loop-w-preserved
loop-w-preserved c = judge_next c.loop-w-test.true c.loop-w.invariant (sym c.good_balance.ensures ∙ c.if-not-good_balance.false)

pub returns : goal.returns
returns c = judge_end c.loop-w-test.false c.loop-w.invariant
