use mathlib.Core.Path.{◌∙◌}
use Prim.Native.Nat.{◌+◌}
use Rattle.days.proofs.Lengths.{length_le}
use Rattle.days.proofs.Months.{judge_start, judge_bad, judge_next, judge_end, year_length}
use borrow.Author.Rules.{rules}
use native.Mathlib.Omega.{arith}
use Rattle.days.proofs.bad_year.Goals as goal

pub loop-m-init : goal.loop-m-init
loop-m-init c = judge_start _ _

pub overflow_shr-words : goal.overflow_shr-words
overflow_shr-words c = let l = length_le (2000 + c.args.y) (c.loop-m.m + 1) (omega arith) (omega (arith, c.requires.0)) (omega arith) (omega arith) in omega (arith, c.month_length-n.ensures)

pub returns-then-words-m-ne0 : goal.returns-then-words-m-ne0
returns-then-words-m-ne0 c = judge_bad c.loop-m.invariant (search rules) (search rules) (c.month_length-n.ensures ∙ year_length _ _ c.loop-m-test.true) c.if-words-m-ne0.true

pub loop-m-preserved : goal.loop-m-preserved
loop-m-preserved c = judge_next c.loop-m.invariant (search rules) (search rules) (c.month_length-n.ensures ∙ year_length _ _ c.loop-m-test.true) c.if-words-m-ne0.false

pub returns : goal.returns
returns c = judge_end c.loop-m.invariant c.loop-m-test.false (search rules)
