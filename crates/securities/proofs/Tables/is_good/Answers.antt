use mathlib.Core.Path.{sym, ap, ◌∙◌}
use Prim.Native.Nat.{◌-◌}
use Rattle.securities.specs.Securities.{good_tables}
use Rattle.securities.proofs.Checks.{security_length, judge_start, judge_bad, judge_next, judge_end}
use borrow.Author.Rules.{rules}
use Rattle.securities.proofs.Tables.is_good.Goals as goal

pub loop-s-init : goal.loop-s-init
loop-s-init c = judge_start _ _

pub good_security-requires : goal.good_security-requires
good_security-requires c = security_length _ (c.loop-s.s - 1) c.self.invariant (search rules)

pub returns-then-not-good_security : goal.returns-then-not-good_security
returns-then-not-good_security c =
    judge_bad _ c.last_day-last.ensures c.loop-s-test.true c.loop-s.invariant (sym c.good_security.ensures ∙ c.if-not-good_security.true)
    ∙ ap (good_tables c.args.calendar.now) c.self.view_is

pub loop-s-preserved : goal.loop-s-preserved
loop-s-preserved c = judge_next _ c.last_day-last.ensures c.loop-s-test.true c.loop-s.invariant (sym c.good_security.ensures ∙ c.if-not-good_security.false)

pub returns : goal.returns
returns c = judge_end c.loop-s-test.false c.loop-s.invariant ∙ ap (good_tables c.args.calendar.now) c.self.view_is
