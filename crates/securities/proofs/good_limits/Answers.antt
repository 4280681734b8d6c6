-- `good_limits` answers as the definition: one broken rule decides, and where the others are kept the last does.
use mathlib.Core.Path.{sym, ◌∙◌}
use borrow.Author.Tests.{eq-eqb, ne_eqb, lt-leb, le-leb}
use Rattle.securities.specs.Lent.{good_limits}
use Rattle.securities.proofs.Checks.{no_left, no_right}
use Rattle.securities.proofs.good_limits.Goals as goal

pub returns-then-limits-ne-LIMIT_WORDS : goal.returns-then-limits-ne-LIMIT_WORDS
unfolding good_limits
returns-then-limits-ne-LIMIT_WORDS c = sym (search (no_left, no_right, ne_eqb _ 5 c.if-limits-ne-LIMIT_WORDS.true) depth 8)

pub returns-then-not-all_from_one_to : goal.returns-then-not-all_from_one_to
unfolding good_limits
returns-then-not-all_from_one_to c = sym (search (no_left, no_right, sym c.all_from_one_to.ensures ∙ c.if-not-all_from_one_to.true) depth 8)

pub returns-then-limits : goal.returns-then-limits
unfolding good_limits
returns-then-limits c = sym (search (no_left, no_right, lt-leb _ _ c.if-limits.true) depth 8)

pub returns-then-limits-2 : goal.returns-then-limits-2
unfolding good_limits
returns-then-limits-2 c = sym (search (no_left, no_right, lt-leb _ _ c.if-limits-2.true) depth 8)

pub returns : goal.returns
unfolding good_limits
returns c =
    rw (
      eq-eqb _ 5 c.if-limits-ne-LIMIT_WORDS.false,
      sym c.all_from_one_to.ensures ∙ c.if-not-all_from_one_to.false,
      le-leb _ _ c.if-limits.false,
      le-leb _ _ c.if-limits-2.false,
    )
