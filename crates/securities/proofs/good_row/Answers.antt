-- `good_row` answers as the definition: one broken rule decides, and where the others are kept the last does.
use mathlib.Core.Path.{sym, ◌∙◌}
use borrow.Author.Tests.{lt-leb}
use Rattle.securities.specs.Securities.{good_row}
use Rattle.securities.proofs.Checks.{no_left, no_right, last_rule}
use Rattle.securities.proofs.good_row.Goals as goal

pub returns-then-not-is_date : goal.returns-then-not-is_date
unfolding good_row
returns-then-not-is_date c = sym (search (no_left, no_right, sym c.is_date.ensures ∙ c.if-not-is_date.true) depth 12)

pub returns-then-not-is_date-2 : goal.returns-then-not-is_date-2
unfolding good_row
returns-then-not-is_date-2 c = sym (search (no_left, no_right, sym c.is_date-2.ensures ∙ c.if-not-is_date-2.true) depth 12)

pub returns-then-not-is_date-3 : goal.returns-then-not-is_date-3
unfolding good_row
returns-then-not-is_date-3 c = sym (search (no_left, no_right, sym c.is_date-3.ensures ∙ c.if-not-is_date-3.true) depth 12)

pub returns-then-row-gt-LARGEST_FACTOR : goal.returns-then-row-gt-LARGEST_FACTOR
unfolding good_row
returns-then-row-gt-LARGEST_FACTOR c = sym (search (no_left, no_right, lt-leb _ _ c.if-row-gt-LARGEST_FACTOR.true) depth 12)

pub returns-then-row-gt-LARGEST_FACTOR-2 : goal.returns-then-row-gt-LARGEST_FACTOR-2
unfolding good_row
returns-then-row-gt-LARGEST_FACTOR-2 c = sym (search (no_left, no_right, lt-leb _ _ c.if-row-gt-LARGEST_FACTOR-2.true) depth 12)

pub returns-then-row-gt1 : goal.returns-then-row-gt1
unfolding good_row
returns-then-row-gt1 c = sym (search (no_left, no_right, lt-leb _ _ c.if-row-gt1.true) depth 12)

pub returns-then-row-gt-LARGEST_MASK : goal.returns-then-row-gt-LARGEST_MASK
unfolding good_row
returns-then-row-gt-LARGEST_MASK c = sym (search (no_left, no_right, lt-leb _ _ c.if-row-gt-LARGEST_MASK.true) depth 12)

pub returns-then-row : goal.returns-then-row
unfolding good_row
returns-then-row c = sym (search (no_left, no_right, lt-leb _ _ c.if-row.true) depth 12)

pub returns-then-row-2 : goal.returns-then-row-2
unfolding good_row
returns-then-row-2 c = sym (search (no_left, no_right, lt-leb _ _ c.if-row-2.true) depth 12)

pub returns : goal.returns
unfolding good_row
returns c =
    last_rule _ c.args.row (sym c.is_date.ensures ∙ c.if-not-is_date.false)
    (sym c.is_date-2.ensures ∙ c.if-not-is_date-2.false)
    (sym c.is_date-3.ensures ∙ c.if-not-is_date-3.false)
    c.if-row-gt-LARGEST_FACTOR.false c.if-row-gt-LARGEST_FACTOR-2.false c.if-row-gt1.false c.if-row-gt-LARGEST_MASK.false c.if-row.false c.if-row-2.false
