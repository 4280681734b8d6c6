-- A tag that is not empty stays; an empty one means a day before the memo.
use mathlib.Core.Path.{sym, ◌∙◌}
use Rattle.tags.proofs.OnDay.{empty_before, empty_later, other_same}
use Rattle.tags.proofs.on_day.Goals as goal

pub returns-in_default : goal.returns-in_default
returns-in_default c = other_same _ _ c.in_default.not-Empty

pub returns-then-before_memo : goal.returns-then-before_memo
returns-then-before_memo c = rw c.in-Empty.is (empty_before _ (sym c.before_memo.ensures ∙ c.if-before_memo.true))

pub returns : goal.returns
returns c = rw c.in-Empty.is (empty_later _ (sym c.before_memo.ensures ∙ c.if-before_memo.false))
