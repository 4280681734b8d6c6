-- `good_balance` answers as the definition: zero is good, too large is bad, else lender and borrower differ.
use mathlib.Core.Path.{◌∙◌}
use borrow.Author.Tests.{eq-eqb, lt-leb}
use Rattle.book.specs.Book.{position}
use Rattle.book.proofs.Causes.{balance_none, balance_large, balance_held}
use Rattle.judging.proofs.good_balance.Goals as goal

pub returns-then-par-eq0 : goal.returns-then-par-eq0
returns-then-par-eq0 c = eq-eqb _ 0 c.if-par-eq0.true ∙ balance_none _ _ c.if-par-eq0.true

pub returns-then-par-le-LARGEST_BALANCE : goal.returns-then-par-le-LARGEST_BALANCE
unfolding position
returns-then-par-le-LARGEST_BALANCE c = balance_held (position c.args.w) _ c.if-par-eq0.false c.if-par-le-LARGEST_BALANCE.true

pub returns-else-par-le-LARGEST_BALANCE : goal.returns-else-par-le-LARGEST_BALANCE
returns-else-par-le-LARGEST_BALANCE c = lt-leb _ 9000000000 c.if-par-le-LARGEST_BALANCE.false ∙ balance_large _ _ c.if-par-le-LARGEST_BALANCE.false
