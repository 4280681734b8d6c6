-- Each of the two comparisons is one of the definition's.
use borrow.Author.Tests.{lt-leb, le-leb}
use Rattle.securities.specs.Lent.{from_one_to}
use Rattle.securities.proofs.from_one_to.Goals as goal

pub returns-then-n-lt1 : goal.returns-then-n-lt1
unfolding from_one_to
returns-then-n-lt1 c = rw (lt-leb 1 _ c.if-n-lt1.true)

pub returns : goal.returns
unfolding from_one_to
returns c = rw (le-leb 1 _ c.if-n-lt1.false)
