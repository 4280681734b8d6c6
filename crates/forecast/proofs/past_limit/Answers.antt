-- `past_limit` meets its contract: each test of the code is one of the definition's.
use borrow.Author.Tests.{lt-ltb, le-ltb}
use Rattle.cash.specs.Cash.{past_limit}
use Rattle.forecast.proofs.past_limit.Goals as goal

pub returns-then-sums-gt-LIMIT : goal.returns-then-sums-gt-LIMIT
unfolding past_limit
returns-then-sums-gt-LIMIT c = rw (lt-ltb _ _ c.if-sums-gt-LIMIT.true)

pub returns : goal.returns
unfolding past_limit
returns c = rw (le-ltb _ _ c.if-sums-gt-LIMIT.false)
