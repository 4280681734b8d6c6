-- `good_parties` meets its contract: each test of the code is one of the definition's.
use borrow.Author.Tests.{eq-eqb, ne_eqb, lt-leb, le-leb}
use Rattle.cash.specs.Cash.{good_parties}
use Rattle.forecast.proofs.good_parties.Goals as goal

pub returns-then-c : goal.returns-then-c
unfolding good_parties
returns-then-c c = rw (eq-eqb _ _ c.if-c.true)

pub returns-then-c-gt15 : goal.returns-then-c-gt15
unfolding good_parties
returns-then-c-gt15 c = rw (ne_eqb _ _ c.if-c.false, lt-leb _ _ c.if-c-gt15.true)

pub returns : goal.returns
unfolding good_parties
returns c = rw (ne_eqb _ _ c.if-c.false, le-leb _ _ c.if-c-gt15.false)
