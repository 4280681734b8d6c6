-- Each test of the code is the next test of the definition.
use borrow.Author.Tests.{le-leb, lt-leb}
use Rattle.transfers.proofs.beyond.Goals as goal

pub returns-then-t-ge16 : goal.returns-then-t-ge16
returns-then-t-ge16 c = rw (le-leb 16 _ c.if-t-ge16.true)

pub returns-then-t-ge16-2 : goal.returns-then-t-ge16-2
returns-then-t-ge16-2 c = rw (lt-leb 16 _ c.if-t-ge16.false, le-leb 16 _ c.if-t-ge16-2.true)

pub returns : goal.returns
returns c = rw (lt-leb 16 _ c.if-t-ge16.false, lt-leb 16 _ c.if-t-ge16-2.false)
