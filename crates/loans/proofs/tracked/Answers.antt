-- Codes past 6 are those of repo.
use borrow.Author.Tests.{lt-ltb, le-ltb}
use Rattle.book.specs.Loans.{tracking_of, step_of}
use Rattle.loans.proofs.tracked.Goals as goal

pub returns-then-code-gt6 : goal.returns-then-code-gt6
unfolding tracking_of step_of
returns-then-code-gt6 c = (rw (lt-ltb 6 _ c.if-code-gt6.true), rw (lt-ltb 6 _ c.if-code-gt6.true))

pub returns-else-code-gt6 : goal.returns-else-code-gt6
unfolding tracking_of step_of
returns-else-code-gt6 c = (rw (le-ltb 6 _ c.if-code-gt6.false), rw (le-ltb 6 _ c.if-code-gt6.false))
