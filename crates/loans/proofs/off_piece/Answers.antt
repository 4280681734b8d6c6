-- A multiple of the piece is on it; else a balance that is cleared decides.
use borrow.Author.Tests.{eq-eqb, ne_eqb}
use Rattle.book.specs.Loans.{off_piece}
use Rattle.loans.proofs.off_piece.Goals as goal

pub returns-then-t-piece-ne0 : goal.returns-then-t-piece-ne0
unfolding off_piece
returns-then-t-piece-ne0 c = rw (← c.piece.ensures.value, ne_eqb _ 0 c.if-t-piece-ne0.true, c.clears_balance.ensures)

pub returns-else-t-piece-ne0 : goal.returns-else-t-piece-ne0
unfolding off_piece
returns-else-t-piece-ne0 c = rw (← c.piece.ensures.value, eq-eqb _ 0 c.if-t-piece-ne0.false)
