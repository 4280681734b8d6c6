-- `good_pieces` answers as the definition: the length decides, then the range of every number.
use borrow.Author.Tests.{eq-eqb, ne_eqb}
use Rattle.securities.specs.Lent.{good_pieces}
use Rattle.securities.proofs.good_pieces.Goals as goal

pub returns-then-pieces-ne-PIECE_WORDS : goal.returns-then-pieces-ne-PIECE_WORDS
unfolding good_pieces
returns-then-pieces-ne-PIECE_WORDS c = rw (ne_eqb _ 16 c.if-pieces-ne-PIECE_WORDS.true)

pub returns : goal.returns
unfolding good_pieces
returns c = rw (eq-eqb _ 16 c.if-pieces-ne-PIECE_WORDS.false) c.all_from_one_to.ensures
