-- The words are filled in order.
use Rattle.book_file.proofs.Words.{Filling}
use Rattle.book_file.proofs.take_words.Given as goal

abbrev pub invariant-loop-i : goal.invariant-loop-i
invariant-loop-i l = Filling l.bytes l.at l.initial.words l.words l.i
