-- Each part stands at its place.
use Rattle.book_file.specs.BookFile.{day_in}
use Rattle.book_file.proofs.Words.{calendar_words_lem, table_words_lem}
use Rattle.book_file.proofs.load.Goals as goal

pub returns : goal.returns
unfolding day_in
returns c =
    let s = c in
    (calendar_words_lem _ _ _ s.requires.1 c.take_words.ensures, table_words_lem _ _ _ s.requires.2 c.take_words-2.ensures, c.u32_at.ensures)
