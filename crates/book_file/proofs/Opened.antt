-- The definitions of this crate and of those below it that computed rows open, under one name.
use Prim.Native.Nat.{ℕ}
use Rattle.lists.proofs.Opened.{opened_lists}
use Rattle.book_file.specs.BookFile.{words_in, calendar_in, tables_in, day_in}

unfoldable pub opened_book_file : ℕ
unfolding opened_lists words_in calendar_in tables_in day_in
opened_book_file = 0
