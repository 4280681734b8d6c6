-- What a call answers on a book: a refusal comes with its number, the book given and no claims.
use Rattle.std.specs.Prelude.{Result, Ok, Err}
use Rattle.records.specs.declared.Refusal.{Refusal}
use Rattle.records.specs.Refusals.{refusal_number}
use Rattle.book.specs.declared.Book.{Book}
use Rattle.book.specs.declared.Done.{Done}

unfoldable pub answered : Book → Result Done Refusal → Done
answered book (Ok done) = done
answered book (Err r) = record { number = refusal_number r; book = book; claims = 0 }
