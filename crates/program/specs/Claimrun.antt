-- Document 01, section The program claimrun: all that claimrun writes to standard output, from the bytes of book.dat and of standard
-- input. A book.dat that is missing, cannot be read or has another size than 9,220 bytes gets the answer 1; one whose opening is refused
-- gets the opening's number; then nothing else is written. After an accepted opening it is what the ledger of accepted calls answers for
-- the records of the input: for each its claims and its answer, and a 5 at the end where something stands that is no record; input that
-- ends where a record would begin gets nothing more.
use Rattle.std.specs.Prelude.{cond, List, ℕ, zero, suc, eqb, length, replicate}
use Rattle.book.specs.Book.{balance_words}
use Rattle.history.specs.Causes.{opening_number}
use Rattle.stream.specs.Stream.{answer_bytes}
use Rattle.stream.specs.Statement.{ledger_bytes}
use Rattle.book_file.specs.BookFile.{calendar_in, tables_in, day_in}

-- book.dat: missing, which it also is where it cannot be read, or its bytes.
pub data BookDat : Type 0 where
  missing : BookDat
  holds : List ℕ → BookDat

-- Calendar, tables and the opening's day in bytes.
abbrev pub book_bytes : ℕ
book_bytes = 9220

-- The balances that the opening is handed.
abbrev pub no_balances : List ℕ
no_balances = replicate balance_words 0

-- The number of a book.dat's bytes: 1 where the size differs, else the opening's.
unfoldable pub file_number : List ℕ → ℕ
file_number file = cond (eqb (length file) book_bytes) (opening_number (calendar_in file) (tables_in file) no_balances (day_in file)) 1

-- What is written where book.dat got a number.
unfoldable pub written_for : ℕ → List ℕ → List ℕ → List ℕ
written_for zero file input = ledger_bytes (calendar_in file) (tables_in file) (day_in file) input
written_for (suc n) file input = answer_bytes (suc n)

-- All that claimrun writes.
unfoldable pub claimrun_bytes : BookDat → List ℕ → List ℕ
claimrun_bytes missing input = answer_bytes 1
claimrun_bytes (holds file) input = written_for (file_number file) file input
