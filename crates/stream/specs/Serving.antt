-- What one run over a piece of the input does: it works record after record while the output has room for the largest answer to a record,
-- and stops at a record that is not whole yet, or after a 5.
use Rattle.std.specs.Prelude.{Bool, cond, true, false, List, [], ◌++◌, ℕ, zero, suc, ◌+◌, ◌-◌, ltb, length, take, drop}
use Rattle.lists.specs.First.{first_of}
use Rattle.lists.specs.Put.{put}
use Rattle.book.specs.declared.Book.{Book}
use Rattle.book.specs.Soundness.{book_causes}
use Rattle.history.specs.Results.{result}
use Rattle.stream.specs.declared.Served.{Served}
use Rattle.stream.specs.declared.Worked.{Worked}
use Rattle.stream.specs.Stream.{next, on_next, call_for, answer_bytes, emitted}

-- The room that a record is worked in: its claim buffer and its answer.
abbrev pub record_room : ℕ
record_room = 65542

-- The book and the balances after it, how many bytes of the input were worked, the bytes written, and whether a 5 has ended the run.
pub record Serving : Type 0 where
  pub book : Book
  pub balances : List ℕ
  pub consumed : ℕ
  pub bytes : List ℕ
  pub over : Bool

unfoldable pub stopped : Book → List ℕ → Serving
stopped book balances = record { book = book; balances = balances; consumed = 0; bytes = []; over = false }

-- What is no record gets the answer 5.
unfoldable pub ended_by_five : Book → List ℕ → Serving
ended_by_five book balances = record { book = book; balances = balances; consumed = 0; bytes = answer_bytes 5; over = true }

-- A run behind bytes that were worked and written before it.
unfoldable pub after : ℕ → List ℕ → Serving → Serving
after consumed bytes s =
    record { book = s.book; balances = s.balances; consumed = consumed + s.consumed; bytes = bytes ++ s.bytes; over = s.over }

-- Up to n records of the input.
unfoldable pub serve_up_to : ℕ → List ℕ → List ℕ → Bool → Book → List ℕ → List ℕ → ℕ → Serving
serve_up_to zero calendar tables ended book balances input room = stopped book balances
serve_up_to (suc n) calendar tables ended book balances input room =
    cond (ltb room record_room) (stopped book balances)
    (on_next (next ended input) (stopped book balances) (ended_by_five book balances) (λ k.
    let r = result calendar tables book balances (call_for (take k input)) in
    let bytes = emitted r.answer in
    after k bytes (serve_up_to n calendar tables ended r.answer.book r.balances (drop k input) (room - length bytes))))

-- All of the input: every record has a byte, so its length is number enough.
unfoldable pub serving : List ℕ → List ℕ → Bool → Book → List ℕ → List ℕ → ℕ → Serving
serving calendar tables ended book balances input room = serve_up_to (length input) calendar tables ended book balances input room

-- ---- one record

-- The book and the balances after a record, how many bytes were written, and the output.
pub record Working : Type 0 where
  pub book : Book
  pub balances : List ℕ
  pub written : ℕ
  pub output : List ℕ

unfoldable pub working : List ℕ → List ℕ → Book → List ℕ → List ℕ → List ℕ → Working
working calendar tables book balances message output =
    let r = result calendar tables book balances (call_for message) in
    record {
      book = r.answer.book;
      balances = r.balances;
      written = length (emitted r.answer);
      output = put output 0 (emitted r.answer);
    }

-- What an answer says with the balances and the output that are left.
unfoldable pub worked : Worked → List ℕ → List ℕ → Working
worked r balances output = record { book = r.book; balances = balances; written = r.written; output = output }

-- ---- what serve answers and leaves

-- The output has no room for another record behind the bytes that were written.
unfoldable pub is_full : ℕ → ℕ → Bool
is_full room written = ltb (room - written) record_room

-- Numbers, book, balances and output after a run.
pub record Leaves : Type 0 where
  pub number : ℕ
  pub book : Book
  pub consumed : ℕ
  pub written : ℕ
  pub over : Bool
  pub full : Bool
  pub balances : List ℕ
  pub output : List ℕ

unfoldable pub leaves_for : ℕ → Book → List ℕ → List ℕ → Serving → Leaves
leaves_for zero book balances output s =
    record {
      number = 0;
      book = s.book;
      consumed = s.consumed;
      written = length s.bytes;
      over = s.over;
      full = is_full (length output) (length s.bytes);
      balances = s.balances;
      output = put output 0 s.bytes;
    }
leaves_for (suc n) book balances output s =
    record { number = suc n; book = book; consumed = 0; written = 0; over = false; full = false; balances = balances; output = output }

-- A book, calendar, tables or balances that are not sound get their number, and nothing is worked or written; else the output begins with
-- the bytes of the run, and what stands behind them is as found.
unfoldable pub leaves : List ℕ → List ℕ → Bool → Book → List ℕ → List ℕ → List ℕ → Leaves
leaves calendar tables ended book balances input output =
    leaves_for (first_of (book_causes calendar tables book.day balances)) book balances output
    (serving calendar tables ended book balances input (length output))

-- What an answer of serve says with the balances and the output that it leaves.
unfoldable pub left_served : Served → List ℕ → List ℕ → Leaves
left_served r balances output =
    record {
      number = r.number;
      book = r.book;
      consumed = r.consumed;
      written = r.written;
      over = r.over;
      full = r.full;
      balances = balances;
      output = output;
    }
