-- What claimrun does between a read and a write. It begins by judging book.dat and opening the book; a step works what was read into the
-- output. Between a write and the next read it holds its last answer, the balances and the two buffers.
use Rattle.std.specs.Prelude.{Bool, cond, not, true, false, ◌&&◌, ◌||◌, List, ℕ, zero, suc, ◌+◌, ◌-◌, eqb, length, take, drop}
use Rattle.lists.specs.Put.{put}
use Rattle.days.specs.Days.{first_date}
use Rattle.book.specs.declared.Book.{Book}
use Rattle.history.specs.Results.{Opened, opened}
use Rattle.stream.specs.declared.Served.{Served}
use Rattle.stream.specs.Stream.{answer_bytes}
use Rattle.stream.specs.Serving.{Leaves, leaves}
use Rattle.book_file.specs.BookFile.{calendar_in, tables_in, day_in}
use Rattle.program.specs.declared.Held.{Held}
use Rattle.program.specs.Claimrun.{book_bytes}

-- ---- the beginning

-- What the beginning answers, and calendar, tables, balances and output after it.
pub record Beginning : Type 0 where
  pub held : Held
  pub calendar : List ℕ
  pub tables : List ℕ
  pub balances : List ℕ
  pub output : List ℕ

-- A book.dat that is refused: its answer is to be written, and the run is over.
unfoldable pub refused_held : Held
refused_held = record { book = record { day = first_date; count = 0 }; left = 0; written = 6; ended = false; over = true; asks = false }

-- An opened book: nothing is to be written yet, and input is asked for.
unfoldable pub open_held : Book → Held
open_held book = record { book = book; left = 0; written = 0; ended = false; over = false; asks = true }

-- What an opening that got a number leaves.
unfoldable pub opening_for : ℕ → List ℕ → Opened → List ℕ → Beginning
opening_for zero file o output =
    record { held = open_held o.book; calendar = calendar_in file; tables = tables_in file; balances = o.balances; output = output }
opening_for (suc n) file o output =
    record {
      held = refused_held;
      calendar = calendar_in file;
      tables = tables_in file;
      balances = o.balances;
      output = put output 0 (answer_bytes (suc n));
    }

unfoldable pub opening : List ℕ → List ℕ → List ℕ → Beginning
opening file balances output =
    opening_for (opened (calendar_in file) (tables_in file) balances (day_in file)).number file
    (opened (calendar_in file) (tables_in file) balances (day_in file)) output

-- Bytes of another number than book.dat's get the answer 1, and calendar, tables and balances stay as found; else the book is opened.
unfoldable pub begins : List ℕ → List ℕ → List ℕ → List ℕ → List ℕ → Beginning
begins file calendar tables balances output =
    cond (eqb (length file) book_bytes) (opening file balances output)
    (record { held = refused_held; calendar = calendar; tables = tables; balances = balances; output = put output 0 (answer_bytes 1) })

-- What an answer says with the words and the output that it leaves.
unfoldable pub left_beginning : Held → List ℕ → List ℕ → List ℕ → List ℕ → Beginning
left_beginning held calendar tables balances output =
    record { held = held; calendar = calendar; tables = tables; balances = balances; output = output }

-- ---- a step

-- What the last step answered, the balances, and the two buffers.
pub record Holding : Type 0 where
  pub held : Held
  pub balances : List ℕ
  pub input : List ℕ
  pub output : List ℕ

unfoldable pub holding : Held → List ℕ → List ℕ → List ℕ → Holding
holding held balances input output = record { held = held; balances = balances; input = input; output = output }

-- The bytes not worked yet, and those to be written.
unfoldable pub pending : Holding → List ℕ
pending h = take h.held.left h.input

unfoldable pub to_write : Holding → List ℕ
to_write h = take h.held.written h.output

-- The input has ended: it had before, or bytes were asked for and none came.
unfoldable pub has_ended : Held → ℕ → Bool
has_ended held got = held.ended || (held.asks && eqb got 0)

-- The run is over: after a 5, or where the input has ended and there was room for another record, so that none is left; and on a book that
-- is not sound, where nothing is worked.
unfoldable pub is_over : Served → Bool → Bool
is_over s ended = not (eqb s.number 0) || (s.over || (ended && not s.full))

-- What is held after a run of serve on have bytes. More input is asked for where the run is not over and has
-- worked every whole record.
unfoldable pub held_after : Served → Bool → ℕ → Held
held_after s ended have =
    record {
      book = s.book;
      left = have - s.consumed;
      written = s.written;
      ended = ended;
      over = is_over s ended;
      asks = not (is_over s ended) && not s.full;
    }

-- The answer of serve in what it leaves.
unfoldable pub served_in : Leaves → Served
served_in l = record { number = l.number; book = l.book; consumed = l.consumed; written = l.written; over = l.over; full = l.full }

-- After a run of serve: the bytes that it did not work stand at the input's start.
unfoldable pub after_serving : Holding → Bool → ℕ → Leaves → Holding
after_serving h ended have l =
    record {
      held = held_after (served_in l) ended have;
      balances = l.balances;
      input = put h.input 0 (drop l.consumed (take have h.input));
      output = l.output;
    }

-- A run that is over has nothing more to write.
unfoldable pub resting : Held → Held
resting held = record { book = held.book; left = held.left; written = 0; ended = held.ended; over = true; asks = false }

-- One step, on so many bytes that were read behind those not worked yet.
unfoldable pub stepped : List ℕ → List ℕ → Holding → ℕ → Holding
stepped calendar tables h got =
    cond h.held.over (holding (resting h.held) h.balances h.input h.output)
    (after_serving h (has_ended h.held got) (h.held.left + got)
    (leaves calendar tables (has_ended h.held got) h.held.book h.balances (take (h.held.left + got) h.input) h.output))
