-- Demand 3 of a running stream, in words. Take any calendar, tables, balances and day for which opening is accepted, and any bytes, cut in
-- any way: a caller hands each run the bytes that the last one left behind it together with those that have arrived since, in an output of
-- any room, and, when the input has ended, goes on with what is left. Then all that was written, and what is still to be written for the
-- bytes not worked yet, is what the ledger of accepted calls answers for the records of the whole stream: for each record its claims and
-- its answer, and a 5 at the end where something stands that is no record. The book stays sound, so that no run is refused; a run with
-- room for a record, at the end of the input, ends the stream or leaves fewer bytes; and a run that was not ended by a 5 and still has
-- room for a record leaves nothing that could be worked.
use Rattle.std.specs.Prelude.{◌≡◌, Bool, cond, true, false, List, [], ◌∷◌, ◌++◌, ℕ, ◌+◌, ◌≤◌, ◌<◌, length, drop}
use Rattle.lists.specs.First.{first_of}
use Rattle.book.specs.declared.Book.{Book}
use Rattle.book.specs.Soundness.{book_causes}
use Rattle.history.specs.Ledger.{started, judged}
use Rattle.history.specs.Results.{Opened, opened}
use Rattle.stream.specs.declared.Next.TheVariants.{Waiting}
use Rattle.stream.specs.Stream.{next, emitted_all, calls_of, ending, stream_bytes}
use Rattle.stream.specs.Serving.{Serving, serving, record_room}

-- ---- a caller

-- Bytes that have arrived, and the room of the output.
pub record Step : Type 0 where
  pub bytes : List ℕ
  pub room : ℕ

-- What a caller holds between runs: bytes not worked yet, book and balances, all bytes written so far, and whether a 5 has ended the stream.
pub record Session : Type 0 where
  pub pending : List ℕ
  pub book : Book
  pub balances : List ℕ
  pub written : List ℕ
  pub over : Bool

unfoldable pub begun : Opened → Session
begun start = record { pending = []; book = start.book; balances = start.balances; written = []; over = false }

-- After a run on some input.
unfoldable pub advanced : Session → List ℕ → Serving → Session
advanced s input r =
    record { pending = drop r.consumed input; book = r.book; balances = r.balances; written = s.written ++ r.bytes; over = r.over }

-- One run; after a 5 there is none.
unfoldable pub stepped : List ℕ → List ℕ → Bool → Session → Step → Session
stepped calendar tables ended s x =
    cond s.over s
    (advanced s (s.pending ++ x.bytes) (serving calendar tables ended s.book s.balances (s.pending ++ x.bytes) x.room))

-- Runs while input arrives.
unfoldable pub arrived : List ℕ → List ℕ → Session → List Step → Session
arrived calendar tables s [] = s
arrived calendar tables s (x ∷ xs) = arrived calendar tables (stepped calendar tables false s x) xs

-- Runs after the input has ended, each in an output of some room.
unfoldable pub finished : List ℕ → List ℕ → Session → List ℕ → Session
finished calendar tables s [] = s
finished calendar tables s (room ∷ rooms) = finished calendar tables (stepped calendar tables true s (record { bytes = []; room = room })) rooms

-- All bytes that arrive.
unfoldable pub input_of : List Step → List ℕ
input_of [] = []
input_of (x ∷ xs) = x.bytes ++ input_of xs

-- ---- the statement

-- All that a stream's records are answered with by the ledger of accepted calls.
unfoldable pub ledger_bytes : List ℕ → List ℕ → ℕ → List ℕ → List ℕ
ledger_bytes calendar tables day input = emitted_all (judged calendar tables (started day) (calls_of input)).answers ++ ending input

-- What is still to be written for the bytes that a caller holds.
unfoldable pub still : List ℕ → List ℕ → Session → List ℕ
still calendar tables s = cond s.over [] (stream_bytes calendar tables s.book s.balances s.pending)

pub record AnswersStream (calendar tables : List ℕ) (day : ℕ) (input : List ℕ) (s : Session) : Type 0 where
  pub written : s.written ++ still calendar tables s ≡ ledger_bytes calendar tables day input
  pub whole : s.over ≡ false → length s.pending ≡ 0 → s.written ≡ ledger_bytes calendar tables day input
  pub ended : s.over ≡ true → s.written ≡ ledger_bytes calendar tables day input
  pub sound : first_of (book_causes calendar tables s.book.day s.balances) ≡ 0
  pub progress : (room : ℕ) → record_room ≤ room → s.over ≡ false → (length s.pending ≡ 0 → ⊥)
      → (stepped calendar tables true s (record { bytes = []; room = room })).over ≡ false
      → length (stepped calendar tables true s (record { bytes = []; room = room })).pending < length s.pending
  pub stops : (ended : Bool) (x : Step) → s.over ≡ false → (stepped calendar tables ended s x).over ≡ false
      → length (stepped calendar tables ended s x).written + record_room ≤ length s.written + x.room
      → Waiting ≡ next ended (stepped calendar tables ended s x).pending

-- Every stream, however it is cut, from an accepted opening.
abbrev pub EveryStream : Type 0
EveryStream = (calendar tables balances : List ℕ) (day : ℕ) → (opened calendar tables balances day).number ≡ 0 → (steps : List Step) (rooms : List ℕ)
    → AnswersStream calendar tables day (input_of steps)
    (finished calendar tables (arrived calendar tables (begun (opened calendar tables balances day)) steps) rooms)
