-- The program claimrun, in words. Take any book.dat, or none, and any list of steps, each of which kept its contract: a step is handed what
-- the last one left, with the bytes of a read behind those not worked yet; a read is made only where the last step asked for input, and one
-- that gives nothing is the end of the input. However the input is cut into reads, what the beginning and the steps have written, one piece
-- behind the other, is what claimrun_bytes says of the bytes read so far, up to what is still to be written for the bytes not worked yet
-- and for those to come; once the run is over it is all of it. Where input is asked for, every whole record read has been answered, and
-- the bytes left are fewer than a record has, so that a buffer of 141 bytes has room for a read. A step that neither ends the run nor asks
-- for input leaves fewer bytes, so the steps between two reads, and those after the input has ended, come to an end.
use Rattle.std.specs.Prelude.{◌≡◌, cond, true, false, List, [], ◌∷◌, ◌++◌, ℕ, ◌+◌, ◌≤◌, ◌<◌, length, take}
use Rattle.stream.specs.declared.Next.TheVariants.{Waiting}
use Rattle.stream.specs.Stream.{next, stream_bytes}
use Rattle.stream.specs.Serving.{record_room}
use Rattle.program.specs.declared.Held.{Held}
use Rattle.program.specs.Claimrun.{BookDat, missing, holds, no_balances, claimrun_bytes}
use Rattle.program.specs.Steps.{Beginning, begins, Holding, holding, pending, to_write, stepped}

-- ---- the steps of a run

-- The bytes of book.dat that the beginning is handed: none where it is missing, and at most one more than it should have.
unfoldable pub handed : BookDat → List ℕ
handed missing = []
handed (holds file) = take 9221 file

-- What is held after the beginning, with an input buffer.
unfoldable pub at_first : Beginning → List ℕ → Holding
at_first b input = holding b.held b.balances input b.output

-- A step that was taken: the bytes that the read gave, the buffers that the step was handed, and what it left.
pub record Taken : Type 0 where
  pub read : List ℕ
  pub input : List ℕ
  pub output : List ℕ
  pub after : Holding

-- It was handed what the last one left, with the bytes read behind those not worked yet, and kept its contract.
pub record Keeps (calendar tables : List ℕ) (h : Holding) (x : Taken) : Type 0 where
  pub asked : h.held.asks ≡ false → x.read ≡ []
  pub inside : h.held.left + length x.read ≤ length x.input
  pub behind : take (h.held.left + length x.read) x.input ≡ pending h ++ x.read
  pub kept : x.after ≡ stepped calendar tables (holding h.held h.balances x.input x.output) (length x.read)

abbrev pub AllKeep : List ℕ → List ℕ → Holding → List Taken → Type 0
AllKeep calendar tables h [] = Unit {0}
AllKeep calendar tables h (x ∷ xs) = Keeps calendar tables h x × AllKeep calendar tables x.after xs

-- The bytes read, those written, and what is held after the last step.
unfoldable pub read_by : List Taken → List ℕ
read_by [] = []
read_by (x ∷ xs) = x.read ++ read_by xs

unfoldable pub written_by : Holding → List Taken → List ℕ
written_by h [] = to_write h
written_by h (x ∷ xs) = to_write h ++ written_by x.after xs

unfoldable pub at_last : Holding → List Taken → Holding
at_last h [] = h
at_last h (x ∷ xs) = at_last x.after xs

-- ---- the statement

-- What is still to be written for the bytes not worked yet and for those to come.
unfoldable pub still : List ℕ → List ℕ → Holding → List ℕ → List ℕ
still calendar tables h more = cond h.held.over [] (stream_bytes calendar tables h.held.book h.balances (pending h ++ more))

pub record Writes (file : BookDat) (calendar tables input written : List ℕ) (h : Holding) : Type 0 where
  pub so_far : (more : List ℕ) → (h.held.ended ≡ true → more ≡ []) → written ++ still calendar tables h more ≡ claimrun_bytes file (input ++ more)
  pub in_all : h.held.over ≡ true → (more : List ℕ) → (h.held.ended ≡ true → more ≡ []) → written ≡ claimrun_bytes file (input ++ more)
  pub answered : h.held.asks ≡ true → Waiting ≡ next false (pending h)
  pub room : h.held.asks ≡ true → length (pending h) < 141
  pub finished : h.held.ended ≡ true → h.held.asks ≡ false
  pub works : (x : Taken) → Keeps calendar tables h x → record_room ≤ length x.output → h.held.over ≡ false → x.after.held.over ≡ false
      → x.after.held.asks ≡ false → x.after.held.left < h.held.left + length x.read

-- Every run of claimrun.
abbrev pub EveryClaimrun : Type 0
EveryClaimrun = (file : BookDat) (calendar tables output input : List ℕ) (b : Beginning)
    → b ≡ begins (handed file) calendar tables no_balances output → (steps : List Taken)
    → AllKeep b.calendar b.tables (at_first b input) steps
    → Writes file b.calendar b.tables (read_by steps) (written_by (at_first b input) steps) (at_last (at_first b input) steps)

-- ---- the loop

-- What the program's loop keeps: the answer, the balances and the bytes not worked yet that it holds are those that some steps left, one after
-- the other, each of which was handed what the last one left and kept its contract.
pub record Ran (calendar tables : List ℕ) (first : Holding) (held : Held) (balances input : List ℕ) : Type 0 where
  pub steps : List Taken
  pub keep : AllKeep calendar tables first steps
  pub held_is : (at_last first steps).held ≡ held
  pub balances_are : (at_last first steps).balances ≡ balances
  pub pending_is : pending (at_last first steps) ≡ take held.left input

-- The same from a beginning on.
abbrev pub RanBook : Beginning → List ℕ → Held → List ℕ → List ℕ → Type 0
RanBook b input held balances input' = Ran b.calendar b.tables (at_first b input) held balances input'

-- So what the loop holds at its end is what claimrun_bytes says, with the bytes read and written by its steps.
abbrev pub EveryLoop : Type 0
EveryLoop = (file : BookDat) (calendar tables output input : List ℕ) (held : Held) (balances input' : List ℕ)
    → (r : RanBook (begins (handed file) calendar tables no_balances output) input held balances input')
    → Writes file (begins (handed file) calendar tables no_balances output).calendar (begins (handed file) calendar tables no_balances output).tables
    (read_by r.steps) (written_by (at_first (begins (handed file) calendar tables no_balances output) input) r.steps)
    (at_last (at_first (begins (handed file) calendar tables no_balances output) input) r.steps)
