-- Demand 3 of a running stream, over what the calls of serve answered and left. A caller hands each call the bytes that the last one did not
-- work together with those that have arrived since, and the book and balances that the last one left. Whatever the calls answered, if each
-- kept the contract of serve, then what they wrote, one behind the other, is what the ledger of accepted calls answers.
use Rattle.std.specs.Prelude.{◌≡◌, Bool, true, false, List, [], ◌∷◌, ◌++◌, ℕ, length, take, drop}
use Rattle.lists.specs.First.{first_of}
use Rattle.book.specs.Soundness.{book_causes}
use Rattle.history.specs.Results.{opened}
use Rattle.stream.specs.declared.Served.{Served}
use Rattle.stream.specs.declared.Next.TheVariants.{Waiting}
use Rattle.stream.specs.Stream.{next}
use Rattle.stream.specs.Serving.{left_served, leaves}
use Rattle.stream.specs.Statement.{Step, Session, begun, input_of, AnswersStream}

-- One call: the bytes that have arrived, the output as found, and what the call answered and left.
pub record ServedRun : Type 0 where
  pub arrived : List ℕ
  pub found : List ℕ
  pub answer : Served
  pub balances : List ℕ
  pub output : List ℕ

-- The call kept the contract of serve, on what a caller held.
abbrev pub Keeps : List ℕ → List ℕ → Bool → Session → ServedRun → Type 0
Keeps calendar tables ended s x =
    left_served x.answer x.balances x.output
    ≡ leaves calendar tables ended s.book s.balances (s.pending ++ x.arrived) x.found

-- What the caller holds after it.
unfoldable pub after_run : Session → ServedRun → Session
after_run s x =
    record {
      pending = drop x.answer.consumed (s.pending ++ x.arrived);
      book = x.answer.book;
      balances = x.balances;
      written = s.written ++ take x.answer.written x.output;
      over = x.answer.over;
    }

-- Calls one behind the other; after a 5 there is none.
unfoldable pub after_runs : Session → List ServedRun → Session
after_runs s [] = s
after_runs s (x ∷ xs) = after_runs (after_run s x) xs

abbrev pub AllKeep : List ℕ → List ℕ → Bool → Session → List ServedRun → Type 0
AllKeep calendar tables ended s [] = Unit {0}
AllKeep calendar tables ended s (x ∷ xs) =
    (s.over ≡ false) × Keeps calendar tables ended s x × AllKeep calendar tables ended (after_run s x) xs

-- After the input has ended no bytes arrive.
abbrev pub NoneArrives : List ServedRun → Type 0
NoneArrives [] = Unit {0}
NoneArrives (x ∷ xs) = (x.arrived ≡ []) × NoneArrives xs

-- The bytes that have arrived and the room of each output.
unfoldable pub steps_of : List ServedRun → List Step
steps_of [] = []
steps_of (x ∷ xs) = record { bytes = x.arrived; room = length x.found } ∷ steps_of xs

-- Every list of calls that keep the contract, from an accepted opening: first those while input arrives, then those after it has ended.
abbrev pub EveryServedStream : Type 0
EveryServedStream = (calendar tables balances : List ℕ) (day : ℕ) → (opened calendar tables balances day).number ≡ 0
    → (runs last : List ServedRun) → AllKeep calendar tables false (begun (opened calendar tables balances day)) runs → NoneArrives last
    → AllKeep calendar tables true (after_runs (begun (opened calendar tables balances day)) runs) last
    → AnswersStream calendar tables day (input_of (steps_of runs)) (after_runs (after_runs (begun (opened calendar tables balances day)) runs) last)

-- What the flag full tells: after a call that kept the contract on a sound book, was not ended by a 5 and did not fill its output, nothing is
-- left that could be worked, so that more input is to be sent; where the output is full, it is to be written away first.
abbrev pub FullTells : Type 0
FullTells = (calendar tables : List ℕ) (ended : Bool) (s : Session) (x : ServedRun)
    → first_of (book_causes calendar tables s.book.day s.balances) ≡ 0 → s.over ≡ false → Keeps calendar tables ended s x
    → x.answer.over ≡ false → x.answer.full ≡ false → Waiting ≡ next ended (after_run s x).pending
