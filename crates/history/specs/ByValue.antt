-- Lists of by-value calls, as a caller makes them. Opening, transfer and close each keep their contract, every call on the book that the
-- last one returned and the balances that it left. Demand 3 holds of every such list, and a history goes on by every such list.
use Rattle.std.specs.Prelude.{◌≡◌, List, [], ◌∷◌, ℕ}
use Rattle.book.specs.declared.Book.{Book}
use Rattle.book.specs.declared.Done.{Done}
use Rattle.history.specs.Calls.{Call}
use Rattle.history.specs.Results.{Result, Run, Gives, left, result, left_open, opened}
use Rattle.history.specs.Ledger.{Ledger, started, book_of, balances_of, judged}
use Rattle.history.specs.Statement.{AgreesWithLedger}
use Rattle.history.specs.Continuation.{SoundLedger, GoesOn}

-- A call of a list: what it answers, and the claim buffer and balances after it.
pub record Step : Type 0 where
  pub done : Done
  pub buffer : List ℕ
  pub balances : List ℕ

-- One step for each call. Each keeps the contract of transfer or close on the book and balances after the last one.
abbrev pub AllKeep : List ℕ → List ℕ → Book → List ℕ → List Call → List Step → Type 0
AllKeep calendar tables book balances [] [] = Unit {0}
AllKeep calendar tables book balances [] (s ∷ steps) = ⊥
AllKeep calendar tables book balances (call ∷ calls) [] = ⊥
AllKeep calendar tables book balances (call ∷ calls) (s ∷ steps) =
    Gives calendar tables book balances call s.done s.buffer s.balances
    × AllKeep calendar tables s.done.book s.balances calls steps

-- The step that a call's result is.
unfoldable pub step_for : Result → Step
step_for r =
    record {
      done = record { number = r.answer.number; book = r.answer.book; claims = r.answer.claims };
      buffer = r.answer.buffer;
      balances = r.balances;
    }

-- The steps of a list of calls, each on what the last one left.
unfoldable pub steps_of : List ℕ → List ℕ → Book → List ℕ → List Call → List Step
steps_of calendar tables book balances [] = []
steps_of calendar tables book balances (call ∷ calls) =
    let s = step_for (result calendar tables book balances call) in
    s ∷ steps_of calendar tables s.done.book s.balances calls

-- Every list of calls has steps that keep the contracts.
abbrev pub EveryListHasSteps : Type 0
EveryListHasSteps = (calendar tables : List ℕ) (book : Book) (balances : List ℕ) (calls : List Call)
    → AllKeep calendar tables book balances calls (steps_of calendar tables book balances calls)

-- What the steps show: each answer, and the book and balances after the list.
unfoldable pub run_of : Book → List ℕ → List Step → Run
run_of book balances [] = record { answers = []; book = book; balances = balances }
run_of book balances (s ∷ steps) =
    let rest = run_of s.done.book s.balances steps in
    record { answers = (left s.done s.buffer s.balances).answer ∷ rest.answers; book = rest.book; balances = rest.balances }

-- Every list of calls that keep their contracts, behind an opening that keeps its own and is accepted, agrees with the ledger of accepted
-- calls.
abbrev pub EveryByValueHistory : Type 0
EveryByValueHistory = (calendar tables balances : List ℕ) (day : ℕ) (start : Done) (cleared : List ℕ)
    → left_open start cleared ≡ opened calendar tables balances day → start.number ≡ 0 → (calls : List Call) (steps : List Step)
    → AllKeep calendar tables start.book cleared calls steps
    → AgreesWithLedger calendar tables day calls (run_of start.book cleared steps) (judged calendar tables (started day) calls)

-- So from a sound ledger on: calls that keep their contracts, the first on the ledger's book and balances, go on as the ledger does.
abbrev pub EveryByValueContinuation : Type 0
EveryByValueContinuation = (calendar tables : List ℕ) (before : Ledger) → SoundLedger before → (calls : List Call) (steps : List Step)
    → AllKeep calendar tables (book_of before) (balances_of before) calls steps
    → GoesOn calendar tables before calls (run_of (book_of before) (balances_of before) steps) (judged calendar tables before calls)
