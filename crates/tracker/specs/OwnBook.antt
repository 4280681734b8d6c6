-- Lists of calls in the second form. Each call keeps its contract on the caller's own book and balances as the last one left them.
-- Demand 3 holds of such a list as it holds of the by-value calls. A transfer of the second form has the published limits and pieces of its
-- own; a transfer with other limits, by value, may stand in the list too, if the caller's book becomes the one that it returns.
use Rattle.std.specs.Prelude.{◌≡◌, List, [], ◌∷◌, ℕ}
use Rattle.book.specs.declared.Book.{Book}
use Rattle.history.specs.Calls.{Call}
use Rattle.history.specs.Results.{Result, Run, Gives, left, result, run, opened}
use Rattle.history.specs.Ledger.{started, judged}
use Rattle.history.specs.Statement.{AgreesWithLedger}
use Rattle.tracker.specs.declared.own_book.Reply.{Reply}
use Rattle.tracker.specs.Forms.{together}

-- A call of a list: its reply, and the caller's book, claim buffer and balances after it.
pub record Step : Type 0 where
  pub reply : Reply
  pub book : Book
  pub buffer : List ℕ
  pub balances : List ℕ

-- One step for each call. Each keeps the call's contract on the book and balances that the last one left.
abbrev pub AllKeep : List ℕ → List ℕ → Book → List ℕ → List Call → List Step → Type 0
AllKeep calendar tables book balances [] [] = Unit {0}
AllKeep calendar tables book balances [] (s ∷ steps) = ⊥
AllKeep calendar tables book balances (call ∷ calls) [] = ⊥
AllKeep calendar tables book balances (call ∷ calls) (s ∷ steps) =
    Gives calendar tables book balances call (together s.reply s.book) s.buffer s.balances
    × AllKeep calendar tables s.book s.balances calls steps

-- The step that a call's result is.
unfoldable pub step_for : Result → Step
step_for r =
    record {
      reply = record { number = r.answer.number; claims = r.answer.claims };
      book = r.answer.book;
      buffer = r.answer.buffer;
      balances = r.balances;
    }

-- The steps of a list of calls, each on what the last one left.
unfoldable pub steps_of : List ℕ → List ℕ → Book → List ℕ → List Call → List Step
steps_of calendar tables book balances [] = []
steps_of calendar tables book balances (call ∷ calls) =
    let s = step_for (result calendar tables book balances call) in
    s ∷ steps_of calendar tables s.book s.balances calls

-- Every list of calls has steps that keep the contracts.
abbrev pub EveryListHasSteps : Type 0
EveryListHasSteps = (calendar tables : List ℕ) (book : Book) (balances : List ℕ) (calls : List Call)
    → AllKeep calendar tables book balances calls (steps_of calendar tables book balances calls)

-- What the steps show: each answer, and the caller's book and balances after the list.
unfoldable pub run_of : Book → List ℕ → List Step → Run
run_of book balances [] = record { answers = []; book = book; balances = balances }
run_of book balances (s ∷ steps) =
    let rest = run_of s.book s.balances steps in
    record {
      answers = (left (together s.reply s.book) s.buffer s.balances).answer ∷ rest.answers;
      book = rest.book;
      balances = rest.balances;
    }

-- Such a list runs as the list of by-value calls.
abbrev pub RunsAlike : Type 0
RunsAlike = (calendar tables : List ℕ) (book : Book) (balances : List ℕ) (calls : List Call) (steps : List Step)
    → AllKeep calendar tables book balances calls steps → run_of book balances steps ≡ run calendar tables book balances calls

-- Every list of calls in the second form from an accepted opening agrees with the ledger of accepted calls.
abbrev pub EveryOwnBookHistory : Type 0
EveryOwnBookHistory = (calendar tables balances : List ℕ) (day : ℕ) → (opened calendar tables balances day).number ≡ 0
    → (calls : List Call) (steps : List Step)
    → AllKeep calendar tables (opened calendar tables balances day).book (opened calendar tables balances day).balances calls steps
    → AgreesWithLedger calendar tables day calls
    (run_of (opened calendar tables balances day).book (opened calendar tables balances day).balances steps)
    (judged calendar tables (started day) calls)
