-- A list of by-value calls that keep their contracts runs as the definitions do, so the theorems about every list of calls hold of it;
-- and every list of calls has such steps.
use mathlib.Core.Path.{◌≡◌, refl, sym, ap, ◌∙◌, subst}
use mathlib.Core.List.{List, [], ◌∷◌}
use Prim.Native.Nat.{ℕ}
use Rattle.book.specs.declared.Book.{Book}
use Rattle.book.specs.declared.Done.{Done}
use Rattle.history.specs.Calls.{Call}
use Rattle.history.specs.Results.{Result, Run, Opened, left, result, left_open, opened, run_by, run, run_from}
use Rattle.history.specs.Ledger.{started, book_of, balances_of, judged}
use Rattle.history.specs.Statement.{AgreesWithLedger}
use Rattle.history.specs.Continuation.{GoesOn}
use Rattle.history.specs.ByValue.{Step, AllKeep, step_for, steps_of, EveryListHasSteps, run_of, EveryByValueHistory, EveryByValueContinuation}
use Rattle.history.proofs.Theorem.{every_history}
use Rattle.history.proofs.Continuation.{every_continuation}

-- a run that goes on from an answer
from : Result → Run → Run
from now rest = record { answers = now.answer ∷ rest.answers; book = rest.book; balances = rest.balances }

module _ (calendar tables : List ℕ) where
  runs_alike : (book : Book) (balances : List ℕ) (calls : List Call) (steps : List Step) → AllKeep calendar tables book balances calls steps
      → run_of book balances steps ≡ run calendar tables book balances calls
  unfolding run_of run_by left from
  runs_alike book balances [] [] all = refl
  runs_alike book balances [] (s ∷ steps) all = absurd all
  runs_alike book balances (call ∷ calls) [] all = absurd all
  runs_alike book balances (call ∷ calls) (s ∷ steps) all =
      ap (from (left s.done s.buffer s.balances)) (runs_alike s.done.book s.balances calls steps all.1)
      ∙ ap (λ now. from now (run calendar tables now.answer.book now.balances calls)) all.0

  -- behind an opening that keeps its contract
  pub runs_from : (start : Done) (cleared : List ℕ) (o : Opened) (calls : List Call) (steps : List Step)
      → AllKeep calendar tables start.book cleared calls steps → left_open start cleared ≡ o
      → run_of start.book cleared steps ≡ run_from calendar tables o calls
  unfolding run_from left_open
  runs_from start cleared o calls steps all e =
      runs_alike start.book cleared calls steps all ∙ ap (λ (o : Opened). run calendar tables o.book o.balances calls) e

pub every_list_has_steps : EveryListHasSteps
unfolding steps_of step_for left
every_list_has_steps calendar tables book balances [] = tt
every_list_has_steps calendar tables book balances (call ∷ calls) =
    let now = result calendar tables book balances call in
    (refl, every_list_has_steps calendar tables now.answer.book now.balances calls)

pub every_by_value_history : EveryByValueHistory
unfolding left_open
every_by_value_history calendar tables balances day start cleared e accepted calls steps all =
    subst (λ r. AgreesWithLedger calendar tables day calls r (judged calendar tables (started day) calls))
    (sym (runs_from calendar tables start cleared (opened calendar tables balances day) calls steps all e))
    (every_history calendar tables balances day (sym (ap (λ (o : Opened). o.number) e) ∙ accepted) calls)

pub every_by_value_continuation : EveryByValueContinuation
every_by_value_continuation calendar tables before k calls steps all =
    subst (λ r. GoesOn calendar tables before calls r (judged calendar tables before calls))
    (sym (runs_alike calendar tables (book_of before) (balances_of before) calls steps all))
    (every_continuation calendar tables before k calls)
