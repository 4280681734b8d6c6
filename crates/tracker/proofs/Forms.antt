-- The two forms agree, a refused call leaves the caller's book, and an accepted one counts or moves the day; a list of calls in the
-- second form runs as the list of by-value calls, so the theorem about every list of calls holds of it.
use mathlib.Core.Path.{◌≡◌, refl, sym, ap, ◌∙◌, subst}
use mathlib.Core.Logic.{◌≢◌}
use mathlib.Core.List.{List, [], ◌∷◌}
use Prim.Native.Nat.{ℕ, zero, suc}
use native.Mathlib.Omega.{arith}
use Rattle.claims.specs.Fails.{maximum_numbers}
use Rattle.book.specs.declared.Book.{Book}
use Rattle.book.specs.declared.Done.{Done}
use Rattle.history.specs.Calls.{Call, transfer, close, buffer_of}
use Rattle.history.specs.Causes.{number_for}
use Rattle.history.specs.Results.{Result, Run, left, result, result_with, result_for, next_book, run_by, run, run_from, opened}
use Rattle.history.specs.Ledger.{started, judged}
use Rattle.history.specs.Statement.{AgreesWithLedger}
use Rattle.history.proofs.Theorem.{every_history}
use Rattle.tracker.specs.declared.own_book.Reply.{Reply}
use Rattle.tracker.specs.Forms.{together, Same, FormsAgree, PublishedFormAgrees, AsItWas, RefusedLeaves, AcceptedTransferCounts, AcceptedCloseMoves}
use Rattle.tracker.specs.OwnBook.{step_for, steps_of, run_of, EveryListHasSteps, RunsAlike, EveryOwnBookHistory}

-- What a result says as an answer.
answered : Result → Done
answered r = record { number = r.answer.number; book = r.answer.book; claims = r.answer.claims }

-- what is left alike is the same
left_same : {d d' : Done} {buffer after buffer' after' : List ℕ} → left d buffer after ≡ left d' buffer' after' → Same d buffer after d' buffer' after'
unfolding left answered
left_same both =
    record { answer = ap answered both; buffer_same = ap (λ x. x.answer.buffer) both; balances_same = ap (λ x. x.balances) both }

pub forms_agree : FormsAgree
forms_agree calendar tables book balances call d buffer after r own buffer' after' e e' = left_same (e ∙ sym e')

pub published_form : PublishedFormAgrees
unfolding maximum_numbers
published_form calendar tables pieces book balances message found d d' buffer after buffer' after' e e' = left_same (e ∙ sym e')

module _ (calendar tables : List ℕ) (book : Book) (balances : List ℕ) where
  refused_for : (n : ℕ) (call : Call) (r : Reply) (own : Book) (buffer after : List ℕ)
      → left (together r own) buffer after ≡ result_for n calendar tables book balances call → r.number ≢ 0
      → AsItWas book own (buffer_of call) buffer balances after r.claims
  unfolding left result_with
  refused_for zero call r own buffer after e refused = absurd (refused (ap (λ x. x.answer.number) e))
  refused_for (suc n) call r own buffer after e refused = record {
    book_kept = ap (λ x. x.answer.book) e;
    buffer_kept = ap (λ x. x.answer.buffer) e;
    balances_kept = ap (λ x. x.balances) e;
    none_written = ap (λ x. x.answer.claims) e;
  }

  accepted_for : (n : ℕ) (call : Call) (r : Reply) (own : Book) (buffer after : List ℕ)
      → left (together r own) buffer after ≡ result_for n calendar tables book balances call → r.number ≡ 0
      → own ≡ next_book calendar book call
  unfolding left result_with
  accepted_for zero call r own buffer after e accepted = ap (λ x. x.answer.book) e
  accepted_for (suc n) call r own buffer after e accepted =
      let n_zero : suc n ≡ 0 = sym (ap (λ x. x.answer.number) e) ∙ accepted in absurd (omega arith)

pub refused_leaves : RefusedLeaves
unfolding result
refused_leaves calendar tables book balances call r own buffer after e =
    refused_for calendar tables book balances (number_for calendar tables book balances call) call r own buffer after e

pub accepted_transfer_counts : AcceptedTransferCounts
unfolding result next_book
accepted_transfer_counts calendar tables book balances a r own buffer after e accepted =
    let n = number_for calendar tables book balances (transfer a) in
    let next = accepted_for calendar tables book balances n (transfer a) r own buffer after e accepted in
    (ap (λ b. b.count) next, ap (λ b. b.day) next)

pub accepted_close_moves : AcceptedCloseMoves
unfolding result next_book
accepted_close_moves calendar tables book balances a r own buffer after e accepted =
    let n = number_for calendar tables book balances (close a) in
    let next = accepted_for calendar tables book balances n (close a) r own buffer after e accepted in
    (ap (λ b. b.day) next, ap (λ b. b.count) next)

-- ---- lists of calls

-- A run that goes on from an answer.
from : Result → Run → Run
from now rest = record { answers = now.answer ∷ rest.answers; book = rest.book; balances = rest.balances }

pub runs_alike : RunsAlike
unfolding run_of run_by left from
runs_alike calendar tables book balances [] [] all = refl
runs_alike calendar tables book balances [] (s ∷ steps) all = absurd all
runs_alike calendar tables book balances (call ∷ calls) [] all = absurd all
runs_alike calendar tables book balances (call ∷ calls) (s ∷ steps) all =
    ap (from (left (together s.reply s.book) s.buffer s.balances)) (runs_alike calendar tables s.book s.balances calls steps all.1)
    ∙ ap (λ now. from now (run calendar tables now.answer.book now.balances calls)) all.0

pub every_list_has_steps : EveryListHasSteps
unfolding steps_of step_for left
every_list_has_steps calendar tables book balances [] = tt
every_list_has_steps calendar tables book balances (call ∷ calls) =
    let now = result calendar tables book balances call in
    (refl, every_list_has_steps calendar tables now.answer.book now.balances calls)

pub every_own_book_history : EveryOwnBookHistory
unfolding run_from
every_own_book_history calendar tables balances day begun calls steps all =
    let start = opened calendar tables balances day in
    subst (λ r. AgreesWithLedger calendar tables day calls r (judged calendar tables (started day) calls))
    (sym (runs_alike calendar tables start.book start.balances calls steps all)) (every_history calendar tables balances day begun calls)
