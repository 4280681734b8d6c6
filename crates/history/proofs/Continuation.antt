-- A history goes on from any sound ledger: the laws of every list of calls hold from any ledger on, and what is owed by the entries since
-- then is what is owed by all less what is owed by those before.
use mathlib.Core.Path.{◌≡◌, refl, ap}
use mathlib.Core.Bool.{Bool}
use mathlib.Core.List.{List, [], ◌∷◌, ◌++◌}
use Prim.Native.Nat.{ℕ, zero, suc, ◌+◌}
use native.Mathlib.Nat.{zero-add}
use native.Mathlib.Omega.{arith}
use Rattle.securities.specs.declared.Row.{Row}
use Rattle.claims.specs.Amounts.{Part}
use Rattle.claims.specs.declared.Parties.{Parties}
use Rattle.book.specs.declared.Book.{Book}
use Rattle.history.specs.Calls.{Call}
use Rattle.history.specs.Causes.{number_for, opening_number}
use Rattle.history.specs.Results.{run, opened_for, opened}
use Rattle.history.specs.Ledger.{Entry, Ledger, started, book_of, balances_of, keep, number_on, judged}
use Rattle.history.specs.Owed.{owed}
use Rattle.history.specs.Statement.{records_in, paid, of_type_and_row, of_row, of_all}
use Rattle.history.specs.Continuation.{owed_since, SoundLedger, GoesOn, EveryContinuation, Period, AllGoOn, EveryPeriod}
use Rattle.history.proofs.Accepted.{begun}
use Rattle.history.proofs.Simulation.{Inside, inside_step, follows}
use Rattle.history.proofs.Once.{Passed, with_entry, passed_step, passed_none}
use Rattle.history.proofs.Theorem.{read_all, found_all, paid_all, stored_lent, started_inside, started_book, started_balances, started_covered}

module _ (calendar tables : List ℕ) where
  -- ---- what is owed since then

  module _ (part : Part) (claim_test : ℕ → ℕ → Bool) (x : Parties) where
    owed_since_lem : (before since : List Entry)
        → owed_since calendar tables part claim_test before since x + owed calendar tables part claim_test before x
        ≡ owed calendar tables part claim_test (since ++ before) x
    unfolding owed_since owed
    owed_since_lem before [] = zero-add _
    owed_since_lem before (e ∷ since) = omega (arith, owed_since_lem before since)

    paid_since : (calls : List Call) (before : Ledger) (since : List Entry) → Inside before.entries
        → (judged calendar tables before calls).ledger.entries ≡ since ++ before.entries
        → paid part claim_test (records_in (judged calendar tables before calls).answers) x
        ≡ owed_since calendar tables part claim_test before.entries since x
    paid_since calls before since h e =
        omega (
          arith,
          paid_all calendar tables part claim_test x calls before h,
          owed_since_lem before.entries since,
          ap (λ (es : List Entry). owed calendar tables part claim_test es x) e,
        )

  -- ---- the entries since then

  -- those that a list of calls adds to some
  unfoldable since_from : List Call → Ledger → List Entry → List Entry
  since_from [] t es = es
  since_from (call ∷ calls) t es =
      let n = number_for calendar tables (book_of t) (balances_of t) call in
      since_from calls (keep n calendar t call) (with_entry n t call es)

  with_entry_lem : (t : Ledger) (call : Call) (es before : List Entry) (n : ℕ) → t.entries ≡ es ++ before
      → (keep n calendar t call).entries ≡ with_entry n t call es ++ before
  unfolding keep with_entry
  with_entry_lem t call es before zero e = ap (λ (l : List Entry). record { day = t.day; call = call } ∷ l) e
  with_entry_lem t call es before (suc n) e = e

  since_grows : (calls : List Call) (t : Ledger) (es before : List Entry) → t.entries ≡ es ++ before
      → (judged calendar tables t calls).ledger.entries ≡ since_from calls t es ++ before
  unfolding judged number_on since_from
  since_grows [] t es before e = e
  since_grows (call ∷ calls) t es before e =
      let n = number_for calendar tables (book_of t) (balances_of t) call in
      since_grows calls (keep n calendar t call) (with_entry n t call es) before (with_entry_lem t call es before n e)

  since_passed : (start : ℕ) (row : Row) (calls : List Call) (t : Ledger) (es : List Entry)
      → Passed calendar start (record { day = t.day; entries = es }) row
      → Passed calendar start (record { day = (judged calendar tables t calls).ledger.day; entries = since_from calls t es }) row
  unfolding judged number_on since_from
  since_passed start row [] t es h = h
  since_passed start row (call ∷ calls) t es h =
      let n = number_for calendar tables (book_of t) (balances_of t) call in
      since_passed start row calls (keep n calendar t call) (with_entry n t call es) (passed_step calendar tables start row t es call n (λ z. z) h)

  inside_all : (calls : List Call) (t : Ledger) → Inside t.entries → Inside (judged calendar tables t calls).ledger.entries
  unfolding judged number_on
  inside_all [] t h = h
  inside_all (call ∷ calls) t h =
      let n = number_for calendar tables (book_of t) (balances_of t) call in
      inside_all calls (keep n calendar t call) (inside_step calendar tables t call n h (λ z. z))

pub every_continuation : EveryContinuation
unfolding balances_of
every_continuation calendar tables before k calls =
    let f = follows calendar tables calls before k.covered k.balanced_before in
    let j = judged calendar tables before calls in
    let s = since_from calendar tables calls before [] in
    let g = since_grows calendar tables calls before [] before.entries refl in
    record {
      since = s;
      grows = g;
      sound = record { covered = f.covered; inside = inside_all calendar tables calls before k.inside; balanced_before = f.before };
      answers = f.answers;
      buffers = rw f.answers (found_all calendar tables calls before);
      book = f.book;
      balances = f.balances;
      lent = λ p h. omega (arith, stored_lent calendar tables _ j.ledger.entries p h f.balances (f.covered p));
      readable = rw f.answers (read_all calendar tables calls before);
      type_payments = λ part x claim_type row. rw f.answers (paid_since calendar tables part (of_type_and_row claim_type row) x calls before s k.inside g);
      row_payments = λ part x row. rw f.answers (paid_since calendar tables part (of_row row) x calls before s k.inside g);
      payments = λ part x. rw f.answers (paid_since calendar tables part of_all x calls before s k.inside g);
      crossed_once = λ row.
          let c = (since_passed calendar tables before.day row calls before [] (passed_none calendar tables before.day row)).crossed_once in
          record {
            within = λ x y. c.within (omega arith) (omega arith);
            early = λ x. c.early (omega arith);
            late = λ x. c.late (omega arith);
          };
    }

-- ---- calendar and tables that change

pub started_sound : (day : ℕ) → SoundLedger (started day)
started_sound day =
    record { covered = started_covered [] [] day; inside = started_inside [] [] day; balanced_before = unfold started in tt }

pub all_go_on : (periods : List Period) (before : Ledger) → SoundLedger before → (book : Book) (balances : List ℕ)
    → book ≡ book_of before → balances ≡ balances_of before → AllGoOn before book balances periods
all_go_on [] before k book balances b l = tt
all_go_on (p ∷ periods) before k book balances b l =
    let j = judged p.calendar p.tables before p.calls in
    let g : GoesOn p.calendar p.tables before p.calls (run p.calendar p.tables book balances p.calls) j =
    rw (b, l) (every_continuation p.calendar p.tables before k p.calls) in
    (g, all_go_on periods j.ledger g.sound _ _ g.book g.balances)

opened_goes_on : (calendar tables balances : List ℕ) (day n : ℕ) → opening_number calendar tables balances day ≡ n
    → (opened_for n balances day).number ≡ 0 → (periods : List Period)
    → AllGoOn (started day) (opened_for n balances day).book (opened_for n balances day).balances periods
unfolding opened_for
opened_goes_on calendar tables balances day zero e z periods =
    let w = (begun calendar tables balances day e).tables_sound.balance_words_lem in
    all_go_on periods (started day) (started_sound day) _ _ (started_book [] [] day) (rw w (started_balances [] [] day))
opened_goes_on calendar tables balances day (suc n) e z periods = absurd (omega arith)

pub every_period : EveryPeriod
unfolding opened
every_period calendar tables balances day e periods =
    opened_goes_on calendar tables balances day (opening_number calendar tables balances day) refl e periods
