-- A history that begins in the form with lending alone and goes on behind the move is one history: the opening with repo empty, the list
-- before the move and the list after it are the same calls on one book.
use mathlib.Core.Path.{◌≡◌, refl, sym, ap, ◌∙◌, subst}
use mathlib.Core.Bool.{false, not, ◌||◌}
use mathlib.Core.List.{List, [], ◌∷◌, ◌++◌}
use Prim.Native.Nat.{ℕ}
use lib.Dec.{eqb}
use lib.ListN.{length, replicate, length-replicate, replicate-append-replicate}
use borrow.Author.Tests.{eqb-true, not-false}
use Rattle.lists.specs.Tests.{or_false_right}
use Rattle.lists.specs.First.{first_of, numbered, applies_at, with_test}
use Rattle.lists.proofs.First.{cleared}
use Rattle.book.specs.declared.Book.{Book}
use Rattle.book.specs.Soundness.{wrong_length_for, wrong_length, bad_day, table_causes, book_causes, opening_causes}
use Rattle.book.proofs.Judged.{sound_state}
use Rattle.history.specs.Calls.{Call}
use Rattle.history.specs.Causes.{opening_number}
use Rattle.history.specs.Results.{Run, Opened, result, left_open, opened_for, opened, run, followed_by, run_from}
use Rattle.history.specs.Ledger.{Ledger, started, book_of, balances_of, judged}
use Rattle.history.specs.Statement.{AgreesWithLedger}
use Rattle.history.specs.Continuation.{SoundLedger, GoesOn, Period}
use Rattle.history.proofs.Accepted.{begun}
use Rattle.history.proofs.Answers.{opened_for_number}
use Rattle.history.proofs.StaysSound.{opened_sound}
use Rattle.history.proofs.Theorem.{started_book, started_balances, every_history}
use Rattle.history.proofs.Continuation.{started_sound, all_go_on, every_continuation}
use Rattle.history.proofs.Runs.{run_append, run_sound}
use Rattle.history.proofs.ByValue.{runs_from}
use Rattle.carry_over.specs.CarriedOver.{widened, carried}
use Rattle.carry_over.specs.LendingForm.{lending_run, lending_opened}
use Rattle.carry_over.specs.Statement.{NoRepo, with_repo_empty, CountsBothSides, EveryCarriedHistory, EveryCarriedCall, NoRepoIn, AllCarryOn, EveryCarriedPeriod}
use Rattle.carry_over.proofs.Zeros.{length_widened, bad_widened}
use Rattle.carry_over.proofs.Carried.{carry_clear, number_is, carried_is}
use Rattle.carry_over.proofs.Lists.{every_lending_list, run_words}

-- ---- the opening

module _ (calendar tables words : List ℕ) (day : ℕ) where
  lending_opening : ℕ
  lending_opening = first_of (with_test 1 (wrong_length_for 4096 calendar tables words) (opening_causes calendar tables words day))

  opening_words : lending_opening ≡ 0 → length words ≡ 4096
  unfolding lending_opening with_test opening_causes table_causes numbered applies_at
  opening_words z =
      eqb-true (length words) 4096
      (not-false _
      (or_false_right (not (eqb (length calendar) 480) || not (eqb (length tables) 1824)) _
      (cleared 1 (with_test 1 (wrong_length_for 4096 calendar tables words) (opening_causes calendar tables words day)) refl z)))

  -- with repo empty the opening meets the same number
  opening_widened : length words ≡ 4096 → opening_number calendar tables (widened words) day ≡ lending_opening
  unfolding lending_opening opening_number with_test opening_causes table_causes wrong_length
  opening_widened e = rw (length_widened words e, e)

  opening_number_lem : (lending_opened calendar tables words day).number ≡ 0 → lending_opening ≡ 0
  unfolding lending_opened lending_opening
  opening_number_lem z = sym (opened_for_number lending_opening words day) ∙ z

  -- its book and balances are those of the opening with repo empty
  opening_balances : length words ≡ 4096 → replicate (length (widened words)) 0 ≡ widened (replicate (length words) 0)
  unfolding widened
  opening_balances e = rw (length_widened words e, e) (sym (replicate-append-replicate {A = ℕ} 4096 4096 0))

-- ---- the list before the move

module _ (calendar tables words : List ℕ) (day : ℕ) (z : (lending_opened calendar tables words day).number ≡ 0) where
  abbrev start : Book
  start = record { day = day; count = 0 }

  abbrev zeros : List ℕ
  zeros = replicate (length words) 0

  right_words : length words ≡ 4096
  right_words = opening_words calendar tables words day (opening_number_lem calendar tables words day z)

  -- the opening with repo empty is accepted
  number : opening_number calendar tables (widened words) day ≡ 0
  number = opening_widened calendar tables words day right_words ∙ opening_number_lem calendar tables words day z

  opened_is : opened calendar tables (widened words) day ≡ record { number = 0; book = start; balances = widened zeros }
  unfolding opened opened_for
  opened_is =
      ap (λ (k : ℕ). opened_for k (widened words) day) number
      ∙ ap (λ (l : List ℕ). record { number = 0; book = start; balances = l }) (opening_balances calendar tables words day right_words)

  lending_opened_is : lending_opened calendar tables words day ≡ record { number = 0; book = start; balances = zeros }
  unfolding lending_opened opened_for lending_opening
  lending_opened_is = ap (λ (k : ℕ). opened_for k words day) (opening_number_lem calendar tables words day z)

  zeros_words : length zeros ≡ 4096
  zeros_words = length-replicate {A = ℕ} (length words) 0 ∙ right_words

  module _ (before : List Call) (n : NoRepo before) where
    abbrev r : Run
    r = lending_run calendar tables start zeros before

    -- the list before the move, with repo empty
    run_is : run calendar tables start (widened zeros) before ≡ with_repo_empty r
    run_is = every_lending_list calendar tables start zeros zeros_words before n

    left_sound : first_of (book_causes calendar tables r.book.day (widened r.balances)) ≡ 0
    unfolding with_repo_empty
    left_sound =
        let s : first_of (book_causes calendar tables day (widened zeros)) ≡ 0 =
        subst (λ (o : Opened). first_of (book_causes calendar tables o.book.day o.balances) ≡ 0) opened_is (opened_sound calendar tables (widened words) day number) in
        subst (λ (x : Run). first_of (book_causes calendar tables x.book.day x.balances) ≡ 0) run_is
        (run_sound calendar tables before start (widened zeros) s)

    -- the move is accepted
    move_accepted : (balances : List ℕ) → length balances ≡ 8192 → (carried calendar r.book r.balances balances).number ≡ 0
    move_accepted balances l =
        let s = (begun calendar tables (widened words) day number).tables_sound in
        number_is calendar r.book r.balances balances
        ∙ carry_clear calendar r.book r.balances balances s.calendar_words_lem (run_words calendar tables before start zeros zeros_words) l s.calendar_rule
        (subst (λ b. (bad_day calendar r.book.day || b) ≡ false) (bad_widened r.balances) (sound_state calendar tables r.book.day (widened r.balances) left_sound))

    -- both lists are one
    one_list : (balances : List ℕ) → length balances ≡ 8192 → (after : List Call)
        → run_from calendar tables (opened calendar tables (widened words) day) (before ++ after)
        ≡ followed_by r (run_from calendar tables (carried calendar r.book r.balances balances) after)
    unfolding run_from followed_by with_repo_empty
    one_list balances l after =
        ap (λ (o : Opened). run calendar tables o.book o.balances (before ++ after)) opened_is
        ∙ run_append (result calendar tables) start (widened zeros) before after
        ∙ ap (λ (x : Run). followed_by x (run calendar tables x.book x.balances after)) run_is
        ∙ ap (λ (o : Opened). followed_by r (run calendar tables o.book o.balances after)) (sym (carried_is calendar r.book r.balances balances (move_accepted balances l)))

    both_sides_lem : (balances : List ℕ) → length balances ≡ 8192 → (after : List Call) → CountsBothSides calendar tables day before after balances r
    unfolding opened opened_for
    both_sides_lem balances l after =
        record {
          accepted = move_accepted balances l;
          agrees =
              subst (λ (x : Run). AgreesWithLedger calendar tables day (before ++ after) x (judged calendar tables (started day) (before ++ after)))
              (one_list balances l after)
              (every_history calendar tables (widened words) day (ap (λ (o : Opened). o.number) opened_is) (before ++ after));
        }

pub every_carried_history : EveryCarriedHistory
every_carried_history calendar tables words day z before n balances l after =
    subst (λ (o : Opened). CountsBothSides calendar tables day before after balances (lending_run calendar tables o.book o.balances before))
    (sym (lending_opened_is calendar tables words day z)) (both_sides_lem calendar tables words day z before n balances l after)

pub every_carried_call : EveryCarriedCall
unfolding left_open
every_carried_call calendar tables words day z before n balances l moved filled e after steps all =
    let start = lending_opened calendar tables words day in
    let r = lending_run calendar tables start.book start.balances before in
    let k = every_carried_history calendar tables words day z before n balances l after in (
      ap (λ (o : Opened). o.number) e ∙ k.accepted,
      subst (λ (x : Run). AgreesWithLedger calendar tables day (before ++ after) (followed_by r x) (judged calendar tables (started day) (before ++ after)))
          (sym (runs_from calendar tables moved filled (carried calendar r.book r.balances balances) after steps all e)) k.agrees,
    )

-- ---- calendar and tables that change

all_carry_on : (before : List Period) (ledger : Ledger) → SoundLedger ledger → (book : Book) (saved : List ℕ) → book ≡ book_of ledger
    → widened saved ≡ balances_of ledger → length saved ≡ 4096 → NoRepoIn before → (move balances : List ℕ) (after : List Period)
    → AllCarryOn ledger book saved before move balances after
unfolding with_repo_empty
all_carry_on [] ledger k book saved b l e n move balances after = λ z.
    let c = carried_is move book saved balances z in
    all_go_on after ledger k _ _ (ap (λ (o : Opened). o.book) c ∙ b) (ap (λ (o : Opened). o.balances) c ∙ l)
all_carry_on (p ∷ before) ledger k book saved b l e n move balances after =
    let r = lending_run p.calendar p.tables book saved p.calls in
    let j = judged p.calendar p.tables ledger p.calls in
    let now : GoesOn p.calendar p.tables ledger p.calls (run p.calendar p.tables book (widened saved) p.calls) j =
    rw (b, l) (every_continuation p.calendar p.tables ledger k p.calls) in
    let g : GoesOn p.calendar p.tables ledger p.calls (with_repo_empty r) j =
    subst (λ (x : Run). GoesOn p.calendar p.tables ledger p.calls x j) (every_lending_list p.calendar p.tables book saved e p.calls n.0) now in (
      g,
      all_carry_on before j.ledger g.sound r.book r.balances g.book g.balances
          (run_words p.calendar p.tables p.calls book saved e) n.1 move balances after,
    )

pub every_carried_period : EveryCarriedPeriod
every_carried_period calendar tables words day z before n move balances after =
    subst (λ (o : Opened). AllCarryOn (started day) o.book o.balances before move balances after)
    (sym (lending_opened_is calendar tables words day z))
    (all_carry_on before (started day) (started_sound day) _ _ (started_book [] [] day)
    (sym (opening_balances calendar tables words day (right_words calendar tables words day z))
    ∙ ap (λ (k : ℕ). replicate k 0) (length_widened words (right_words calendar tables words day z)) ∙ started_balances [] [] day)
    (zeros_words calendar tables words day z) n move balances after)
