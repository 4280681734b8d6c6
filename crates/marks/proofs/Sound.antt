-- The states that lists of calls leave are sound, and their counts have 32 bits. On such a state setting a mark is accepted, and the words of a
-- mark that was set on one can be gone back to.
use mathlib.Core.Path.{◌≡◌, refl, sym, ◌∙◌}
use mathlib.Core.Bool.{Bool, true, false, cond, not, ◌||◌}
use mathlib.Core.List.{List, [], ◌∷◌}
use Prim.Native.Nat.{ℕ, zero, suc, ◌≤◌}
use native.Mathlib.Omega.{arith}
use lib.ListN.{length}
use borrow.Author.Tests.{eq-eqb, le-ltb}
use Rattle.lists.specs.First.{first_of, first_group, next_group, none_applies}
use Rattle.book.specs.declared.Book.{Book}
use Rattle.book.specs.Soundness.{state_causes, book_causes, present_causes}
use Rattle.book.proofs.Causes.{present_state, numbered_present}
use Rattle.book.proofs.Judged.{sound_state, sound_number}
use Rattle.history.specs.Calls.{Call, transfer, close}
use Rattle.history.specs.Causes.{number_for}
use Rattle.history.specs.Results.{next_book, result_with, result_for, result, run_by, run}
use Rattle.history.proofs.Accepted.{taken}
use Rattle.history.proofs.Runs.{run_sound}
use Rattle.marks.specs.Marks.{is_mark, mark_in, is_set, day_in, count_in, balances_in, words_for, store_causes, bad_mark, saved_causes, set_causes, return_causes, set_number, return_number}
use Rattle.marks.proofs.Numbers.{numbered_set}

-- ---- sound states

pub record Good (calendar tables : List ℕ) (book : Book) (balances : List ℕ) : Type 0 where
  pub sound : first_of (book_causes calendar tables book.day balances) ≡ 0
  pub counted : book.count ≤ 4294967295

module _ (calendar tables : List ℕ) where
  counted_call : (book : Book) (balances : List ℕ) (call : Call) (n : ℕ) → number_for calendar tables book balances call ≡ n
      → book.count ≤ 4294967295 → (result_for n calendar tables book balances call).answer.book.count ≤ 4294967295
  unfolding result_with next_book
  counted_call book balances (transfer a) zero e h = omega (arith, (taken calendar tables book balances a e).count)
  counted_call book balances (close a) zero e h = h
  counted_call book balances call (suc n) e h = h

  run_counted : (calls : List Call) (book : Book) (balances : List ℕ) → book.count ≤ 4294967295
      → (run calendar tables book balances calls).book.count ≤ 4294967295
  unfolding run_by result
  run_counted [] book balances h = h
  run_counted (call ∷ calls) book balances h =
      run_counted calls _ _ (counted_call book balances call (number_for calendar tables book balances call) refl h)

  pub good_run : (calls : List Call) (book : Book) (balances : List ℕ) → Good calendar tables book balances
      → (let r = run calendar tables book balances calls in Good calendar tables r.book r.balances)
  good_run calls book balances g =
      record { sound = run_sound calendar tables calls book balances g.sound; counted = run_counted calls book balances g.counted }

  -- ---- the numbers on a sound state

  module _ (book : Book) (balances : List ℕ) (g : Good calendar tables book balances) where
    pub good_balances : length balances ≡ 8192
    good_balances = (sound_number calendar tables book.day balances g.sound).tables_sound.balance_words_lem

    good_present : first_of (present_causes calendar book.day balances) ≡ 0
    unfolding state_causes first_of
    good_present =
        let s = (sound_number calendar tables book.day balances g.sound).tables_sound in
        sym (present_state calendar book.day balances s.calendar_words_lem s.balance_words_lem s.calendar_rule (rw (sound_state calendar tables book.day balances g.sound)))

    behind : (store : List ℕ) (k : ℕ) → length store ≡ 32780 → first_of (set_causes calendar book.day balances store k) ≡ cond (is_mark k) 0 16
    unfolding set_causes store_causes first_of
    behind store k e =
        next_group (present_causes calendar book.day balances) (store_causes store k) (none_applies _ (numbered_present calendar book.day balances) good_present)
        ∙ rw (eq-eqb (length store) 32780 e) (go (is_mark k))
      where
        go : (b : Bool) → ◌≡◌ {A = ℕ} (cond (not b || not true) 16 0) (cond b 0 16)
        go true = refl
        go false = refl

    pub set_number_lem : (store : List ℕ) (k : ℕ) → length store ≡ 32780 → set_number calendar book balances store k ≡ cond (is_mark k) 0 16
    unfolding set_number
    set_number_lem store k e = behind store k e

    pub return_outside : (store : List ℕ) (k : ℕ) → length store ≡ 32780 → is_mark k ≡ false → return_number calendar book balances store k ≡ 16
    unfolding return_number return_causes
    return_outside store k e m =
        let n : first_of (set_causes calendar book.day balances store k) ≡ 16 = behind store k e ∙ rw m in
        first_group (set_causes calendar book.day balances store k) (saved_causes calendar (mark_in store k)) (λ z. omega (arith, n, z)) ∙ n

    pub return_mark : (store : List ℕ) (k : ℕ) → length store ≡ 32780 → is_mark k ≡ true
        → return_number calendar book balances store k ≡ cond (bad_mark calendar (mark_in store k)) 17 0
    unfolding return_number return_causes saved_causes first_of
    return_mark store k e m =
        let n : first_of (set_causes calendar book.day balances store k) ≡ 0 = behind store k e ∙ rw m in
        next_group (set_causes calendar book.day balances store k) (saved_causes calendar (mark_in store k)) (none_applies _ (numbered_set calendar book.day balances store k) n)

    -- the words of a mark set on this state
    pub words_good : bad_mark calendar (words_for book balances) ≡ false
    unfolding bad_mark words_for is_set count_in day_in balances_in
    words_good = rw (le-ltb 4294967295 book.count g.counted) (sound_state calendar tables book.day balances g.sound)

-- an unset mark
pub unset_bad : (calendar words : List ℕ) → is_set words ≡ false → bad_mark calendar words ≡ true
unfolding bad_mark
unset_bad calendar words e = rw e
