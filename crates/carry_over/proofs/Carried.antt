-- What the code of the move gives: the answer that its number says, and what number 0 says of the lengths.
use mathlib.Core.Path.{◌≡◌, refl, sym, ap, ◌∙◌}
use mathlib.Core.Bool.{false, not, ◌||◌}
use mathlib.Core.List.{List}
use Prim.Native.Nat.{ℕ, zero, suc}
use lib.Dec.{eqb}
use lib.ListN.{length}
use borrow.Author.Tests.{eqb-true, not-false}
use Rattle.lists.specs.Tests.{or_false_left, or_false_right}
use Rattle.lists.specs.First.{numbered, applies_at, skip, none}
use Rattle.lists.proofs.First.{cleared}
use Rattle.days.specs.Days.{bad_calendar}
use Rattle.book.specs.declared.Book.{Book}
use Rattle.book.specs.Soundness.{bad_day, bad_balances, state_causes, wrong_carry, carry_causes}
use Rattle.book.proofs.Causes.{carry_state}
use Rattle.history.specs.Results.{left_open}
use Rattle.carry_over.specs.CarriedOver.{widened, carry_number, carried_for, carried}

module _ (calendar : List ℕ) (book : Book) (saved balances : List ℕ) where
  -- ---- the lengths

  right_lengths : carry_number calendar book saved balances ≡ 0
      → (not (eqb (length calendar) 480) || not (eqb (length saved) 4096) || not (eqb (length balances) 8192)) ≡ false
  unfolding carry_number carry_causes wrong_carry state_causes numbered applies_at
  right_lengths e = cleared 1 (carry_causes calendar book.day saved balances) refl e

  pub saved_words : carry_number calendar book saved balances ≡ 0 → length saved ≡ 4096
  saved_words e =
      eqb-true (length saved) 4096 (not-false _ (or_false_right (not (eqb (length calendar) 480)) _ (or_false_left _ (not (eqb (length balances) 8192)) (right_lengths e))))

  pub filled_words : carry_number calendar book saved balances ≡ 0 → length balances ≡ 8192
  filled_words e =
      eqb-true (length balances) 8192 (not-false _ (or_false_right (not (eqb (length calendar) 480) || not (eqb (length saved) 4096)) _ (right_lengths e)))

  -- ---- the number

  -- it is 0 where lengths, calendar, day and saved balances are right
  pub carry_clear : length calendar ≡ 480 → length saved ≡ 4096 → length balances ≡ 8192 → bad_calendar calendar ≡ false
      → (bad_day calendar book.day || bad_balances saved) ≡ false → carry_number calendar book saved balances ≡ 0
  unfolding carry_number state_causes
  carry_clear a b c d f = sym (carry_state calendar book.day saved balances a b c d (skip 4 _ f none))

  number_for_lem : (n : ℕ) → (carried_for n book saved balances).number ≡ n
  unfolding carried_for
  number_for_lem zero = refl
  number_for_lem (suc n) = refl

  pub number_is : (carried calendar book saved balances).number ≡ carry_number calendar book saved balances
  unfolding carried
  number_is = number_for_lem (carry_number calendar book saved balances)

  -- accepted, the book is the one given and the balances are the saved ones with repo empty
  pub carried_is : (carried calendar book saved balances).number ≡ 0
      → carried calendar book saved balances ≡ record { number = 0; book = book; balances = widened saved }
  unfolding carried carried_for
  carried_is z = ap (λ (n : ℕ). carried_for n book saved balances) (sym number_is ∙ z)

  -- ---- the answers

  refused_for : (n : ℕ) → (n ≡ 0 → ⊥) → left_open (record { number = n; book = book; claims = 0 }) balances ≡ carried_for n book saved balances
  unfolding carried_for left_open
  refused_for zero d = absurd (d refl)
  refused_for (suc n) d = refl

  pub carry_refused : (n : ℕ) → n ≡ carry_number calendar book saved balances → (n ≡ 0 → ⊥)
      → left_open (record { number = n; book = book; claims = 0 }) balances ≡ carried calendar book saved balances
  unfolding carried
  carry_refused n e d = refused_for n d ∙ ap (λ (k : ℕ). carried_for k book saved balances) e

  -- the saved words before cleared ones
  pub carry_accepted : (after : List ℕ) → 0 ≡ carry_number calendar book saved balances → after ≡ widened saved
      → left_open (record { number = 0; book = book; claims = 0 }) after ≡ carried calendar book saved balances
  unfolding carried left_open carried_for
  carry_accepted after e p = (λ i. record { number = 0; book = book; balances = p i }) ∙ ap (λ (k : ℕ). carried_for k book saved balances) e
