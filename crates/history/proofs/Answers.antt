-- What a call's code shows at each of its returns: a refused call and an accepted one, by the call's number, and that number from
-- the causes that code has judged.
use mathlib.Core.Path.{◌≡◌, refl, sym, ap, ◌∙◌}
use mathlib.Core.Bool.{true}
use mathlib.Core.List.{List}
use Prim.Native.Nat.{ℕ, zero, suc}
use lib.ListN.{length, replicate}
use Rattle.lists.specs.First.{first_of, numbered, none_applies, next_group}
use Rattle.lists.proofs.First.{hit_group}
use Rattle.days.specs.Days.{first_date}
use Rattle.claims.specs.Written.{written}
use Rattle.std.proofs.Common.{Err}
use Rattle.records.specs.declared.Refusal.{Refusal}
use Rattle.records.specs.Refusals.{refusal_number}
use Rattle.records.proofs.Refusals.{refused_number}
use Rattle.book.specs.Answered.{answered}
use Rattle.book.specs.declared.Book.{Book}
use Rattle.book.specs.Soundness.{opening_causes}
use Rattle.book.proofs.Judged.{numbered_book, numbered_lent}
use Rattle.history.specs.Calls.{Call, transfer, close, buffer_of, claims_of}
use Rattle.history.specs.Causes.{call_causes, sound_causes, causes, number_for, opening_number}
use Rattle.history.specs.Results.{next_book, next_balances, result_with, result_for, left, result, left_open, opened_for, opened}

module _ (calendar tables : List ℕ) (book : Book) (balances : List ℕ) (call : Call) where
  -- ---- the number

  numbered_sound : (c : Call) → numbered (sound_causes calendar tables book.day balances c) ≡ true
  unfolding sound_causes
  numbered_sound (transfer a) = numbered_lent calendar tables a.limits a.pieces book.day balances
  numbered_sound (close a) = numbered_book calendar tables book.day balances

  -- a number of the causes before 5
  pub book_refuses : (n : ℕ) → n ≡ first_of (sound_causes calendar tables book.day balances call) → (n ≡ 0 → ⊥) → n ≡ number_for calendar tables book balances call
  unfolding number_for causes
  book_refuses n e d = hit_group (sound_causes calendar tables book.day balances call) (call_causes calendar tables book balances call) e d

  -- where none of them applies, the causes behind them decide
  pub sound_number : (n : ℕ) → first_of (sound_causes calendar tables book.day balances call) ≡ 0
      → n ≡ first_of (call_causes calendar tables book balances call) → n ≡ number_for calendar tables book balances call
  unfolding number_for causes
  sound_number n z e =
      e ∙ sym (next_group (sound_causes calendar tables book.day balances call) (call_causes calendar tables book balances call)
      (none_applies _ (numbered_sound call) z))

  -- ---- the answer

  refused_for : (n : ℕ) → (n ≡ 0 → ⊥)
      → left (record { number = n; book = book; claims = 0 }) (buffer_of call) balances ≡ result_for n calendar tables book balances call
  unfolding result_with left
  refused_for zero d = absurd (d refl)
  refused_for (suc n) d = refl

  -- a refused call answers its number and the book given, and leaves everything as it was
  pub answers_refused : (n : ℕ) → n ≡ number_for calendar tables book balances call → (n ≡ 0 → ⊥)
      → left (record { number = n; book = book; claims = 0 }) (buffer_of call) balances ≡ result calendar tables book balances call
  unfolding result
  answers_refused n e d = refused_for n d ∙ ap (λ (k : ℕ). result_for k calendar tables book balances call) e

  -- a refusal of the book, and one behind it
  pub refused_first : (f : Refusal) → refusal_number f ≡ first_of (sound_causes calendar tables book.day balances call)
      → left (record { number = refusal_number f; book = book; claims = 0 }) (buffer_of call) balances ≡ result calendar tables book balances call
  refused_first f e = answers_refused (refusal_number f) (book_refuses _ e (refused_number f)) (refused_number f)

  pub refused_next : (f : Refusal) → first_of (sound_causes calendar tables book.day balances call) ≡ 0
      → refusal_number f ≡ first_of (call_causes calendar tables book balances call)
      → left (answered book (Err f)) (buffer_of call) balances ≡ result calendar tables book balances call
  unfolding answered
  refused_next f z e = answers_refused (refusal_number f) (sound_number _ z e) (refused_number f)

  -- an accepted call answers 0, the next book and how many claims it wrote
  pub answers_accepted : (b : Book) (k : ℕ) (buffer after : List ℕ) → 0 ≡ number_for calendar tables book balances call
      → b ≡ next_book calendar book call
      → k ≡ length (claims_of calendar tables book balances call)
      → buffer ≡ written (claims_of calendar tables book balances call) (buffer_of call)
      → after ≡ next_balances balances call
      → left (record { number = 0; book = b; claims = k }) buffer after ≡ result calendar tables book balances call
  unfolding result left result_with
  answers_accepted b k buffer after e p q r s =
      (λ i. record { answer = record { number = 0; book = p i; claims = q i; buffer = r i }; balances = s i })
      ∙ ap (λ (n : ℕ). result_for n calendar tables book balances call) e

-- ---- an opening

pub opened_for_number : (n : ℕ) (balances : List ℕ) (day : ℕ) → (opened_for n balances day).number ≡ n
unfolding opened_for
opened_for_number zero balances day = refl
opened_for_number (suc n) balances day = refl

module _ (calendar tables balances : List ℕ) (day : ℕ) where
  pub opened_number : (opened calendar tables balances day).number ≡ opening_number calendar tables balances day
  unfolding opened
  opened_number = opened_for_number (opening_number calendar tables balances day) balances day

  open_refused_for : (n : ℕ) → (n ≡ 0 → ⊥)
      → left_open (record { number = n; book = record { day = first_date; count = 0 }; claims = 0 }) balances ≡ opened_for n balances day
  unfolding opened_for left_open
  open_refused_for zero d = absurd (d refl)
  open_refused_for (suc n) d = refl

  pub opens_refused : (n : ℕ) → n ≡ first_of (opening_causes calendar tables balances day) → (n ≡ 0 → ⊥)
      → left_open (record { number = n; book = record { day = first_date; count = 0 }; claims = 0 }) balances ≡ opened calendar tables balances day
  unfolding opened opening_number
  opens_refused n e d = open_refused_for n d ∙ ap (λ (k : ℕ). opened_for k balances day) e

  pub opens_accepted : (n : ℕ) (after : List ℕ) → n ≡ first_of (opening_causes calendar tables balances day) → n ≡ 0 → after ≡ replicate (length balances) 0
      → left_open (record { number = 0; book = record { day = day; count = 0 }; claims = 0 }) after ≡ opened calendar tables balances day
  unfolding opened opening_number left_open opened_for
  opens_accepted n after e z p =
      (λ i. record { number = 0; book = record { day = day; count = 0 }; balances = p i })
      ∙ ap (λ (k : ℕ). opened_for k balances day) (sym z ∙ e)
