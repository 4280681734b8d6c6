-- What numbers 1 to 4 say where none of them applies: sound calendar, tables, day and balances.
use mathlib.Core.Path.{◌≡◌, refl, sym, ap, ◌∙◌, subst}
use mathlib.Core.Bool.{true, false, not, ◌&&◌, ◌||◌}
use mathlib.Core.List.{List, [], ◌∷◌}
use Prim.Native.Nat.{ℕ, zero, suc, ◌+◌, ◌≤◌, ◌<◌}
use native.Mathlib.Nat.{add-zero, zero-add, add-suc, suc-add, not-suc-le-zero, le_of_suc-le-suc}
use native.Mathlib.Omega.{arith}
use lib.Dec.{eqb, leb}
use lib.ListN.{length, get_or}
use borrow.Author.Tests.{eqb-true, eqb-false, eq-eqb, leb-true, not-false}
use Rattle.lists.specs.Tests.{and_left, and_right, or_false_left, or_false_right}
use Rattle.lists.specs.First.{NoneApplies, first_of, numbered, applies_at, cleared_by, none_applies}
use Rattle.lists.proofs.First.{cleared}
use Rattle.days.specs.Days.{bad_calendar, is_open, open_after}
use Rattle.days.proofs.OpenDays.{Kept}
use Rattle.securities.specs.Lent.{good_limits, good_pieces}
use Rattle.securities.specs.Securities.{good_tables}
use Rattle.securities.proofs.Sound.{five_limits}
use Rattle.book.specs.declared.Position.{Position}
use Rattle.book.specs.Book.{InRange, word, position, balance_at}
use Rattle.book.specs.Soundness.{wrong_length, bad_day, good_balance, good_balances_from, bad_balances, table_causes, state_causes, book_causes, lent_causes, lent_book_causes, opening_causes}
use Rattle.book.proofs.Words.{position_word, word_bound}

-- ---- calendar and tables

pub record SoundTables (calendar tables balances : List ℕ) : Type 0 where
  pub calendar_words_lem : length calendar ≡ 480
  pub table_words_lem : length tables ≡ 1824
  pub balance_words_lem : length balances ≡ 8192
  pub calendar_rule : bad_calendar calendar ≡ false
  pub table_rules : good_tables calendar tables ≡ true

pub kept : {calendar tables balances : List ℕ} → SoundTables calendar tables balances → Kept calendar
kept s = record { words = s.calendar_words_lem; rule = s.calendar_rule }

-- a length that is not wrong
length_is : (n k : ℕ) → not (eqb n k) ≡ false → n ≡ k
length_is n k e = eqb-true n k (not-false (eqb n k) e)

lengths : (calendar tables balances : List ℕ) → wrong_length calendar tables balances ≡ false
    → (length calendar ≡ 480) × (length tables ≡ 1824) × (length balances ≡ 8192)
unfolding wrong_length
lengths calendar tables balances e =
    let ab = or_false_left (not (eqb (length calendar) 480) || not (eqb (length tables) 1824)) (not (eqb (length balances) 8192)) e in (
      length_is (length calendar) 480 (or_false_left _ _ ab),
      length_is (length tables) 1824 (or_false_right (not (eqb (length calendar) 480)) _ ab),
      length_is (length balances) 8192 (or_false_right (not (eqb (length calendar) 480) || not (eqb (length tables) 1824)) _ e),
    )

sound_tables : (calendar tables balances : List ℕ) → wrong_length calendar tables balances ≡ false → bad_calendar calendar ≡ false
    → not (good_tables calendar tables) ≡ false → SoundTables calendar tables balances
sound_tables calendar tables balances a b c =
    let l = lengths calendar tables balances a in
    record {
      calendar_words_lem = l.0;
      table_words_lem = l.1;
      balance_words_lem = l.2;
      calendar_rule = b;
      table_rules = not-false _ c;
    }

-- ---- the day

pub record SoundDay (calendar : List ℕ) (day : ℕ) : Type 0 where
  pub open_day : is_open calendar day ≡ true
  pub next_day : open_after calendar day ≡ 0 → ⊥

pub sound_day : (calendar : List ℕ) (day : ℕ) → bad_day calendar day ≡ false → SoundDay calendar day
unfolding bad_day
sound_day calendar day e =
    record {
      open_day = not-false _ (or_false_left _ _ e);
      next_day = eqb-false _ 0 (or_false_right (not (is_open calendar day)) _ e);
    }

-- ---- the balances

good_at : (w : ℕ) (pars : List ℕ) → good_balances_from w pars ≡ true → (k : ℕ) → k < length pars → good_balance (position (w + k)) (get_or pars k 0) ≡ true
unfolding good_balances_from
good_at w [] e k h = absurd (not-suc-le-zero h)
good_at w (par ∷ pars) e zero h = rw add-zero (and_left _ _ e)
good_at w (par ∷ pars) e (suc k) h =
    subst (λ (n : ℕ). good_balance (position n) (get_or pars k 0) ≡ true) (suc-add w k ∙ sym (add-suc w k))
    (good_at (suc w) pars (and_right (good_balance (position w) par) _ e) k (le_of_suc-le-suc h))

pub record SoundBalances (balances : List ℕ) : Type 0 where
  pub small : (p : Position) → InRange p → balance_at balances p ≤ 9000000000
  pub diagonal : (p : Position) → InRange p → p.lender ≡ p.borrower → balance_at balances p ≡ 0

pub sound_balances : (balances : List ℕ) → length balances ≡ 8192 → bad_balances balances ≡ false → SoundBalances balances
unfolding bad_balances balance_at good_balance
sound_balances balances n e =
    let g = not-false (good_balances_from 0 balances) e in
    record {
      small = λ p r. leb-true _ 9000000000 (and_left _ _ (at p r g));
      diagonal = λ p r q. eqb-true _ 0 (self p (get_or balances (word p) 0) q (and_right (leb (get_or balances (word p) 0) 9000000000) _ (at p r g)));
    }
  where
    at : (p : Position) → InRange p → good_balances_from 0 balances ≡ true
        → (leb (get_or balances (word p) 0) 9000000000 && (not (eqb p.lender p.borrower) || eqb (get_or balances (word p) 0) 0)) ≡ true
    at p r g =
        let k = good_at 0 balances g (word p) (omega (arith, word_bound p r)) in
        subst (λ (q : Position). good_balance q (get_or balances (word p) 0) ≡ true) (ap position (zero-add (word p)) ∙ position_word p r) k

    self : (p : Position) (v : ℕ) → p.lender ≡ p.borrower → (not (eqb p.lender p.borrower) || eqb v 0) ≡ true → eqb v 0 ≡ true
    self p v q h = rw (eq-eqb p.lender p.borrower q) at h

-- ---- all four, by their numbers

pub record SoundBook (calendar tables : List ℕ) (day : ℕ) (balances : List ℕ) : Type 0 where
  pub tables_sound : SoundTables calendar tables balances
  pub day_sound : SoundDay calendar day
  pub balances_sound : SoundBalances balances

pub numbered_book : (calendar tables : List ℕ) (day : ℕ) (balances : List ℕ) → numbered (book_causes calendar tables day balances) ≡ true
unfolding numbered book_causes table_causes state_causes
numbered_book calendar tables day balances = refl

-- number 4 does not apply where none of 1 to 4 does
pub sound_state : (calendar tables : List ℕ) (day : ℕ) (balances : List ℕ) → first_of (book_causes calendar tables day balances) ≡ 0
    → (bad_day calendar day || bad_balances balances) ≡ false
unfolding book_causes table_causes state_causes applies_at
sound_state calendar tables day balances z = cleared 4 (book_causes calendar tables day balances) (numbered_book calendar tables day balances) z

pub numbered_opening : (calendar tables balances : List ℕ) (day : ℕ) → numbered (opening_causes calendar tables balances day) ≡ true
unfolding numbered opening_causes table_causes
numbered_opening calendar tables balances day = refl

pub sound_book : (calendar tables : List ℕ) (day : ℕ) (balances : List ℕ) → NoneApplies (book_causes calendar tables day balances)
    → SoundBook calendar tables day balances
unfolding book_causes table_causes state_causes applies_at
sound_book calendar tables day balances n =
    let cs = book_causes calendar tables day balances in
    let t = sound_tables calendar tables balances (cleared_by 1 cs n) (cleared_by 2 cs n) (cleared_by 3 cs n) in
    let d = cleared_by 4 cs n in
    record {
      tables_sound = t;
      day_sound = sound_day calendar day (or_false_left _ _ d);
      balances_sound = sound_balances balances t.balance_words_lem (or_false_right (bad_day calendar day) _ d);
    }

pub record SoundOpening (calendar tables balances : List ℕ) (day : ℕ) : Type 0 where
  pub tables_sound : SoundTables calendar tables balances
  pub day_sound : SoundDay calendar day

pub sound_opening : (calendar tables balances : List ℕ) (day : ℕ) → NoneApplies (opening_causes calendar tables balances day)
    → SoundOpening calendar tables balances day
unfolding opening_causes table_causes applies_at
sound_opening calendar tables balances day n =
    let cs = opening_causes calendar tables balances day in
    record {
      tables_sound = sound_tables calendar tables balances (cleared_by 1 cs n) (cleared_by 2 cs n) (cleared_by 3 cs n);
      day_sound = sound_day calendar day (cleared_by 4 cs n);
    }

-- where the number of the causes 1 to 4 is 0
pub sound_number : (calendar tables : List ℕ) (day : ℕ) (balances : List ℕ) → first_of (book_causes calendar tables day balances) ≡ 0
    → SoundBook calendar tables day balances
sound_number calendar tables day balances z =
    sound_book calendar tables day balances (none_applies _ (numbered_book calendar tables day balances) z)

-- ---- a transfer, which is lent limits and pieces: numbers 1 to 4, 12 and 13

module _ (calendar tables limits pieces : List ℕ) (day : ℕ) (balances : List ℕ) where
  pub numbered_lent : numbered (lent_book_causes calendar tables limits pieces day balances) ≡ true
  unfolding numbered lent_book_causes table_causes lent_causes state_causes
  numbered_lent = refl

  -- where none of them applies, none of 1 to 4 does
  pub lent_none : NoneApplies (lent_book_causes calendar tables limits pieces day balances) → NoneApplies (book_causes calendar tables day balances)
  unfolding lent_book_causes book_causes table_causes lent_causes state_causes applies_at
  lent_none n =
      let cs = lent_book_causes calendar tables limits pieces day balances in
      (cleared_by 1 cs n, (cleared_by 2 cs n, (cleared_by 3 cs n, (cleared_by 4 cs n, tt))))

  pub lent_sound : first_of (lent_book_causes calendar tables limits pieces day balances) ≡ 0 → SoundBook calendar tables day balances
  lent_sound z = sound_book calendar tables day balances (lent_none (none_applies _ numbered_lent z))

  pub lent_limits : first_of (lent_book_causes calendar tables limits pieces day balances) ≡ 0 → length limits ≡ 5
  unfolding lent_book_causes table_causes lent_causes state_causes applies_at
  lent_limits z = five_limits limits (not-false _ (cleared 12 (lent_book_causes calendar tables limits pieces day balances) numbered_lent z))

  pub lent_pieces_lem : first_of (lent_book_causes calendar tables limits pieces day balances) ≡ 0 → good_pieces pieces ≡ true
  unfolding lent_book_causes table_causes lent_causes state_causes applies_at
  lent_pieces_lem z = not-false _ (cleared 13 (lent_book_causes calendar tables limits pieces day balances) numbered_lent z)

  -- on a sound book good limits and good pieces are sound
  pub sound_lent : first_of (book_causes calendar tables day balances) ≡ 0 → good_limits limits ≡ true → good_pieces pieces ≡ true
      → first_of (lent_book_causes calendar tables limits pieces day balances) ≡ 0
  unfolding lent_book_causes book_causes table_causes lent_causes state_causes applies_at first_of
  sound_lent z g h =
      let cs = book_causes calendar tables day balances in
      let n = none_applies cs (numbered_book calendar tables day balances) z in
      rw (cleared_by 1 cs n, cleared_by 2 cs n, cleared_by 3 cs n, g, h, cleared_by 4 cs n)
