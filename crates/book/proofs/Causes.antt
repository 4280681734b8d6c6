-- The laws of the code that gives the numbers 1 to 4: each test of the code decides one cause, and what the loop over the balances keeps.
use mathlib.Core.Path.{◌≡◌, refl, sym, ap, ◌∙◌}
use mathlib.Core.Bool.{Bool, true, false, cond, not, ◌&&◌, ◌||◌}
use mathlib.Core.List.{List}
use Prim.Native.Nat.{ℕ, ◌+◌, ◌≤◌, ◌<◌}
use native.Mathlib.Numerals.{add-one}
use native.Mathlib.Omega.{arith}
use lib.Dec.{eqb}
use lib.ListN.{length, get_or, drop, drop_of_length-le}
use lib.Seq.{drop-cons}
use borrow.Author.Tests.{eqb-true, eq-eqb, ne_eqb, le-leb, lt-leb, not-true, not-false}
use Rattle.lists.specs.Tests.{or_false_left, or_false_right}
use Rattle.lists.specs.First.{first_of, numbered, applies_at, hit, skip, none}
use Rattle.lists.proofs.First.{cleared}
use Rattle.std.proofs.Common.{Option, None, Some}
use Rattle.std.specs.Option.{is_some}
use Rattle.days.specs.declared.Date.{Date}
use Rattle.days.specs.Days.{bad_calendar, is_open, open_after, as_day}
use Rattle.securities.specs.Securities.{good_tables}
use Rattle.book.specs.declared.Position.{Position}
use Rattle.book.specs.Book.{position}
use Rattle.book.specs.Soundness.{wrong_length, bad_day, good_balance, good_balances_from, bad_balances, table_causes, state_causes, wrong_carry, carry_causes, present_causes}

-- ---- one of two tests

pub or_left : (a b : Bool) → a ≡ true → a || b ≡ true
or_left a b e = rw e

pub or_right : (a b : Bool) → b ≡ true → a || b ≡ true
or_right true b e = refl
or_right false b e = e

pub or_none : (a b : Bool) → a ≡ false → b ≡ false → a || b ≡ false
or_none a b e f = rw (e, f)

pub unless : (a : Bool) → (a ≡ true → ⊥) → not a ≡ true
unless true h = absurd (h refl)
unless false h = refl

-- ---- numbers 1 to 3

wrong : (n k : ℕ) → (n ≡ k → ⊥) → not (eqb n k) ≡ true
wrong n k h = rw (ne_eqb n k h)

module _ (calendar tables balances : List ℕ) where
  pub wrong_calendar : (length calendar ≡ 480 → ⊥) → 1 ≡ first_of (table_causes calendar tables balances)
  unfolding table_causes wrong_length
  wrong_calendar h = hit 1 _ (search (or_left, or_right, wrong (length calendar) 480 h) depth 4)

  pub wrong_tables : (length tables ≡ 1824 → ⊥) → 1 ≡ first_of (table_causes calendar tables balances)
  unfolding table_causes wrong_length
  wrong_tables h = hit 1 _ (search (or_left, or_right, wrong (length tables) 1824 h) depth 4)

  pub wrong_balances : (length balances ≡ 8192 → ⊥) → 1 ≡ first_of (table_causes calendar tables balances)
  unfolding table_causes wrong_length
  wrong_balances h = hit 1 _ (search (or_left, or_right, wrong (length balances) 8192 h) depth 4)

  pub numbered_tables : numbered (table_causes calendar tables balances) ≡ true
  unfolding table_causes numbered
  numbered_tables = refl

  -- what number 0 says of the calendar's length
  pub calendar_length : first_of (table_causes calendar tables balances) ≡ 0 → length calendar ≡ 480
  unfolding table_causes wrong_length applies_at
  calendar_length e =
      eqb-true (length calendar) 480
      (not-false _ (or_false_left _ _ (or_false_left _ (not (eqb (length balances) 8192)) (cleared 1 (table_causes calendar tables balances) numbered_tables e))))

  module _ (a : length calendar ≡ 480) (b : length tables ≡ 1824) (c : length balances ≡ 8192) where
    right_lengths : wrong_length calendar tables balances ≡ false
    unfolding wrong_length
    right_lengths = rw (eq-eqb (length calendar) 480 a, eq-eqb (length tables) 1824 b, eq-eqb (length balances) 8192 c)

    pub bad_calendar_number : bad_calendar calendar ≡ true → 2 ≡ first_of (table_causes calendar tables balances)
    unfolding table_causes
    bad_calendar_number e = skip 1 _ right_lengths (hit 2 _ e)

    pub bad_tables_number : bad_calendar calendar ≡ false → good_tables calendar tables ≡ false → 3 ≡ first_of (table_causes calendar tables balances)
    unfolding table_causes
    bad_tables_number e f = skip 1 _ right_lengths (skip 2 _ e (hit 3 _ (ap not f)))

    pub tables_accepted : bad_calendar calendar ≡ false → good_tables calendar tables ≡ true → ◌≡◌ {A = ℕ} 0 (first_of (table_causes calendar tables balances))
    unfolding table_causes
    tables_accepted e f = skip 1 _ right_lengths (skip 2 _ e (skip 3 _ (ap not f) none))

-- ---- numbers 1, 2 and 4 of carrying over

module _ (calendar : List ℕ) (day : ℕ) (saved balances : List ℕ) where
  pub carry_calendar : (length calendar ≡ 480 → ⊥) → 1 ≡ first_of (carry_causes calendar day saved balances)
  unfolding carry_causes wrong_carry
  carry_calendar h = hit 1 _ (search (or_left, or_right, wrong (length calendar) 480 h) depth 4)

  pub carry_saved : (length saved ≡ 4096 → ⊥) → 1 ≡ first_of (carry_causes calendar day saved balances)
  unfolding carry_causes wrong_carry
  carry_saved h = hit 1 _ (search (or_left, or_right, wrong (length saved) 4096 h) depth 4)

  pub carry_balances : (length balances ≡ 8192 → ⊥) → 1 ≡ first_of (carry_causes calendar day saved balances)
  unfolding carry_causes wrong_carry
  carry_balances h = hit 1 _ (search (or_left, or_right, wrong (length balances) 8192 h) depth 4)

  module _ (a : length calendar ≡ 480) (b : length saved ≡ 4096) (c : length balances ≡ 8192) where
    carry_lengths : wrong_carry calendar saved balances ≡ false
    unfolding wrong_carry
    carry_lengths = rw (eq-eqb (length calendar) 480 a, eq-eqb (length saved) 4096 b, eq-eqb (length balances) 8192 c)

    pub carry_bad_calendar : bad_calendar calendar ≡ true → 2 ≡ first_of (carry_causes calendar day saved balances)
    unfolding carry_causes
    carry_bad_calendar e = skip 1 _ carry_lengths (hit 2 _ e)

    pub carry_state : {n : ℕ} → bad_calendar calendar ≡ false → n ≡ first_of (state_causes calendar day saved)
        → n ≡ first_of (carry_causes calendar day saved balances)
    unfolding carry_causes
    carry_state e k = skip 1 _ carry_lengths (skip 2 _ e k)

-- ---- numbers 1, 2 and 4 of the present book

module _ (calendar : List ℕ) (day : ℕ) (balances : List ℕ) where
  pub present_calendar : (length calendar ≡ 480 → ⊥) → 1 ≡ first_of (present_causes calendar day balances)
  unfolding present_causes
  present_calendar h = hit 1 _ (or_left _ _ (wrong (length calendar) 480 h))

  pub present_balances : (length balances ≡ 8192 → ⊥) → 1 ≡ first_of (present_causes calendar day balances)
  unfolding present_causes
  present_balances h = hit 1 _ (or_right (not (eqb (length calendar) 480)) _ (wrong (length balances) 8192 h))

  pub numbered_present : numbered (present_causes calendar day balances) ≡ true
  unfolding present_causes state_causes numbered
  numbered_present = refl

  -- what number 0 says of the lengths
  present_lengths : first_of (present_causes calendar day balances) ≡ 0 → not (eqb (length calendar) 480) || not (eqb (length balances) 8192) ≡ false
  unfolding present_causes state_causes applies_at
  present_lengths e = cleared 1 (present_causes calendar day balances) numbered_present e

  pub present_calendar_length : first_of (present_causes calendar day balances) ≡ 0 → length calendar ≡ 480
  present_calendar_length e = eqb-true (length calendar) 480 (not-false _ (or_false_left _ _ (present_lengths e)))

  pub present_balance_length : first_of (present_causes calendar day balances) ≡ 0 → length balances ≡ 8192
  present_balance_length e = eqb-true (length balances) 8192 (not-false _ (or_false_right (not (eqb (length calendar) 480)) _ (present_lengths e)))

  module _ (a : length calendar ≡ 480) (b : length balances ≡ 8192) where
    right_present : not (eqb (length calendar) 480) || not (eqb (length balances) 8192) ≡ false
    right_present = rw (eq-eqb (length calendar) 480 a, eq-eqb (length balances) 8192 b)

    pub present_bad_calendar : bad_calendar calendar ≡ true → 2 ≡ first_of (present_causes calendar day balances)
    unfolding present_causes
    present_bad_calendar e = skip 1 _ right_present (hit 2 _ e)

    pub present_state : {n : ℕ} → bad_calendar calendar ≡ false → n ≡ first_of (state_causes calendar day balances)
        → n ≡ first_of (present_causes calendar day balances)
    unfolding present_causes
    present_state e k = skip 1 _ right_present (skip 2 _ e k)

-- ---- the day

module _ (calendar : List ℕ) (day : ℕ) where
  -- an open day goes by whether a day follows it
  pub day_open : {r : Option Date} {b : Bool} → is_open calendar day ≡ true → r ≡ as_day (open_after calendar day) → is_some r ≡ not b
      → b ≡ bad_day calendar day
  unfolding bad_day as_day
  day_open {r} {b} o e n = rw o (go (eqb (open_after calendar day) 0) b (sym (ap is_some e) ∙ n))
    where
      go : (t b : Bool) → is_some {T = Date} (cond t None (Some (record { 0 = open_after calendar day }))) ≡ not b → b ≡ t
      go true b n = not-false b (sym n)
      go false b n = not-true b (sym n)

  pub day_closed : is_open calendar day ≡ false → true ≡ bad_day calendar day
  unfolding bad_day
  day_closed e = sym (or_left _ _ (ap not e))

-- ---- one balance

module _ (p : Position) (par : ℕ) where
  pub balance_none : par ≡ 0 → true ≡ good_balance p par
  unfolding good_balance
  balance_none e = sym (rw e (or_right (not (eqb p.lender p.borrower)) true refl))

  pub balance_large : 9000000000 < par → false ≡ good_balance p par
  unfolding good_balance
  balance_large h = rw (lt-leb par 9000000000 h)

  pub balance_held : (par ≡ 0 → ⊥) → par ≤ 9000000000 → not (eqb p.lender p.borrower) ≡ good_balance p par
  unfolding good_balance
  balance_held n h = rw (le-leb par 9000000000 h, ne_eqb par 0 n) (sym (or_false (not (eqb p.lender p.borrower))))
    where
      or_false : (a : Bool) → a || false ≡ a
      or_false true = refl
      or_false false = refl

-- ---- the balances, in order

pub record Judging (balances : List ℕ) (w : ℕ) : Type 0 where
  pub small : w ≤ length balances
  pub rest : good_balances_from 0 balances ≡ good_balances_from w (drop w balances)

pub judge_start : (balances : List ℕ) → Judging balances 0
judge_start balances = record { small = omega arith; rest = refl }

module _ {balances : List ℕ} {w : ℕ} (h : w < length balances) (k : Judging balances w) where
  judged : (b : Bool) → good_balance (position w) (get_or balances w 0) ≡ b
      → good_balances_from 0 balances ≡ b && good_balances_from (w + 1) (drop (w + 1) balances)
  unfolding good_balances_from
  judged b e = k.rest ∙ rw (drop-cons balances w 0 h, e, add-one w)

  pub judge_bad : good_balance (position w) (get_or balances w 0) ≡ false → true ≡ bad_balances balances
  unfolding bad_balances
  judge_bad e = sym (ap not (judged false e))

  pub judge_next : good_balance (position w) (get_or balances w 0) ≡ true → Judging balances (w + 1)
  judge_next e = record { small = omega arith; rest = judged true e }

pub judge_end : {balances : List ℕ} {w : ℕ} → length balances ≤ w → Judging balances w → false ≡ bad_balances balances
unfolding bad_balances good_balances_from
judge_end {balances} {w} h k =
    let e : good_balances_from w (drop w balances) ≡ true = rw (drop_of_length-le balances h) in
    sym (ap not (k.rest ∙ e))
