-- The numbers of both calls, from the tests of the code, and what number 0 says.
use mathlib.Core.Path.{◌≡◌, refl, ◌∙◌}
use mathlib.Core.Bool.{Bool, true, false, cond, not, ◌||◌}
use mathlib.Core.List.{List, []}
use Prim.Native.Nat.{ℕ, ◌+◌, ◌≤◌, ◌<◌}
use native.Mathlib.Omega.{arith}
use lib.Dec.{eqb, ltb, leb}
use lib.ListN.{length, get_or, drop}
use borrow.Author.Tests.{eqb-true, eq-eqb, ne_eqb, le-leb, lt-leb, leb-true, lt-ltb, le-ltb, not-false}
use Rattle.lists.specs.Tests.{and_left, and_right, or_false_left, or_false_right}
use Rattle.lists.specs.First.{first_of, numbered, hit, skip, none, numbered_append, none_applies, first_none, none_left, none_right}
use Rattle.days.specs.Days.{is_date, is_open}
use Rattle.book.specs.Soundness.{bad_day, bad_balances, state_causes, present_causes}
use Rattle.book.proofs.Causes.{or_left, or_right, unless, numbered_present, present_calendar_length, present_balance_length}
use Rattle.marks.specs.Marks.{is_mark, place_of, mark_in, is_set, day_in, count_in, balances_in, store_causes, bad_mark, saved_causes, set_causes, return_causes}

-- ---- marks 1 to 4

pub mark_range : (k : ℕ) → is_mark k ≡ true → (1 ≤ k) × (k ≤ 4)
unfolding is_mark
mark_range k e = (leb-true 1 k (and_left _ _ e), leb-true k 4 (and_right (leb 1 k) _ e))

-- the words of a mark are in the store
pub place_fits : (k : ℕ) → is_mark k ≡ true → place_of k + 8195 ≤ 32780
unfolding place_of
place_fits k e = let r = mark_range k e in omega (arith, r.0, r.1)

-- ---- setting

module _ (calendar : List ℕ) (day : ℕ) (balances store : List ℕ) (k : ℕ) where
  pub no_mark : ((is_mark k ≡ true) × (length store ≡ 32780) → ⊥) → 16 ≡ first_of (store_causes store k)
  unfolding store_causes
  no_mark h = hit 16 [] (go (is_mark k) refl)
    where
      go : (b : Bool) → is_mark k ≡ b → not b || not (eqb (length store) 32780) ≡ true
      go true m = unless _ (λ l. h (m, eqb-true (length store) 32780 l))
      go false m = refl

  pub mark_there : is_mark k ≡ true → length store ≡ 32780 → ◌≡◌ {A = ℕ} 0 (first_of (store_causes store k))
  unfolding store_causes
  mark_there m l = skip 16 [] (rw (m, eq-eqb (length store) 32780 l)) none

  -- ---- what number 0 says

  numbered_store : numbered (store_causes store k) ≡ true
  unfolding store_causes numbered
  numbered_store = refl

  pub numbered_set : numbered (set_causes calendar day balances store k) ≡ true
  unfolding set_causes
  numbered_set = numbered_append (present_causes calendar day balances) (store_causes store k) (numbered_present calendar day balances) numbered_store

  module _ (z : first_of (set_causes calendar day balances store k) ≡ 0) where
    present_none : first_of (present_causes calendar day balances) ≡ 0
    unfolding set_causes
    present_none = first_none _ (none_left (present_causes calendar day balances) (store_causes store k) (none_applies _ numbered_set z))

    store_none : (not (is_mark k) || not (eqb (length store) 32780)) ≡ false
    unfolding set_causes store_causes
    store_none = (none_right (present_causes calendar day balances) (store_causes store k) (none_applies _ numbered_set z)).0

    pub set_calendar : length calendar ≡ 480
    set_calendar = present_calendar_length calendar day balances present_none

    pub set_balances : length balances ≡ 8192
    set_balances = present_balance_length calendar day balances present_none

    pub set_mark : is_mark k ≡ true
    set_mark = not-false _ (or_false_left _ _ store_none)

    pub set_store : length store ≡ 32780
    set_store = eqb-true (length store) 32780 (not-false _ (or_false_right (not (is_mark k)) _ store_none))

  -- ---- going back

  numbered_saved : numbered (saved_causes calendar (mark_in store k)) ≡ true
  unfolding saved_causes numbered
  numbered_saved = refl

  pub numbered_return : numbered (return_causes calendar day balances store k) ≡ true
  unfolding return_causes
  numbered_return = numbered_append (set_causes calendar day balances store k) (saved_causes calendar (mark_in store k)) numbered_set numbered_saved

  module _ (z : first_of (return_causes calendar day balances store k) ≡ 0) where
    pub return_sets : first_of (set_causes calendar day balances store k) ≡ 0
    unfolding return_causes
    return_sets = first_none _ (none_left (set_causes calendar day balances store k) (saved_causes calendar (mark_in store k)) (none_applies _ numbered_return z))

    pub return_good : bad_mark calendar (mark_in store k) ≡ false
    unfolding return_causes saved_causes
    return_good = (none_right (set_causes calendar day balances store k) (saved_causes calendar (mark_in store k)) (none_applies _ numbered_return z)).0

-- ---- the words of a mark

module _ (calendar words : List ℕ) where
  pub saved_unset : (get_or words 0 0 ≡ 1 → ⊥) → 17 ≡ first_of (saved_causes calendar words)
  unfolding saved_causes bad_mark is_set
  saved_unset h = hit 17 [] (rw (ne_eqb (get_or words 0 0) 1 h))

  pub saved_count : (get_or words 2 0 < 4294967296 → ⊥) → 17 ≡ first_of (saved_causes calendar words)
  unfolding saved_causes bad_mark count_in
  saved_count h = hit 17 [] (or_left _ _ (or_left _ _ (or_right (not (is_set words)) _ (lt-ltb 4294967295 (get_or words 2 0) (omega (arith, h))))))

  -- no date has more than 32 bits
  past_dates : 4294967295 < day_in words → bad_day calendar (day_in words) ≡ true
  unfolding bad_day is_open is_date
  past_dates h = rw (le-leb 20000101 (day_in words) (omega arith), lt-leb (day_in words) 20391231 (omega arith))

  bad_day_lem : bad_day calendar (day_in words) ≡ true → 17 ≡ first_of (saved_causes calendar words)
  unfolding saved_causes bad_mark
  bad_day_lem e = hit 17 [] (or_left _ _ (or_right (not (is_set words) || ltb 4294967295 (count_in words)) _ e))

  pub saved_day : (get_or words 1 0 < 4294967296 → ⊥) → 17 ≡ first_of (saved_causes calendar words)
  unfolding day_in
  saved_day h = bad_day_lem (past_dates (omega (arith, h)))

  -- day and balances as number 4 judges them
  judged : (n : ℕ) → n ≡ first_of (state_causes calendar (day_in words) (balances_in words)) → (b : Bool)
      → bad_day calendar (day_in words) || bad_balances (balances_in words) ≡ b → n ≡ cond b 4 0
  unfolding state_causes first_of
  judged n e b f = e ∙ rw f

  pub saved_state : {n : ℕ} → n ≡ first_of (state_causes calendar (get_or words 1 0) (drop 3 words)) → (n ≡ 0 → ⊥)
      → 17 ≡ first_of (saved_causes calendar words)
  unfolding saved_causes bad_mark day_in balances_in
  saved_state {n} e h = hit 17 [] (go (bad_day calendar (get_or words 1 0)) (bad_balances (drop 3 words)) (judged n e _ refl))
    where
      go : (a b : Bool) → n ≡ cond (a || b) 4 0 → not (is_set words) || ltb 4294967295 (count_in words) || a || b ≡ true
      go true b q = or_left _ b (or_right (not (is_set words) || ltb 4294967295 (count_in words)) true refl)
      go false true q = or_right (not (is_set words) || ltb 4294967295 (count_in words) || false) true refl
      go false false q = absurd (h q)

  pub saved_clear : {n : ℕ} → get_or words 0 0 ≡ 1 → get_or words 2 0 ≤ 4294967295
      → n ≡ first_of (state_causes calendar (get_or words 1 0) (drop 3 words)) → n ≡ 0 → ◌≡◌ {A = ℕ} 0 (first_of (saved_causes calendar words))
  unfolding saved_causes bad_mark is_set count_in day_in balances_in
  saved_clear {n} s c e z =
      skip 17 [] (rw (eq-eqb (get_or words 0 0) 1 s, le-ltb 4294967295 (get_or words 2 0) c) (go (bad_day calendar (get_or words 1 0)) (bad_balances (drop 3 words)) (judged n e _ refl))) none
    where
      go : (a b : Bool) → n ≡ cond (a || b) 4 0 → a || b ≡ false
      go true b q = absurd (omega (arith, q, z))
      go false true q = absurd (omega (arith, q, z))
      go false false q = refl
