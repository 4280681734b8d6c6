-- What a search finds, in other words. On a calendar that keeps its rule a day that is found is a date and open; it is the earliest
-- from the start on, or the last of all; and where nothing is found, there is no open day.
use mathlib.Core.Path.{◌≡◌, refl, sym, ap, ◌∙◌, subst, subst⁻¹}
use mathlib.Core.Bool.{Bool, true, false, cond}
use mathlib.Core.List.{List, [], ◌∷◌}
use Prim.Native.Nat.{ℕ, zero, suc, ◌+◌, ◌-◌, ◌*◌, ◌^◌, ◌≤◌, ◌<◌}
use native.Mathlib.Nat.{add-zero, zero-add, add-suc, suc-add, not-suc-le-zero, le_of_suc-le-suc, zero-lt-suc, lt_of_not-le, lt_of_lt_of_le, eq-or-lt_of_le}
use mathlib.Core.Logic.{⊎_elim}
use native.Mathlib.Omega.{arith}
use lib.Dec.{eqb, ltb, leb, lit<, lit≤}
use lib.Pow.{pow_mono}
use lib.ListN.{length, drop, get_or, length-drop}
use lib.Seq.{get_or-drop}
use borrow.Author.Tests.{eqb-true, eqb-false, ltb-true, ltb-false, leb-false}
use Rattle.lists.specs.Tests.{and_left, and_right, and_both, or_false_left, or_false_right, cond_true, cond_false}
use Rattle.days.specs.Days.{last_date, day_of, is_date, word_of, date_of, length_of, bit_on, bad_from, bad_calendar, is_open, lowest_from, seek_from, open_at, open_after, open_from, highest_below, last_below, last_open, as_day, day_number}
use Rattle.days.specs.declared.Date.{Date}
use Rattle.std.proofs.Common.{Option, Some, None}
use Rattle.days.proofs.Parts.{parts, word_lt, date_parts, date_made, made_word, made_day, date_order, order_date, date_positive}
use Rattle.days.proofs.Bits.{Lowest, lowest, bit_lt, Highest, highest, positive}
use Rattle.days.proofs.Lengths.{word_length_le}

-- ---- a calendar that keeps its rule

pub record Kept (calendar : List ℕ) : Type 0 where
  pub words : length calendar ≡ 480
  pub rule : bad_calendar calendar ≡ false

-- each word is below its month's power
word_small : (ws : List ℕ) (m : ℕ) → bad_from m ws ≡ false → (j : ℕ) → j < length ws → get_or ws j 0 < 2 ^ length_of (m + j)
unfolding bad_from
word_small [] m g j h = absurd (not-suc-le-zero h)
word_small (w ∷ ws) m g zero h = rw add-zero (leb-false _ _ (or_false_left _ _ g))
word_small (w ∷ ws) m g (suc j) h =
    subst (λ (n : ℕ). get_or ws j 0 < 2 ^ length_of n) (suc-add m j ∙ sym (add-suc m j))
    (word_small ws (suc m) (or_false_right (leb (2 ^ length_of m) w) _ g) j (le_of_suc-le-suc h))

pub month_small : {calendar : List ℕ} → Kept calendar → (m : ℕ) → m < 480 → get_or calendar m 0 < 2 ^ length_of m
unfolding bad_calendar
month_small {calendar} k m h =
    subst (λ (n : ℕ). get_or calendar m 0 < 2 ^ length_of n) (zero-add m) (word_small calendar 0 k.rule m (omega (arith, k.words)))

-- a bit of such a calendar is an open date
bit_open : {calendar : List ℕ} → Kept calendar → (m d : ℕ) → m < 480 → d < 32 → bit_on (get_or calendar m 0) d ≡ true
    → is_open calendar (date_of m d) ≡ true
unfolding is_open
bit_open {calendar} k m d h s o =
    let l : d < length_of m = bit_lt (get_or calendar m 0) d (length_of m) o (month_small k m h) in
    let e : day_of (date_of m d) - 1 ≡ d = omega (arith, made_day m d s) in
    and_both (date_made m d h l) (rw (made_word m d s, e) o)

-- ---- an open day

pub open_date : (calendar : List ℕ) (n : ℕ) → is_open calendar n ≡ true → is_date n ≡ true
unfolding is_open
open_date calendar n o = and_left (is_date n) _ o

open_bit : (calendar : List ℕ) (n : ℕ) → is_open calendar n ≡ true → bit_on (get_or calendar (word_of n) 0) (day_of n - 1) ≡ true
unfolding is_open
open_bit calendar n o = and_right (is_date n) _ o

-- a date's place in the calendar: 32 places for each word
abbrev place : ℕ → ℕ
place n = 32 * word_of n + (day_of n - 1)

place_order : (n x : ℕ) → is_date n ≡ true → is_date x ≡ true → n ≤ x → place n ≤ place x
place_order n x d e h =
    let p = parts n d in
    let q = parts x e in
    order_date (word_of n) (day_of n - 1) (word_of x) (day_of x - 1) (omega arith) (omega arith)
    (subst (λ (y : ℕ). date_of (word_of n) (day_of n - 1) ≤ y) (sym (date_parts x e)) (subst (λ (y : ℕ). y ≤ x) (sym (date_parts n d)) h))

order_place : (n x : ℕ) → is_date n ≡ true → is_date x ≡ true → place n ≤ place x → n ≤ x
order_place n x d e h =
    let p = parts n d in
    let q = parts x e in
    subst (λ (y : ℕ). y ≤ x) (date_parts n d)
    (subst (λ (y : ℕ). date_of (word_of n) (day_of n - 1) ≤ y) (date_parts x e)
    (date_order (word_of n) (day_of n - 1) (word_of x) (day_of x - 1) (omega arith) (omega arith) h))

-- ---- the search

-- a place of the words at bit k of the first or later whose bit is on
record Open (ws : List ℕ) (k j d : ℕ) : Type 0 where
  month : j < length ws
  day : d < 32
  from : j ≡ 0 → k ≤ d
  bit : bit_on (get_or ws j 0) d ≡ true

-- what the search answers: no such place, or the earliest
data Sought (ws : List ℕ) (m k r : ℕ) : Type 0 where
  none : r ≡ 0 → ((j d : ℕ) → Open ws k j d → ⊥) → Sought ws m k r
  some : (j d : ℕ) → r ≡ date_of (m + j) d → Open ws k j d → ((i e : ℕ) → Open ws k i e → 32 * j + d ≤ 32 * i + e) → Sought ws m k r

-- a place of the words behind the first
behind : {w : ℕ} {ws : List ℕ} {k j d : ℕ} → Open (w ∷ ws) k (suc j) d → Open ws 0 j d
behind o = record { month = le_of_suc-le-suc o.month; day = o.day; from = λ e. omega arith; bit = o.bit }

before : {w : ℕ} {ws : List ℕ} {k j d : ℕ} → Open ws 0 j d → Open (w ∷ ws) k (suc j) d
before o = record { month = omega (arith, o.month); day = o.day; from = λ e. absurd (omega arith); bit = o.bit }

module _ (w : ℕ) (ws : List ℕ) (m k d : ℕ) (k32 : k < 32) (l : Lowest (32 - k) k w d) where
  found_here : d < 32 → Sought (w ∷ ws) m k (date_of m d)
  found_here h =
      some 0 d (ap (λ (n : ℕ). date_of n d) (sym (add-zero m)))
      (record { month = omega arith; day = h; from = λ e. l.from; bit = l.on (omega arith) }) earliest
    where
      earliest : (i e : ℕ) → Open (w ∷ ws) k i e → 32 * 0 + d ≤ 32 * i + e
      earliest zero e o = let s = l.first e (o.from refl) o.bit (omega (arith, o.day)) in omega arith
      earliest (suc i) e o = omega arith

  no_first : 32 ≤ d → (e : ℕ) → Open (w ∷ ws) k 0 e → ⊥
  no_first h e o = let s = l.first e (o.from refl) o.bit (omega (arith, o.day)) in omega (arith, o.day)

  found_later : 32 ≤ d → (r : ℕ) → Sought ws (suc m) 0 r → Sought (w ∷ ws) m k r
  found_later h r (none e n) = none e never
    where
      never : (j f : ℕ) → Open (w ∷ ws) k j f → ⊥
      never zero f o = no_first h f o
      never (suc j) f o = n j f (behind o)
  found_later h r (some j f e o p) =
      some (suc j) f (e ∙ ap (λ (n : ℕ). date_of n f) (suc-add m j ∙ sym (add-suc m j))) (before o) earliest
    where
      earliest : (i g : ℕ) → Open (w ∷ ws) k i g → 32 * suc j + f ≤ 32 * i + g
      earliest zero g q = absurd (no_first h g q)
      earliest (suc i) g q = let s = p i g (behind q) in omega arith

sought : (ws : List ℕ) (m k : ℕ) → k < 32 → Sought ws m k (seek_from ws m k)
unfolding seek_from
sought [] m k h = none refl (λ j d o. not-suc-le-zero o.month)
sought (w ∷ ws) m k h =
    go (ltb (lowest_from (32 - k) k w) 32) refl (sought ws (suc m) 0 (zero-lt-suc 31))
  where
    go : (b : Bool) → ltb (lowest_from (32 - k) k w) 32 ≡ b → Sought ws (suc m) 0 (seek_from ws (suc m) 0)
        → Sought (w ∷ ws) m k (cond b (date_of m (lowest_from (32 - k) k w)) (seek_from ws (suc m) 0))
    go true e s = found_here w ws m k _ h (lowest (32 - k) k w) (ltb-true _ 32 e)
    go false e s = found_later w ws m k _ h (lowest (32 - k) k w) (ltb-false _ 32 e) (seek_from ws (suc m) 0) s

-- ---- from a place of the whole calendar on

-- the search from word m, bit k: an open day at that place or later, 0 only if there is none
record Searched (calendar : List ℕ) (m k r : ℕ) : Type 0 where
  open_day : (r ≡ 0 → ⊥) → is_open calendar r ≡ true
  later : (r ≡ 0 → ⊥) → 32 * m + k ≤ place r
  first : (x : ℕ) → is_open calendar x ≡ true → 32 * m + k ≤ place x → (0 < r) × (r ≤ x)

searched : {calendar : List ℕ} → Kept calendar → (m k : ℕ) → m < 480 → k < 32
    → Searched calendar m k (seek_from (drop m calendar) m k)
searched {calendar} kept m k hm hk = go (seek_from (drop m calendar) m k) (sought (drop m calendar) m k hk)
  where
    -- an open day from that place on is a place of the words from m on
    as_open : (x : ℕ) → is_open calendar x ≡ true → 32 * m + k ≤ place x → Open (drop m calendar) k (word_of x - m) (day_of x - 1)
    as_open x o l =
        let e = open_date calendar x o in
        let p = parts x e in
        let w = word_lt x e in
        let s : m + (word_of x - m) ≡ word_of x = omega arith in
        record {
          month = omega (arith, length-drop m calendar, kept.words);
          day = omega arith;
          from = λ z. omega arith;
          bit = rw (get_or-drop m calendar (word_of x - m) 0, s) (open_bit calendar x o);
        }

    go : (r : ℕ) → Sought (drop m calendar) m k r → Searched calendar m k r
    go r (none e n) =
        record {
          open_day = λ z. absurd (z e);
          later = λ z. absurd (z e);
          first = λ x o l. absurd (n _ _ (as_open x o l));
        }
    go r (some j d e o p) =
        let h : m + j < 480 = omega (arith, o.month, length-drop m calendar, kept.words) in
        let on : is_open calendar (date_of (m + j) d) ≡ true
        = bit_open kept (m + j) d h o.day (rw get_or-drop at o.bit) in
        let at : place (date_of (m + j) d) ≡ 32 * (m + j) + d
        = omega (arith, made_word (m + j) d o.day, made_day (m + j) d o.day) in
        record {
          open_day = λ z. rw e on;
          later = λ z. rw (e, at) (late j d o.from);
          first = λ x q l. reached x q l on at;
        }
      where
        late : (j d : ℕ) → (j ≡ 0 → k ≤ d) → 32 * m + k ≤ 32 * (m + j) + d
        late zero d f = let s = f refl in omega arith
        late (suc j) d f = omega arith

        reached : (x : ℕ) → is_open calendar x ≡ true → 32 * m + k ≤ place x → is_open calendar (date_of (m + j) d) ≡ true
            → place (date_of (m + j) d) ≡ 32 * (m + j) + d → (0 < r) × (r ≤ x)
        reached x q l on at =
            let u = parts x (open_date calendar x q) in
            let t = p (word_of x - m) (day_of x - 1) (as_open x q l) in
            let b : date_of (m + j) d ≤ x
            = order_place (date_of (m + j) d) x (open_date calendar _ on) (open_date calendar x q) (omega arith) in
            let a = date_positive (m + j) d in
            rw e (positive (date_of (m + j) d) a, b)

-- ---- the first open day after a date, and on or after it

module _ {calendar : List ℕ} (kept : Kept calendar) (n : ℕ) where
  at_searched : (skip : ℕ) → skip ≤ 1 → is_date n ≡ true → Searched calendar (word_of n) (day_of n - 1 + skip) (open_at calendar n skip)
  unfolding open_at
  at_searched skip h e =
      subst⁻¹ (λ (r : ℕ). Searched calendar (word_of n) (day_of n - 1 + skip) r) (cond_true _ 0 e)
      (searched kept (word_of n) (day_of n - 1 + skip) (word_lt n e) (let p = parts n e in omega arith))

  -- a number that is no date has none
  pub after_none : is_date n ≡ false → open_after calendar n ≡ 0
  unfolding open_after open_at
  after_none e = cond_false _ 0 e

  pub from_none : is_date n ≡ false → open_from calendar n ≡ 0
  unfolding open_from open_at
  from_none e = cond_false _ 0 e

  module _ (d : is_date n ≡ true) where
    after_searched : Searched calendar (word_of n) (day_of n - 1 + 1) (open_after calendar n)
    unfolding open_after
    after_searched = at_searched 1 (lit≤ tt) d

    -- the day after a date: it is open, and later
    pub after_open : (open_after calendar n ≡ 0 → ⊥) → is_open calendar (open_after calendar n) ≡ true
    after_open z = after_searched.open_day z

    pub after_later : (open_after calendar n ≡ 0 → ⊥) → n < open_after calendar n
    after_later z =
        let r = open_after calendar n in
        let e = open_date calendar r (after_open z) in
        let l = after_searched.later z in
        let p = parts n d in
        lt_of_not-le (λ (g : r ≤ n). let q = place_order r n e d g in absurd (omega arith))

    -- it is the earliest: an open day after n is found, or an earlier one
    pub after_first : (x : ℕ) → is_open calendar x ≡ true → n < x → (0 < open_after calendar n) × (open_after calendar n ≤ x)
    after_first x o h =
        let e = open_date calendar x o in
        let p = parts n d in
        after_searched.first x o
        (le_of_suc-le-suc (lt_of_not-le (λ (g : place x < 32 * word_of n + (day_of n - 1 + 1)).
        let q = order_place x n e d (omega arith) in absurd (omega arith))))

    from_searched : Searched calendar (word_of n) (day_of n - 1) (open_from calendar n)
    unfolding open_from
    from_searched = rw add-zero at (at_searched 0 (lit≤ tt) d)

    -- the day on or after a date, likewise
    pub from_open : (open_from calendar n ≡ 0 → ⊥) → is_open calendar (open_from calendar n) ≡ true
    from_open z = from_searched.open_day z

    pub from_later : (open_from calendar n ≡ 0 → ⊥) → n ≤ open_from calendar n
    from_later z =
        order_place n (open_from calendar n) d (open_date calendar _ (from_open z)) (from_searched.later z)

    pub from_first : (x : ℕ) → is_open calendar x ≡ true → n ≤ x → (0 < open_from calendar n) × (open_from calendar n ≤ x)
    from_first x o h = from_searched.first x o (place_order n x d (open_date calendar x o) h)

-- ---- a day found is no later than the last date

open_small : (calendar : List ℕ) (r : ℕ) → ((r ≡ 0 → ⊥) → is_open calendar r ≡ true) → r ≤ last_date
open_small calendar zero h = omega arith
open_small calendar (suc r) h = (parts (suc r) (open_date calendar (suc r) (h (λ e. omega arith)))).to

pub after_small : {calendar : List ℕ} → Kept calendar → (n : ℕ) → open_after calendar n ≤ last_date
after_small {calendar} k n = go (is_date n) refl
  where
    go : (b : Bool) → is_date n ≡ b → open_after calendar n ≤ last_date
    go true d = open_small calendar (open_after calendar n) (after_open k n d)
    go false d = rw (after_none k n d) (omega arith)

pub from_small : {calendar : List ℕ} → Kept calendar → (n : ℕ) → open_from calendar n ≤ last_date
from_small {calendar} k n = go (is_date n) refl
  where
    go : (b : Bool) → is_date n ≡ b → open_from calendar n ≤ last_date
    go true d = open_small calendar (open_from calendar n) (from_open k n d)
    go false d = rw (from_none k n d) (omega arith)

-- ---- the last open day

within : (a m d u : ℕ) → a < suc m → d < 32 → (a ≡ m → d ≤ u) → 32 * a + d ≤ 32 * m + u
within a m d u k s b = ⊎_elim (λ q. let v = b q in omega arith) (λ q. omega arith) (eq-or-lt_of_le (le_of_suc-le-suc k))

module _ {calendar : List ℕ} (kept : Kept calendar) where
  -- of the first m words: open unless it is 0, and no open day of theirs is later
  record Last (m r : ℕ) : Type 0 where
    open_day : (r ≡ 0 → ⊥) → is_open calendar r ≡ true
    latest : (x : ℕ) → is_open calendar x ≡ true → word_of x < m → x ≤ r

  word_32 : (m : ℕ) → m < 480 → get_or calendar m 0 < 2 ^ 32
  word_32 m h = lt_of_lt_of_le (month_small kept m h) (pow_mono {j = 32} (let l = word_length_le m h in omega arith))

  bit_positive : (w e : ℕ) → bit_on w e ≡ true → w ≡ 0 → ⊥
  unfolding bit_on
  bit_positive w e o z =
      let b = bit_lt w e 0 o (rw z (lit< tt)) in
      omega arith

  last_word : (m : ℕ) → m < 480 → (r : ℕ) → Last m r → (b : Bool) → eqb (get_or calendar m 0) 0 ≡ b
      → Last (suc m) (cond b r (date_of m (highest_below 32 (get_or calendar m 0))))
  last_word m h r l true e =
      record { open_day = l.open_day; latest = λ x o k. l.latest x o (lower x o k) }
    where
      lower : (x : ℕ) → is_open calendar x ≡ true → word_of x < suc m → word_of x < m
      lower x o k =
          lt_of_not-le (λ (g : m ≤ word_of x).
          let q : word_of x ≡ m = omega arith in
          absurd (bit_positive (get_or calendar (word_of x) 0) (day_of x - 1) (open_bit calendar x o)
          (ap (λ (i : ℕ). get_or calendar i 0) q ∙ eqb-true (get_or calendar m 0) 0 e)))
  last_word m h r l false e =
      record { open_day = λ z. on; latest = λ x o k. reach x o k }
    where
      top : Highest (get_or calendar m 0) (highest_below 32 (get_or calendar m 0))
      top = highest (get_or calendar m 0) (positive (get_or calendar m 0) (eqb-false (get_or calendar m 0) 0 e)) (word_32 m h)

      on : is_open calendar (date_of m (highest_below 32 (get_or calendar m 0))) ≡ true
      on = bit_open kept m (highest_below 32 (get_or calendar m 0)) h top.below top.on

      reach : (x : ℕ) → is_open calendar x ≡ true → word_of x < suc m → x ≤ date_of m (highest_below 32 (get_or calendar m 0))
      reach x o k =
          let u = highest_below 32 (get_or calendar m 0) in
          let p = parts x (open_date calendar x o) in
          let b : (word_of x ≡ m) → day_of x - 1 ≤ u
          = λ q. top.last (day_of x - 1) (subst (λ (i : ℕ). bit_on (get_or calendar i 0) (day_of x - 1) ≡ true) q (open_bit calendar x o)) in
          subst (λ (y : ℕ). y ≤ date_of m u) (date_parts x (open_date calendar x o))
          (date_order (word_of x) (day_of x - 1) m u (omega arith) top.below (within (word_of x) m (day_of x - 1) u k (omega arith) b))

  last_below_lem : (m : ℕ) → m ≤ 480 → Last m (last_below calendar m)
  unfolding last_below
  last_below_lem zero h = record { open_day = λ z. absurd (z refl); latest = λ x o k. absurd (not-suc-le-zero k) }
  last_below_lem (suc m) h = last_word m h (last_below calendar m) (last_below_lem m (omega arith)) (eqb (get_or calendar m 0) 0) refl

  pub last_open_lem : (last_open calendar ≡ 0 → ⊥) → is_open calendar (last_open calendar) ≡ true
  unfolding last_open
  last_open_lem z = (last_below_lem 480 (lit≤ tt)).open_day z

  -- every open day is on or before it, so where it is 0 no day is open
  pub last_latest : (x : ℕ) → is_open calendar x ≡ true → x ≤ last_open calendar
  unfolding last_open
  last_latest x o = (last_below_lem 480 (lit≤ tt)).latest x o (word_lt x (open_date calendar x o))

  found_last : (r : ℕ) → ((r ≡ 0 → ⊥) → is_open calendar r ≡ true) → r ≤ last_open calendar
  found_last zero h = omega arith
  found_last (suc r) h = last_latest (suc r) (h (λ e. omega arith))

  -- so a day found is no later than it
  pub after_last : (n : ℕ) → is_date n ≡ true → open_after calendar n ≤ last_open calendar
  after_last n d = found_last (open_after calendar n) (after_open kept n d)

  pub from_last : (n : ℕ) → is_date n ≡ true → open_from calendar n ≤ last_open calendar
  from_last n d = found_last (open_from calendar n) (from_open kept n d)

-- ---- the answer of a search

pub day_number_lem : (n : ℕ) → day_number (as_day n) ≡ n
unfolding as_day day_number
day_number_lem n = go (eqb n 0) refl
  where
    go : (b : Bool) → eqb n 0 ≡ b → day_number (cond b None (Some (record { 0 = n }))) ≡ n
    go true e = sym (eqb-true n 0 e)
    go false e = refl

-- what a case of the answer says of the number
pub on_day_lem : (n : ℕ) {r : Option Date} {d : Date} → r ≡ as_day n → r ≡ Some d → d.0 ≡ n
unfolding day_number
on_day_lem n e f = ap day_number (sym f ∙ e) ∙ day_number_lem n

pub no_day : (n : ℕ) {r : Option Date} → r ≡ as_day n → r ≡ None → n ≡ 0
unfolding day_number
no_day n e f = sym (ap day_number (sym f ∙ e) ∙ day_number_lem n)

pub day_on : (n : ℕ) {r : Option Date} {d : Date} → r ≡ as_day n → r ≡ Some d → n ≡ 0 → ⊥
unfolding as_day
day_on n {r} {d} e f z =
    let a : Some d ≡ None = sym f ∙ e ∙ ap as_day z in
    let b : ◌≡◌ {A = ℕ} 0 1 = cc in
    omega arith
