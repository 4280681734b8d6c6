-- The searches and the calendar's rule word by word, as the loops do them.
use mathlib.Core.Path.{◌≡◌, refl, sym, ap, ◌∙◌, subst}
use mathlib.Core.Bool.{Bool, true, false, ◌||◌}
use mathlib.Core.List.{List, [], ◌∷◌, ◌++◌}
use Prim.Native.Nat.{ℕ, suc, ◌+◌, ◌-◌, ◌*◌, ◌/◌, ◌%◌, ◌^◌, ◌≤◌, ◌<◌}
use native.Mathlib.Nat.{add-zero, div-eq_of_lt, div-lt_iff_lt-mul, one-mul, lt_of_not-le, le_of_suc-le-suc}
use native.Mathlib.Numerals.{add-one}
use native.Mathlib.Omega.{arith}
use lib.Dec.{leb}
use lib.ListN.{length, take, drop, get_or, length-drop, take-append-drop, drop_of_length-le}
use lib.Pow.{pow_pos}
use lib.Seq.{drop-cons, drop-drop, length-take-le}
use borrow.Author.Tests.{le-ltb, lt-ltb, le-leb, lt-leb, eq-eqb, ne_eqb}
use Rattle.days.specs.Days.{month_length, length_of, bad_from, bad_calendar, date_of, lowest_from, seek_from, highest_below, last_below, last_open}

-- ---- the next open day

module _ (calendar : List ℕ) (m k d : ℕ) (h : m < length calendar) (e : d ≡ lowest_from (32 - k) k (get_or calendar m 0)) where
  pub seek_here : d < 32 → date_of m d ≡ seek_from (drop m calendar) m k
  unfolding seek_from
  seek_here l = rw (drop-cons calendar m 0, ← e, lt-ltb d 32 l)

  pub seek_next : 32 ≤ d → seek_from (drop m calendar) m k ≡ seek_from (drop (m + 1) calendar) (m + 1) 0
  unfolding seek_from
  seek_next l = rw (drop-cons calendar m 0, ← e, le-ltb d 32 l, add-one)

pub seek_end : (calendar : List ℕ) (m k : ℕ) → length calendar ≤ m → 0 ≡ seek_from (drop m calendar) m k
unfolding seek_from
seek_end calendar m k h = rw (drop_of_length-le calendar {i = m} h)

-- ---- the calendar's rule

le_of_not_lt : {m n : ℕ} → (n < m → ⊥) → m ≤ n
le_of_not_lt h = le_of_suc-le-suc (lt_of_not-le h)

-- what the loop over a year's words keeps: the words from m on decide; the first of them is word a of the calendar
pub record Judging (words : List ℕ) (a m : ℕ) : Type 0 where
  pub small : m ≤ 12
  pub rest : bad_from a words ≡ bad_from (a + m) (drop m words)

pub judge_start : (words : List ℕ) (a : ℕ) → Judging words a 0
judge_start words a = record { small = omega arith; rest = ap (λ (n : ℕ). bad_from n words) (sym (add-zero a)) }

module _ {words : List ℕ} {a m n : ℕ} (j : Judging words a m) (h : m < 12) (l : length words ≡ 12) (e : n ≡ length_of (a + m)) where
  pub judge_bad : (get_or words m 0 / 2 ^ n ≡ 0 → ⊥) → true ≡ bad_from a words
  unfolding bad_from
  judge_bad z =
      let f : 2 ^ n ≤ get_or words m 0 = le_of_not_lt (λ g. z (div-eq_of_lt g)) in
      sym (j.rest ∙ rw (drop-cons words m 0 (omega arith), ← e, le-leb (2 ^ n) (get_or words m 0) f))

  pub judge_next : get_or words m 0 / 2 ^ n ≡ 0 → Judging words a (m + 1)
  unfolding bad_from
  judge_next z =
      let g : get_or words m 0 / 2 ^ n < 1 = omega arith in
      let f : get_or words m 0 < 2 ^ n
      = subst (λ (x : ℕ). get_or words m 0 < x) (one-mul (2 ^ n)) ((div-lt_iff_lt-mul (pow_pos n)).0 g) in
      let k : a + (m + 1) ≡ suc (a + m) = omega arith in
      record {
        small = omega arith;
        rest = j.rest ∙ rw (k, drop-cons words m 0 (omega arith), ← e, lt-leb (2 ^ n) (get_or words m 0) f, add-one);
      }

pub judge_end : {words : List ℕ} {a m : ℕ} → Judging words a m → 12 ≤ m → length words ≡ 12 → false ≡ bad_from a words
unfolding bad_from
judge_end {words} {a} {m} j h l = sym (j.rest ∙ rw (drop_of_length-le words {i = m} (omega arith)))

-- the month of word 12y + m
pub year_length : (y m : ℕ) → m < 12 → month_length (2000 + y) (m + 1) ≡ length_of (12 * y + m)
unfolding length_of
year_length y m h =
    let d : (12 * y + m) / 12 ≡ y = omega arith in
    let r : (12 * y + m) % 12 ≡ m = omega arith in
    rw (d, r) refl

-- what the loop over the years keeps: the words from year y on decide
pub record Yearly (calendar : List ℕ) (y : ℕ) : Type 0 where
  pub small : y ≤ 40
  pub rest : bad_calendar calendar ≡ bad_from (12 * y) (drop (12 * y) calendar)

pub year_start : (calendar : List ℕ) → Yearly calendar 0
unfolding bad_calendar
year_start calendar = record { small = omega arith; rest = refl }

bad_append : (m : ℕ) (xs ys : List ℕ) → bad_from m (xs ++ ys) ≡ bad_from m xs || bad_from (m + length xs) ys
unfolding bad_from
bad_append m [] ys = ap (λ (n : ℕ). bad_from n ys) (sym (add-zero m))
bad_append m (x ∷ xs) ys =
    ap (λ (b : Bool). leb (2 ^ length_of m) x || b) (bad_append (suc m) xs ys ∙ ap (λ (n : ℕ). bad_from (suc m) xs || bad_from n ys) (omega arith))
    ∙ or_assoc (leb (2 ^ length_of m) x) (bad_from (suc m) xs) (bad_from (m + suc (length xs)) ys)
  where
    or_assoc : (a b c : Bool) → a || (b || c) ≡ (a || b) || c
    or_assoc true b c = refl
    or_assoc false b c = refl

module _ {calendar : List ℕ} {y : ℕ} (k : Yearly calendar y) (h : y < 40) (l : length calendar ≡ 480) where
  year_split : bad_calendar calendar ≡ bad_from (12 * y) (take (12 * y + 12 - 12 * y) (drop (12 * y) calendar)) || bad_from (12 * (y + 1)) (drop (12 * (y + 1)) calendar)
  year_split =
      let t : 12 * y + 12 - 12 * y ≡ 12 = omega arith in
      let n : 12 * (y + 1) ≡ 12 * y + 12 = omega arith in
      let z : length (take 12 (drop (12 * y) calendar)) ≡ 12 = length-take-le 12 (drop (12 * y) calendar) (omega (arith, length-drop (12 * y) calendar)) in
      k.rest
      ∙ ap (bad_from (12 * y)) (sym (take-append-drop 12 (drop (12 * y) calendar)))
      ∙ bad_append (12 * y) (take 12 (drop (12 * y) calendar)) (drop 12 (drop (12 * y) calendar))
      ∙ rw (t, n, z, drop-drop 12 (12 * y) calendar) refl

  pub year_bad : true ≡ bad_from (12 * y) (take (12 * y + 12 - 12 * y) (drop (12 * y) calendar)) → true ≡ bad_calendar calendar
  year_bad e = sym (year_split ∙ ap (λ (b : Bool). b || bad_from (12 * (y + 1)) (drop (12 * (y + 1)) calendar)) (sym e))

  pub year_next : false ≡ bad_from (12 * y) (take (12 * y + 12 - 12 * y) (drop (12 * y) calendar)) → Yearly calendar (y + 1)
  year_next e =
      record {
        small = omega arith;
        rest = year_split ∙ ap (λ (b : Bool). b || bad_from (12 * (y + 1)) (drop (12 * (y + 1)) calendar)) (sym e);
      }

pub year_end : {calendar : List ℕ} {y : ℕ} → Yearly calendar y → 40 ≤ y → length calendar ≡ 480 → false ≡ bad_calendar calendar
unfolding bad_from
year_end {calendar} {y} k h l = sym (k.rest ∙ rw (drop_of_length-le calendar {i = 12 * y} (omega arith)))

-- ---- the last open day

-- what the loop keeps: the words below m decide
pub record Falling (calendar : List ℕ) (m : ℕ) : Type 0 where
  pub small : m ≤ 480
  pub rest : last_open calendar ≡ last_below calendar m

pub fall_start : (calendar : List ℕ) → Falling calendar 480
unfolding last_open
fall_start calendar = record { small = omega arith; rest = refl }

module _ {calendar : List ℕ} {m : ℕ} (f : Falling calendar m) (h : 0 < m) where
  one_more : m ≡ suc (m - 1)
  one_more = omega arith

  pub fall_here : (d : ℕ) → (get_or calendar (m - 1) 0 ≡ 0 → ⊥) → d ≡ highest_below 32 (get_or calendar (m - 1) 0) → date_of (m - 1) d ≡ last_open calendar
  unfolding last_below
  fall_here d n e = sym (f.rest ∙ ap (last_below calendar) one_more ∙ rw (ne_eqb (get_or calendar (m - 1) 0) 0 n, ← e))

  pub fall_next : get_or calendar (m - 1) 0 ≡ 0 → Falling calendar (m - 1)
  unfolding last_below
  fall_next z =
      record {
        small = omega (arith, f.small);
        rest = f.rest ∙ ap (last_below calendar) one_more ∙ rw (eq-eqb (get_or calendar (m - 1) 0) 0 z);
      }

pub fall_end : {calendar : List ℕ} {m : ℕ} → Falling calendar m → m ≤ 0 → 0 ≡ last_open calendar
unfolding last_below
fall_end {calendar} {m} f h = let z : m ≡ 0 = omega arith in sym (f.rest ∙ ap (last_below calendar) z)
