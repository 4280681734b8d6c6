-- Six months before a day in other words: the month is six before the day's, counted through the years, and the day is the same, or the
-- last of that month if the month is shorter. No other number is so.
use mathlib.Core.Path.{◌≡◌, refl, sym, ◌∙◌}
use mathlib.Core.Logic.{◌⊎◌, inl, inr}
use mathlib.Core.Bool.{Bool, true, false, cond}
use Prim.Native.Nat.{ℕ, ◌+◌, ◌-◌, ◌*◌, ◌/◌, ◌%◌, ◌≤◌, ◌<◌}
use native.Mathlib.Omega.{arith}
use lib.Dec.{leb, ltb}
use borrow.Author.Tests.{leb-true, leb-false, ltb-true, ltb-false, le-leb, lt-leb, lt-ltb, le-ltb}
use Rattle.days.specs.Days.{is_date, month_length, year_of, month_of, day_of}
use Rattle.days.specs.MemoDay.{day_within, six_months_before}
use Rattle.days.proofs.Lengths.{length_le}
use Rattle.days.proofs.Parts.{parts}

-- ---- the code's arithmetic

module _ (y m d : ℕ) where
  pub within_day : d ≤ month_length y m → y * 10000 + m * 100 + d ≡ day_within y m d
  unfolding day_within
  within_day h = rw (le-leb d (month_length y m) h)

  pub within_last : month_length y m < d → y * 10000 + m * 100 + month_length y m ≡ day_within y m d
  unfolding day_within
  within_last h = rw (lt-leb d (month_length y m) h)

module _ (day : ℕ) where
  pub half_later : 6 < month_of day → day_within (year_of day) (month_of day - 6) (day_of day) ≡ six_months_before day
  unfolding six_months_before
  half_later h = rw (lt-ltb 6 (month_of day) h)

  pub half_earlier : month_of day ≤ 6 → day_within (year_of day - 1) (month_of day + 6) (day_of day) ≡ six_months_before day
  unfolding six_months_before
  half_earlier h = rw (le-ltb 6 (month_of day) h)

-- ---- in other words

-- The day d is that of another day where month m of year y has it, and its last day where it has not.
abbrev pub SameDay : ℕ → ℕ → ℕ → ℕ → Type 0
SameDay y m d other = ((other ≤ month_length y m) × (d ≡ other)) ⊎ ((month_length y m < other) × (d ≡ month_length y m))

pub record SixMonthsEarlier (day earlier : ℕ) : Type 0 where
  pub month_from : 1 ≤ month_of earlier
  pub month_to : month_of earlier ≤ 12
  pub months : 12 * year_of earlier + month_of earlier + 6 ≡ 12 * year_of day + month_of day
  pub same_day : SameDay (year_of earlier) (month_of earlier) (day_of earlier) (day_of day)

-- the day that a month has or its last
within : (y m d : ℕ) → 1999 ≤ y → y < 2040 → 1 ≤ m → m ≤ 12
    → (year_of (day_within y m d) ≡ y) × (month_of (day_within y m d) ≡ m) × SameDay y m (day_of (day_within y m d)) d
unfolding day_within
within y m d hy ly hm lm = go (leb d (month_length y m)) refl
  where
    few : month_length y m ≤ 31
    few = length_le y m hy ly hm lm

    go : (b : Bool) → leb d (month_length y m) ≡ b
        → let n = y * 10000 + m * 100 + cond b d (month_length y m) in
        (n / 10000 ≡ y) × (n / 100 % 100 ≡ m) × SameDay y m (n % 100) d
    go true e =
        let h = leb-true d (month_length y m) e in
        (omega (arith, few), omega (arith, few), inl (h, omega (arith, few)))
    go false e =
        let h = leb-false d (month_length y m) e in
        (omega (arith, few), omega (arith, few), inr (h, omega (arith, few)))

pub six_months_words : (day : ℕ) → is_date day ≡ true → SixMonthsEarlier day (six_months_before day)
unfolding six_months_before
six_months_words day e = go (ltb 6 (month_of day)) refl
  where
    made : (y m : ℕ) → 1999 ≤ y → y < 2040 → 1 ≤ m → m ≤ 12 → 12 * y + m + 6 ≡ 12 * year_of day + month_of day
        → SixMonthsEarlier day (day_within y m (day_of day))
    made y m hy ly hm lm s =
        let w = within y m (day_of day) hy ly hm lm in
        record {
          month_from = omega (arith, w.1);
          month_to = omega (arith, w.1);
          months = omega (arith, w.0, w.1);
          same_day = rw (w.0, w.1) w.2;
        }

    go : (b : Bool) → ltb 6 (month_of day) ≡ b
        → SixMonthsEarlier day (cond b (day_within (year_of day) (month_of day - 6) (day_of day)) (day_within (year_of day - 1) (month_of day + 6) (day_of day)))
    go true t =
        let p = parts day e in
        let h = ltb-true 6 (month_of day) t in
        made (year_of day) (month_of day - 6) (omega arith) (omega arith) (omega arith) (omega arith) (omega arith)
    go false f =
        let p = parts day e in
        let h = ltb-false 6 (month_of day) f in
        made (year_of day - 1) (month_of day + 6) (omega arith) (omega arith) (omega arith) (omega arith) (omega arith)

-- a number is its parts
whole : (n : ℕ) → n ≡ year_of n * 10000 + month_of n * 100 + day_of n
whole n = omega arith

by_parts : (m n : ℕ) → year_of m ≡ year_of n → month_of m ≡ month_of n → day_of m ≡ day_of n → m ≡ n
by_parts m n y k d = whole m ∙ rw (y, k, d) (sym (whole n))

-- two numbers that are six months earlier are one
pub one_earlier : (day m n : ℕ) → SixMonthsEarlier day m → SixMonthsEarlier day n → m ≡ n
one_earlier day m n a b =
    let y : year_of m ≡ year_of n = omega (arith, a.months, b.months, a.month_from, a.month_to, b.month_from, b.month_to) in
    let k : month_of m ≡ month_of n = omega (arith, a.months, b.months, a.month_from, a.month_to, b.month_from, b.month_to) in
    by_parts m n y k (same a.same_day (rw (← y, ← k) at b.same_day))
  where
    same : SameDay (year_of m) (month_of m) (day_of m) (day_of day) → SameDay (year_of m) (month_of m) (day_of n) (day_of day) → day_of m ≡ day_of n
    same (inl p) (inl q) = omega (arith, p.1, q.1)
    same (inl p) (inr q) = absurd (omega (arith, p.0, q.0))
    same (inr p) (inl q) = absurd (omega (arith, p.0, q.0))
    same (inr p) (inr q) = omega (arith, p.1, q.1)
