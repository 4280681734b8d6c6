-- The parts of a date, and the date of a word and a day: each from the other.
use mathlib.Core.Path.{◌≡◌, refl, sym, ◌∙◌, subst}
use mathlib.Core.Bool.{Bool, true, false, cond}
use Prim.Native.Nat.{ℕ, suc, ◌+◌, ◌-◌, ◌*◌, ◌/◌, ◌%◌, ◌≤◌, ◌<◌}
use native.Mathlib.Omega.{arith}
use lib.Dec.{leb}
use borrow.Author.Tests.{leb-true, le-leb, ne_eqb}
use Rattle.lists.specs.Tests.{and_left, and_right}
use Rattle.days.specs.Days.{as_day, first_date, last_date, year_of, month_of, day_of, is_date, month_length, checked, word_of, date_of, length_of}
use Rattle.days.specs.declared.Date.{Date}
use Rattle.std.proofs.Common.{Option, Some, None}
use Rattle.std.specs.Option.{is_some}
use Rattle.days.proofs.Lengths.{length_le}

pub record Parts (n : ℕ) : Type 0 where
  pub from : first_date ≤ n
  pub to : n ≤ last_date
  pub month_from : 1 ≤ month_of n
  pub month_to : month_of n ≤ 12
  pub day_from : 1 ≤ day_of n
  pub day_to : day_of n ≤ month_length (year_of n) (month_of n)
  pub day_31 : day_of n ≤ 31

pub parts : (n : ℕ) → is_date n ≡ true → Parts n
unfolding is_date
parts n e =
    let a = leb-true first_date n (and_left _ _ e) in
    let r1 = and_right (leb first_date n) _ e in
    let b = leb-true n last_date (and_left _ _ r1) in
    let r2 = and_right (leb n last_date) _ r1 in
    let c = leb-true 1 (month_of n) (and_left _ _ r2) in
    let r3 = and_right (leb 1 (month_of n)) _ r2 in
    let d = leb-true (month_of n) 12 (and_left _ _ r3) in
    let r4 = and_right (leb (month_of n) 12) _ r3 in
    let f = leb-true 1 (day_of n) (and_left _ _ r4) in
    let g = leb-true (day_of n) _ (and_right (leb 1 (day_of n)) _ r4) in
    let l = length_le (year_of n) (month_of n) (omega arith) (omega arith) c d in
    record { from = a; to = b; month_from = c; month_to = d; day_from = f; day_to = g; day_31 = omega arith }

-- a number of these years with a month and a day above 0 is a date if its month has the day
pub date_by_length : (n : ℕ) → first_date ≤ n → n ≤ last_date → 1 ≤ month_of n → month_of n ≤ 12 → 1 ≤ day_of n
    → is_date n ≡ leb (day_of n) (month_length (year_of n) (month_of n))
unfolding is_date
date_by_length n h l hm lm hd = simp (le-leb _ _ h, le-leb _ _ l, le-leb _ _ hm, le-leb _ _ lm, le-leb _ _ hd)

-- ---- a date is its word and its day

pub word_lt : (n : ℕ) → is_date n ≡ true → word_of n < 480
unfolding word_of
word_lt n e = let p = parts n e in omega arith

pub date_parts : (n : ℕ) → is_date n ≡ true → date_of (word_of n) (day_of n - 1) ≡ n
unfolding word_of date_of
date_parts n e = let p = parts n e in omega arith

-- a day that its month has is a date
pub date_made : (m d : ℕ) → m < 480 → d < length_of m → is_date (date_of m d) ≡ true
unfolding date_of length_of
date_made m d h l =
    let y = 2000 + m / 12 in
    let k = m % 12 + 1 in
    let s = length_le y k (omega arith) (omega arith) (omega arith) (omega arith) in
    let n = (2000 + m / 12) * 10000 + (m % 12 + 1) * 100 + (d + 1) in
    let y1 : m / 12 ≤ 39 = omega arith in
    let m1 : m % 12 ≤ 11 = omega arith in
    let d1 : d + 1 ≤ 31 = omega arith in
    let e1 : n / 10000 ≡ y = omega arith in
    let e2 : n / 100 % 100 ≡ k = omega arith in
    let e3 : n % 100 ≡ suc d = omega arith in
    rw (date_by_length n (omega arith) (omega arith) (omega arith) (omega arith) (omega arith), e1, e2, e3, le-leb (suc d) (month_length y k) l)

-- and its parts are that word and that day
pub made_word : (m d : ℕ) → d < 32 → word_of (date_of m d) ≡ m
unfolding word_of date_of
made_word m d l = omega arith

pub made_day : (m d : ℕ) → d < 32 → day_of (date_of m d) ≡ d + 1
unfolding date_of
made_day m d l = omega arith

-- dates go as their words and days
pub date_order : (m d n e : ℕ) → d < 32 → e < 32 → 32 * m + d ≤ 32 * n + e → date_of m d ≤ date_of n e
unfolding date_of
date_order m d n e h k l = omega arith

pub order_date : (m d n e : ℕ) → d < 32 → e < 32 → date_of m d ≤ date_of n e → 32 * m + d ≤ 32 * n + e
unfolding date_of
order_date m d n e h k l = omega arith

pub date_positive : (m d : ℕ) → date_of m d ≡ 0 → ⊥
unfolding date_of
date_positive m d e = omega arith

-- ---- what the checking constructor's answer says

abbrev pub Says : Option Date → ℕ → Type 0
Says (Some d) n = (is_date n ≡ true) × (d.0 ≡ n)
Says None n = is_date n ≡ false

says : (n : ℕ) → Says (checked n) n
unfolding checked
says n = go (is_date n) refl
  where
    go : (b : Bool) → is_date n ≡ b → Says (cond b (Some (record { 0 = n })) None) n
    go true e = (e, refl)
    go false e = e

pub is_date_lem : (n : ℕ) {r : Option Date} {d : Date} → r ≡ checked n → r ≡ Some d → (is_date n ≡ true) × (d.0 ≡ n)
is_date_lem n e f = subst (λ (x : Option Date). Says x n) (sym e ∙ f) (says n)

pub not_date : (n : ℕ) {r : Option Date} → r ≡ checked n → r ≡ None → is_date n ≡ false
not_date n e f = subst (λ (x : Option Date). Says x n) (sym e ∙ f) (says n)

pub some_date : (n : ℕ) → is_some (checked n) ≡ is_date n
unfolding checked
some_date n = go (is_date n)
  where
    day : Date
    day = record { 0 = n }

    go : (b : Bool) → is_some (cond b (Some day) None) ≡ b
    go true = refl
    go false = refl

-- ---- what a search answers

-- the date found, as the definition's number of a day, and no date for 0
pub found_day : (m d : ℕ) {r n : ℕ} → r ≡ date_of m d → r ≡ n → Some (record { 0 = r }) ≡ as_day n
unfolding as_day
found_day m d {r} {n} e f = rw (← f, ne_eqb r 0 (λ (z : r ≡ 0). date_positive m d (sym e ∙ z))) refl

pub nothing_found : {n : ℕ} → 0 ≡ n → None ≡ as_day n
unfolding as_day
nothing_found {n} e = rw (← e) refl
