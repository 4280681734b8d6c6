-- Digits: the laws for a loop that reads them, and the eight digits of a number in other words.
use mathlib.Core.Path.{◌≡◌, refl, sym, ap, ◌∙◌}
use mathlib.Core.Bool.{true, false}
use mathlib.Core.List.{List, [], ◌∷◌}
use Prim.Native.Nat.{ℕ, ◌+◌, ◌-◌, ◌*◌, ◌/◌, ◌%◌, ◌^◌, ◌≤◌, ◌<◌}
use native.Mathlib.Nat.{pow-suc, pow-le-pow_right, zero-lt-suc, lt_of_lt_of_le}
use native.Mathlib.Numerals.{add-one}
use native.Mathlib.Omega.{arith}
use lib.Arith.{digits_lt}
use lib.Dec.{leb, lit<}
use lib.ListN.{length, drop, get_or, drop_of_length-le}
use lib.Seq.{drop-cons}
use borrow.Author.Tests.{le-leb, lt-leb, leb-true}
use Rattle.lists.specs.Tests.{and_left, and_right}
use Rattle.lists.specs.All.{all, all_stop, all_go, all_end, all_at}
use Rattle.tags.specs.ContractDateTag.{is_digit, digits_after, digits_number}

-- ---- one byte

pub digit : (b : ℕ) → 48 ≤ b → b ≤ 57 → is_digit b ≡ true
unfolding is_digit
digit b l h = rw (le-leb 48 b l, le-leb b 57 h)

pub below_digits : (b : ℕ) → b < 48 → is_digit b ≡ false
unfolding is_digit
below_digits b h = rw (lt-leb 48 b h)

pub above_digits : (b : ℕ) → 48 ≤ b → 57 < b → is_digit b ≡ false
unfolding is_digit
above_digits b l h = rw (le-leb 48 b l, lt-leb b 57 h)

digit_range : (b : ℕ) → is_digit b ≡ true → (48 ≤ b) × (b ≤ 57)
unfolding is_digit
digit_range b e = (leb-true 48 b (and_left _ _ e), leb-true b 57 (and_right (leb 48 b) _ e))

digit_low : (b : ℕ) → is_digit b ≡ true → b - 48 ≤ 9
digit_low b e = let r = digit_range b e in omega arith

digit_is : (b : ℕ) → is_digit b ≡ true → 48 + (b - 48) ≡ b
digit_is b e = let r = digit_range b e in omega arith

-- ---- from place i on, as a loop goes

-- The first i bytes are digits, and they write n.
pub record Reading (bs : List ℕ) (n i : ℕ) : Type 0 where
  pub low : n < 10 ^ i
  pub digits : all is_digit bs ≡ all is_digit (drop i bs)
  pub number : digits_number bs ≡ digits_after n (drop i bs)

pub read_start : (bs : List ℕ) → Reading bs 0 0
unfolding digits_number
read_start bs = record { low = omega arith; digits = refl; number = refl }

module _ {bs : List ℕ} {n i : ℕ} (r : Reading bs n i) where
  pub read_room : i < 8 → n < 10000000
  read_room h =
      let seven : i ≤ 7 = omega arith in
      lt_of_lt_of_le r.low (pow-le-pow_right {n = 10} (zero-lt-suc 9) seven)

  module _ (h : i < length bs) where
    pub read_stop : is_digit (get_or bs i 0) ≡ false → all is_digit bs ≡ false
    read_stop e = r.digits ∙ all_stop is_digit bs i 0 h e

    pub read_step : 48 ≤ get_or bs i 0 → get_or bs i 0 ≤ 57 → Reading bs (n * 10 + (get_or bs i 0 - 48)) (i + 1)
    unfolding digits_after
    read_step l m = record {
      low = rw (add-one, pow-suc) (digits_lt r.low (omega arith));
      digits = r.digits ∙ all_go is_digit bs i 0 h (digit _ l m);
      number = r.number ∙ rw (drop-cons bs i 0, add-one);
    }

  module _ (h : length bs ≤ i) where
    pub read_digits : all is_digit bs ≡ true
    read_digits = r.digits ∙ all_end is_digit bs i h

    pub read_number : digits_number bs ≡ n
    unfolding digits_after
    read_number = r.number ∙ rw (drop_of_length-le bs {i = i} h)

-- ---- in other words

-- The eight digits of a number.
abbrev pub written : ℕ → List ℕ
written n =
    (48 + n / 10000000 % 10)
    ∷ (48 + n / 1000000 % 10)
    ∷ (48 + n / 100000 % 10)
    ∷ (48 + n / 10000 % 10)
    ∷ (48 + n / 1000 % 10)
    ∷ (48 + n / 100 % 10)
    ∷ (48 + n / 10 % 10)
    ∷ (48 + n % 10)
    ∷ []

-- Written down and read again, a number is the same.
pub written_number : (n : ℕ) → n < 100000000 → digits_number (written n) ≡ n
unfolding digits_number digits_after
written_number n h =
    let minus : (x : ℕ) → 48 + x - 48 ≡ x = λ x. omega arith in
    let s7 : 0 * 10 + n / 10000000 % 10 ≡ n / 10000000 = omega arith in
    let s6 : n / 10000000 * 10 + n / 1000000 % 10 ≡ n / 1000000 = omega arith in
    let s5 : n / 1000000 * 10 + n / 100000 % 10 ≡ n / 100000 = omega arith in
    let s4 : n / 100000 * 10 + n / 10000 % 10 ≡ n / 10000 = omega arith in
    let s3 : n / 10000 * 10 + n / 1000 % 10 ≡ n / 1000 = omega arith in
    let s2 : n / 1000 * 10 + n / 100 % 10 ≡ n / 100 = omega arith in
    let s1 : n / 100 * 10 + n / 10 % 10 ≡ n / 10 = omega arith in
    let s0 : n / 10 * 10 + n % 10 ≡ n = omega arith in
    simp minus (rw (s7, s6, s5, s4, s3, s2, s1, s0))

pub written_digits : (n : ℕ) → all is_digit (written n) ≡ true
written_digits n =
    let d : (k : ℕ) → is_digit (48 + k % 10) ≡ true = λ k. digit (48 + k % 10) (omega arith) (omega arith) in
    rw (d (n / 10000000), d (n / 1000000), d (n / 100000), d (n / 10000), d (n / 1000), d (n / 100), d (n / 10), d n)

-- Eight digits are those of the number that they write.
eight : (bs : List ℕ) → length bs ≡ 8
    → bs ≡ get_or bs 0 0 ∷ get_or bs 1 0 ∷ get_or bs 2 0 ∷ get_or bs 3 0 ∷ get_or bs 4 0 ∷ get_or bs 5 0 ∷ get_or bs 6 0 ∷ get_or bs 7 0 ∷ []
eight bs h =
    drop-cons bs 0 0 (omega arith)
    ∙ rw (drop-cons bs 1 0 (omega arith), drop-cons bs 2 0 (omega arith), drop-cons bs 3 0 (omega arith), drop-cons bs 4 0 (omega arith), drop-cons bs 5 0 (omega arith), drop-cons bs 6 0 (omega arith), drop-cons bs 7 0 (omega arith), drop_of_length-le bs {i = 8} (omega arith))

-- the number with these digits, and each digit of it
weigh : ℕ → ℕ → ℕ → ℕ → ℕ → ℕ → ℕ → ℕ → ℕ
weigh a b c d e f g h = (((((((0 * 10 + a) * 10 + b) * 10 + c) * 10 + d) * 10 + e) * 10 + f) * 10 + g) * 10 + h

module _ (a b c d e f g h : ℕ) (p : a ≤ 9) (q : b ≤ 9) (r : c ≤ 9) (s : d ≤ 9) (t : e ≤ 9) (u : f ≤ 9) (v : g ≤ 9) (w : h ≤ 9) where
  weighed : written (weigh a b c d e f g h) ≡ (48 + a) ∷ (48 + b) ∷ (48 + c) ∷ (48 + d) ∷ (48 + e) ∷ (48 + f) ∷ (48 + g) ∷ (48 + h) ∷ []
  unfolding weigh
  weighed =
      let n = (((((((0 * 10 + a) * 10 + b) * 10 + c) * 10 + d) * 10 + e) * 10 + f) * 10 + g) * 10 + h in
      let e0 : n / 10000000 % 10 ≡ a = omega arith in
      let e1 : n / 1000000 % 10 ≡ b = omega arith in
      let e2 : n / 100000 % 10 ≡ c = omega arith in
      let e3 : n / 10000 % 10 ≡ d = omega arith in
      let e4 : n / 1000 % 10 ≡ e = omega arith in
      let e5 : n / 100 % 10 ≡ f = omega arith in
      let e6 : n / 10 % 10 ≡ g = omega arith in
      let e7 : n % 10 ≡ h = omega arith in
      rw (e0, e1, e2, e3, e4, e5, e6, e7)

again : (a b c d e f g h : ℕ) → all is_digit (a ∷ b ∷ c ∷ d ∷ e ∷ f ∷ g ∷ h ∷ []) ≡ true
    → a ∷ b ∷ c ∷ d ∷ e ∷ f ∷ g ∷ h ∷ [] ≡ written (digits_number (a ∷ b ∷ c ∷ d ∷ e ∷ f ∷ g ∷ h ∷ []))
unfolding digits_number digits_after weigh
again a b c d e f g h t =
    let xs : List ℕ = a ∷ b ∷ c ∷ d ∷ e ∷ f ∷ g ∷ h ∷ [] in
    let low : (k : ℕ) → k < 8 → get_or xs k 0 - 48 ≤ 9 = λ k l. digit_low _ (all_at is_digit xs 0 t k l) in
    let is : (k : ℕ) → k < 8 → 48 + (get_or xs k 0 - 48) ≡ get_or xs k 0 = λ k l. digit_is _ (all_at is_digit xs 0 t k l) in
    sym (weighed _ _ _ _ _ _ _ _ (low 0 (lit< tt)) (low 1 (lit< tt)) (low 2 (lit< tt)) (low 3 (lit< tt)) (low 4 (lit< tt)) (low 5 (lit< tt)) (low 6 (lit< tt)) (low 7 (lit< tt))
    ∙ rw (is 0 (lit< tt), is 1 (lit< tt), is 2 (lit< tt), is 3 (lit< tt), is 4 (lit< tt), is 5 (lit< tt), is 6 (lit< tt), is 7 (lit< tt)))

pub digits_written : (bs : List ℕ) → length bs ≡ 8 → all is_digit bs ≡ true → bs ≡ written (digits_number bs)
digits_written bs h t =
    let e = eight bs h in
    e ∙ again _ _ _ _ _ _ _ _ (rw e at t) ∙ ap (λ (l : List ℕ). written (digits_number l)) (sym e)
