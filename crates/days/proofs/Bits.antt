-- The lowest and the highest bit of a word that is on, found by the zeros below and above it.
use mathlib.Core.Path.{◌≡◌, refl, sym, ap, ◌∙◌, subst, subst⁻¹}
use mathlib.Core.Bool.{Bool, true, false, cond}
use Prim.Native.Nat.{ℕ, zero, suc, ◌+◌, ◌-◌, ◌*◌, ◌/◌, ◌%◌, ◌^◌, ◌≤◌, ◌<◌}
use native.Mathlib.Nat.{mod-lt, add-zero, zero-add, add-suc, suc-add, mul-one, one-mul, not-suc-le-zero, le_of_suc-le-suc, zero-lt-suc, lt_of_not-le, lt_of_lt_of_le, le_trans, lt_irrefl, le-div_iff_mul-le, div-eq_of_lt, div-lt_iff_lt-mul, pow-suc}
use native.Mathlib.Numerals.{add-one}
use native.Mathlib.Omega.{arith}
use lib.Dec.{eqb}
use lib.Pow.{shr-shr, shr_mod, pow_pos, pow_mono}
use lib.Bits.{bit_and, and_high, shifted_half, shifted_even}
use lib.Count.{count_trailing_zeros, count_leading_zeros, under, leading_top}
use borrow.Author.Tests.{eqb-true, eq-eqb}
use Rattle.lists.specs.Tests.{below, below_at}
use Rattle.days.specs.Days.{bit_on, lowest_from, highest_below}

-- ---- the lowest bit, from a place on

-- one digit: on or off
digit : (b t k f : ℕ) → b < 2 → k + suc t ≡ f → k + under b t ≡ cond (eqb b 1) k f
digit zero t k f h e = e
digit (suc zero) t k f h e = add-zero k
digit (suc (suc b)) t k f h e = absurd (not-suc-le-zero (le_of_suc-le-suc (le_of_suc-le-suc h)))

-- the zeros of the bits from k on
above : (n k w : ℕ) → k + count_trailing_zeros n (w / 2 ^ k) ≡ lowest_from n k w
unfolding count_trailing_zeros lowest_from bit_on
above zero k w = add-zero k
above (suc n) k w =
    digit (w / 2 ^ k % 2) (count_trailing_zeros n (w / 2 ^ k / 2)) k (lowest_from n (suc k) w) (mod-lt (w / 2 ^ k) (zero-lt-suc 1))
    (add-suc k _ ∙ sym (suc-add k _) ∙ rw (shr-shr w k 1, add-one) (above n (suc k) w))

-- k zeros below
cleared : (k j v : ℕ) → count_trailing_zeros (k + j) (v * 2 ^ k) ≡ k + count_trailing_zeros j v
unfolding count_trailing_zeros
cleared zero j v = rw (zero-add, mul-one, zero-add)
cleared (suc k) j v = rw (suc-add, shifted_even v k, shifted_half v k, suc-add) (ap suc (cleared k j v))

-- the zeros below the lowest bit of the masked word
pub lowest_masked : (k w : ℕ) → w < 2 ^ 32 → k < 32
    → count_trailing_zeros 32 (bit_and w (4294967295 * 2 ^ k % 2 ^ 32)) ≡ lowest_from (32 - k) k w
unfolding below
lowest_masked k w h l =
    let e : 32 - k + k ≡ 32 = omega arith in
    let f : k + (32 - k) ≡ 32 = omega arith in
    let m : 4294967295 * 2 ^ k % 4294967296 ≡ 4294967296 - 2 ^ k
    = eqb-true _ _ (below_at (λ k. eqb (4294967295 * 2 ^ k % 4294967296) (4294967296 - 2 ^ k)) 32 refl k l) in
    let a : bit_and w (2 ^ 32 - 2 ^ k) ≡ w / 2 ^ k % 2 ^ (32 - k) * 2 ^ k
    = subst (λ (n : ℕ). bit_and w (2 ^ n - 2 ^ k) ≡ w / 2 ^ k % 2 ^ (32 - k) * 2 ^ k) e (and_high w (32 - k) k) in
    ap (λ (x : ℕ). count_trailing_zeros 32 (bit_and w x)) m
    ∙ ap (count_trailing_zeros 32) (a ∙ ap (λ (x : ℕ). x * 2 ^ k) (shr_mod (32 - k) k (subst⁻¹ (λ (n : ℕ). w < 2 ^ n) e h)))
    ∙ subst (λ (n : ℕ). count_trailing_zeros n (w / 2 ^ k * 2 ^ k) ≡ lowest_from (32 - k) k w) f (cleared k (32 - k) (w / 2 ^ k) ∙ above (32 - k) k w)

-- what the lowest bit is: at k or above, on unless it is the end, and nothing before it is on
pub record Lowest (n k w r : ℕ) : Type 0 where
  pub from : k ≤ r
  pub to : r ≤ k + n
  pub on : r < k + n → bit_on w r ≡ true
  pub first : (e : ℕ) → k ≤ e → bit_on w e ≡ true → e < k + n → r ≤ e

choose : (b : Bool) (n k w r : ℕ) → bit_on w k ≡ b → Lowest n (suc k) w r → Lowest (suc n) k w (cond b k r)
choose true n k w r e l = record { from = omega arith; to = omega arith; on = λ h. e; first = λ j h o s. h }
choose false n k w r e l =
    record {
      from = omega (arith, l.from);
      to = omega (arith, l.to);
      on = λ h. l.on (omega arith);
      first = λ j h o s. later j h o s;
    }
  where
    later : (j : ℕ) → k ≤ j → bit_on w j ≡ true → j < k + suc n → r ≤ j
    later j h o s = go (lt_of_not-le (λ (g : j ≤ k). let q : j ≡ k = omega arith in let z : ◌≡◌ {A = Bool} true false = sym o ∙ ap (bit_on w) q ∙ e in let c : ◌≡◌ {A = ℕ} 0 1 = cc in absurd (omega arith)))
      where
        go : k < j → r ≤ j
        go g = l.first j (omega arith) o (omega arith)

pub lowest : (n k w : ℕ) → Lowest n k w (lowest_from n k w)
unfolding lowest_from
lowest zero k w = record { from = omega arith; to = omega arith; on = λ h. absurd (omega arith); first = λ e h o s. absurd (omega arith) }
lowest (suc n) k w = choose (bit_on w k) n k w (lowest_from n (suc k) w) refl (lowest n (suc k) w)

-- ---- a bit that is on

-- it lies below the length of a bound
pub bit_lt : (w d n : ℕ) → bit_on w d ≡ true → w < 2 ^ n → d < n
unfolding bit_on
bit_lt w d n o h =
    let one : w / 2 ^ d % 2 ≡ 1 = eqb-true _ _ o in
    let p : 1 ≤ w / 2 ^ d = omega arith in
    let q : 2 ^ d ≤ w = subst (λ (x : ℕ). x ≤ w) (one-mul (2 ^ d)) ((le-div_iff_mul-le (pow_pos d)).0 p) in
    lt_of_not-le (λ (l : n ≤ d). lt_irrefl w (lt_of_lt_of_le h (le_trans (pow_mono l) q)))

-- the top bit of a number is on
pub top_on : (w j : ℕ) → 2 ^ j ≤ w → w < 2 ^ suc j → bit_on w j ≡ true
unfolding bit_on
top_on w j l h =
    let a : 1 ≤ w / 2 ^ j = (le-div_iff_mul-le (pow_pos j)).1 (subst⁻¹ (λ (x : ℕ). x ≤ w) (one-mul (2 ^ j)) l) in
    let b : w / 2 ^ j < 2 = (div-lt_iff_lt-mul (pow_pos j)).1 (subst (λ (x : ℕ). w < x) (pow-suc 2 j ∙ omega arith) h) in
    eq-eqb (w / 2 ^ j % 2) 1 (omega arith)

-- ---- the highest bit

pub positive : (n : ℕ) → (n ≡ 0 → ⊥) → 0 < n
positive zero f = absurd (f refl)
positive (suc n) f = zero-lt-suc n

bit_off : (w d : ℕ) → w < 2 ^ d → bit_on w d ≡ false
unfolding bit_on
bit_off w d h = rw (div-eq_of_lt h)

-- the top bit is the highest of any larger number of bits
highest_top : (i w j : ℕ) → 2 ^ j ≤ w → w < 2 ^ suc j → highest_below (suc j + i) w ≡ j
unfolding highest_below
highest_top zero w j l h = rw (add-zero, top_on w j l h)
highest_top (suc i) w j l h =
    let off : bit_on w (suc j + i) ≡ false = bit_off w (suc j + i) (lt_of_lt_of_le h (pow_mono (omega arith))) in
    rw (add-suc (suc j) i, off) (highest_top i w j l h)

pub record Highest (w r : ℕ) : Type 0 where
  pub below : r < 32
  pub on : bit_on w r ≡ true
  pub last : (e : ℕ) → bit_on w e ≡ true → e ≤ r

-- by the zeros above it
pub highest_led : (w : ℕ) → 0 < w → w < 2 ^ 32 → (31 - count_leading_zeros 32 w ≡ highest_below 32 w) × (count_leading_zeros 32 w ≤ 31)
highest_led w p h =
    let t = leading_top 32 w p h in
    let j = t.0 in
    let e : count_leading_zeros 32 w + suc j ≡ 32 = t.1 in
    let s : suc j + (31 - j) ≡ 32 = omega arith in
    let z : highest_below 32 w ≡ j = subst (λ (n : ℕ). highest_below n w ≡ j) s (highest_top (31 - j) w j t.2 t.3) in
    (omega (arith, z), omega arith)

pub highest : (w : ℕ) → 0 < w → w < 2 ^ 32 → Highest w (highest_below 32 w)
highest w p h =
    let t = leading_top 32 w p h in
    let j = t.0 in
    let e : count_leading_zeros 32 w + suc j ≡ 32 = t.1 in
    let s : suc j + (31 - j) ≡ 32 = omega arith in
    let z : highest_below 32 w ≡ j = subst (λ (n : ℕ). highest_below n w ≡ j) s (highest_top (31 - j) w j t.2 t.3) in
    subst⁻¹ (λ (r : ℕ). Highest w r) z
    (record { below = omega arith; on = top_on w j t.2 t.3; last = λ e o. le_of_suc-le-suc (bit_lt w e (suc j) o t.3) })
