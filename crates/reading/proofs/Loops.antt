-- What the loop keeps: the invariant says what is left of the loop's equation, so a turn is one step of the definition.
use mathlib.Core.Path.{◌≡◌, sym, ap, ap₂, ◌∙◌, subst}
use mathlib.Core.List.{List}
use Prim.Native.Nat.{ℕ, suc, ◌+◌, ◌-◌, ◌*◌, ◌^◌, ◌≤◌, ◌<◌}
use native.Mathlib.Nat.{sub-zero, add_comm, pow-suc, pow-le-pow_right, lt_of_lt_of_le, zero-lt-suc}
use native.Mathlib.Omega.{arith}
use lib.Arith.{digits_lt}
use lib.Dec.{lit<}
use lib.ListN.{length, drop, get_or, length-take, drop_of_length-le}
use lib.Seq.{drop-cons, get_or-drop, get_or-take}
use Rattle.lists.specs.Numbers.{number_of}
use Rattle.lists.specs.Fields.{part, part_length}

-- ---- a number read, highest byte first

pub record Getting (s : List ℕ) (at w n i : ℕ) : Type 0 where
  pub small : i ≤ w
  pub value : n ≡ number_of (drop i (part at w s))
  pub low : n < 256 ^ (w - i)

pub get_start : (s : List ℕ) (at w : ℕ) → at + w ≤ length s → Getting s at w 0 w
unfolding number_of
get_start s at w h =
    let z : w - w ≡ 0 = omega arith in
    record {
      small = omega arith;
      value = rw (drop_of_length-le (part at w s) {i = w} (simp (length-take) (omega arith)));
      low = rw z (lit< tt);
    }

pub get_fits : (n b k : ℕ) → n < 256 ^ k → b < 256 → k < 8 → n * 256 + b < 2 ^ 64
get_fits n b k hn hb hk =
    lt_of_lt_of_le (subst (λ (x : ℕ). n * 256 + b < x) (sym (pow-suc 256 k)) (digits_lt hn hb))
    (pow-le-pow_right {n = 256} (zero-lt-suc 255) hk)

pub get_step : {s : List ℕ} {at w n i : ℕ} → at + w ≤ length s → 0 < i → get_or s (at + (i - 1)) 0 < 256 → Getting s at w n i
    → Getting s at w (n * 256 + get_or s (at + (i - 1)) 0) (i - 1)
unfolding number_of
get_step {s} {at} {w} {n} {i} h p b k =
    let e : suc (i - 1) ≡ i = omega arith in
    let m : w - (i - 1) ≡ suc (w - i) = omega arith in
    let q = part at w s in
    let len : length q ≡ w = part_length at w s h in
    let at_i : get_or q (i - 1) 0 ≡ get_or s (at + (i - 1)) 0 =
    get_or-take w (drop at s) (i - 1) 0 (omega arith) ∙ get_or-drop at s (i - 1) 0 in
    record {
      small = omega arith;
      value = add_comm (n * 256) (get_or s (at + (i - 1)) 0)
          ∙ ap₂ (λ (x y : ℕ). x + y * 256) (sym at_i) (k.value ∙ ap (λ (j : ℕ). number_of (drop j q)) (sym e))
          ∙ sym (ap number_of (drop-cons q (i - 1) 0 (omega arith)));
      low = rw (m, pow-suc) (digits_lt k.low b);
    }

pub get_end : {s : List ℕ} {at w n i : ℕ} → i ≤ 0 → Getting s at w n i → (n ≡ number_of (part at w s)) × (n < 256 ^ w)
get_end {s} {at} {w} {n} {i} l k =
    let e : i ≡ 0 = omega arith in (
      k.value ∙ ap (λ (j : ℕ). number_of (drop j (part at w s))) e,
      subst (λ (j : ℕ). n < 256 ^ j) (ap (λ (j : ℕ). w - j) e ∙ sub-zero w) k.low,
    )

-- a single byte is its own number
pub byte_number : (s : List ℕ) (at : ℕ) → at + 1 ≤ length s → get_or s at 0 ≡ number_of (part at 1 s)
unfolding number_of
byte_number s at h = rw (drop-cons s at 0 (omega arith)) (omega arith)
