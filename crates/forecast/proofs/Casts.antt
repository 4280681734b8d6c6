-- The casts of the code: two sums up to the limit are words whose signed difference fits, and the figures are the definition's.
use mathlib.Core.Path.{◌≡◌, ap₂, ◌∙◌, subst⁻¹}
use Prim.Native.Nat.{ℕ, ◌≤◌}
use native.Mathlib.Omega.{arith}
use lib.IntN.{pos, ◌-ℤ◌}
use lib.Ieee.{binary64, of_int}
use mir.Syntax.{w64}
use mir.Val.{SFits, to_z, of_z}
use mir.Facts.{to_z_pos, to_z-of_z}
use Rattle.cash.specs.Cash.{exact_limit, whole_cash, as_doubles}
use Rattle.cash.proofs.Doubles.{by_order}

-- a to receive, b to pay
module _ (a b : ℕ) (ha : a ≤ exact_limit) (hb : b ≤ exact_limit) where
  words : to_z w64 a -ℤ to_z w64 b ≡ pos a -ℤ pos b
  words = ap₂ ◌-ℤ◌ (to_z_pos w64 {n = a} (omega arith)) (to_z_pos w64 {n = b} (omega arith))

  difference_fits : SFits w64 (pos a -ℤ pos b)
  difference_fits = by_order (SFits w64) a b (λ h. record { sfits = omega arith }) (λ h. record { sfits = omega arith })

  pub words_fit : SFits w64 (to_z w64 a -ℤ to_z w64 b)
  words_fit = subst⁻¹ (SFits w64) words difference_fits

  pub words_difference : to_z w64 (of_z w64 (to_z w64 a -ℤ to_z w64 b)) ≡ pos a -ℤ pos b
  words_difference = to_z-of_z words_fit ∙ words

  pub cash_cast : record {
    pay = of_int binary64 (pos b);
    receive = of_int binary64 (pos a);
    difference = of_int binary64 (to_z w64 (of_z w64 (to_z w64 a -ℤ to_z w64 b)));
  }
      ≡ as_doubles (whole_cash b a)
  unfolding as_doubles whole_cash
  cash_cast = rw words_difference
