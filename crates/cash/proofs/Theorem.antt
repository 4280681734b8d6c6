-- Each double of an accepted forecast is exactly its whole number, and a refusal has three positive zeros: whole numbers up to the limit are
-- exact as doubles, and an accepted forecast has none past it.
use mathlib.Core.Path.{◌≡◌, refl, sym, ◌∙◌, subst⁻¹}
use mathlib.Core.Bool.{Bool, not, ◌||◌}
use mathlib.Core.List.{List}
use Prim.Native.Nat.{ℕ, zero, suc, ◌≤◌}
use native.Mathlib.Omega.{arith}
use lib.Dec.{T, ltb}
use lib.IntN.{ℤ, pos, negsuc, ◌-ℤ◌}
use lib.Ieee.{Float, nan, inf, fin, is_nan}
use borrow.Author.Tests.{ltb-false}
use Rattle.lists.specs.First.{first_of, numbered, applies_at}
use Rattle.lists.proofs.First.{cleared}
use Rattle.lists.specs.Tests.{or_false_left, or_false_right}
use Rattle.cash.specs.declared.Cash.{Cash}
use Rattle.cash.specs.declared.CashForecast.{CashForecast}
use Rattle.cash.specs.Cash.{bad_run, exact_limit, cents_to_pay, cents_to_receive, bad_wanted, past_limit, number_causes, forecast_causes}
use Rattle.cash.specs.Cash.{forecast_number, whole_cash, as_doubles, figures_for, figures, forecast_of}
use Rattle.cash.specs.Exact.{Exactly, positive_zero, Accepted, Refused, IsExact, EveryForecast}
use Rattle.cash.proofs.Doubles.{whole_in, difference_in, exact, zero_double}

-- ---- what number 0 says

-- where the number is 0, neither sum is past the limit
pub within_limit : (bad : Bool) (pay receive : ℕ) → first_of (number_causes bad (past_limit pay receive)) ≡ 0
    → (pay ≤ exact_limit) × (receive ≤ exact_limit)
unfolding number_causes past_limit numbered applies_at
within_limit bad pay receive z =
    let none = cleared 19 (number_causes bad (past_limit pay receive)) refl z in
    (ltb-false _ _ (or_false_left _ _ none), ltb-false _ _ (or_false_right (ltb exact_limit pay) _ none))

module _ (run : List ℕ) (account date : ℕ) (z : forecast_number run account date ≡ 0) where
  within : (cents_to_pay run account date ≤ exact_limit) × (cents_to_receive run account date ≤ exact_limit)
  unfolding forecast_number forecast_causes
  within = within_limit (bad_wanted account date || bad_run run) (cents_to_pay run account date) (cents_to_receive run account date) z

  pub accepted_figures : Accepted run account date (as_doubles (whole_cash (cents_to_pay run account date) (cents_to_receive run account date)))
  unfolding as_doubles whole_cash
  accepted_figures =
      record {
        pay_exact = exact _ (whole_in _ within.0);
        receive_exact = exact _ (whole_in _ within.1);
        difference_exact = exact _ (difference_in _ _ within.1 within.0);
        pay_within = within.0;
        receive_within = within.1;
      }

zero_figures : Refused (as_doubles (whole_cash 0 0))
unfolding as_doubles whole_cash
zero_figures = record { no_pay = zero_double; no_receive = zero_double; no_difference = zero_double }

-- ---- every answer

-- by the number
by_number : (run : List ℕ) (account date n : ℕ) → forecast_number run account date ≡ n
    → IsExact run account date (record { number = n; cash = as_doubles (figures_for n run account date) })
unfolding figures_for
by_number run account date zero e = ((λ z. accepted_figures run account date e), λ h. absurd (h refl))
by_number run account date (suc n) e = ((λ z. let h : suc n ≡ 0 = z in absurd (omega arith)), λ h. zero_figures)

pub every_forecast : EveryForecast
unfolding forecast_of figures
every_forecast run account date f e = subst⁻¹ (IsExact run account date) e (by_number run account date (forecast_number run account date) refl)

-- ---- no figure is without a value

-- three doubles that are numbers
pub record Numbers (cash : Cash) : Type 0 where
  pub pay_number : T (not (is_nan cash.pay))
  pub receive_number : T (not (is_nan cash.receive))
  pub difference_number : T (not (is_nan cash.difference))

exact_number : (x : Float) (z : ℤ) → Exactly x z → T (not (is_nan x))
unfolding is_nan
exact_number nan (pos n) h = h
exact_number nan (negsuc n) h = h
exact_number (inf s) z h = tt
exact_number (fin s m e) z h = tt

zero_number : (x : Float) → x ≡ positive_zero → T (not (is_nan x))
unfolding is_nan
zero_number x e = rw e tt

accepted_numbers : {run : List ℕ} {account date : ℕ} {cash : Cash} → Accepted run account date cash → Numbers cash
accepted_numbers {run} {account} {date} {cash} a =
    record {
      pay_number = exact_number cash.pay (pos (cents_to_pay run account date)) a.pay_exact;
      receive_number = exact_number cash.receive (pos (cents_to_receive run account date)) a.receive_exact;
      difference_number = exact_number cash.difference (pos (cents_to_receive run account date) -ℤ pos (cents_to_pay run account date))
          a.difference_exact;
    }

refused_numbers : {cash : Cash} → Refused cash → Numbers cash
refused_numbers {cash} r =
    record {
      pay_number = zero_number cash.pay r.no_pay;
      receive_number = zero_number cash.receive r.no_receive;
      difference_number = zero_number cash.difference r.no_difference;
    }

pub every_number : (run : List ℕ) (account date : ℕ) (f : CashForecast) → f ≡ forecast_of run account date → Numbers f.cash
every_number run account date f e = go f.number refl
  where
    go : (n : ℕ) → f.number ≡ n → Numbers f.cash
    go zero z = accepted_numbers ((every_forecast run account date f e).0 z)
    go (suc n) z = refused_numbers ((every_forecast run account date f e).1 (λ q. let h : suc n ≡ 0 = sym z ∙ q in absurd (omega arith)))
