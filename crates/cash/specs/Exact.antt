-- Each of the three doubles of a forecast is exactly its whole number. The statements can be read without any proof; the proofs are in
-- proofs/.
use Rattle.std.specs.Prelude.{◌≡◌, ◌≢◌, true, false, List, ℕ, suc, ◌≤◌, ℤ, pos, negsuc, ◌-ℤ◌, Float}
use Rattle.std.specs.Float.{fin}
use Rattle.std.specs.Float.Ieee.Exact.{HasValue}
use Rattle.cash.specs.declared.Cash.{Cash}
use Rattle.cash.specs.declared.CashForecast.{CashForecast}
use Rattle.cash.specs.Cash.{exact_limit, cents_to_pay, cents_to_receive, forecast_of}

-- A double is finite and has the size and the sign of a whole number; zero is positive.
abbrev pub Exactly : Float → ℤ → Type 0
Exactly x (pos n) = HasValue x false n 1
Exactly x (negsuc n) = HasValue x true (suc n) 1

-- The doubles of an accepted forecast are exactly the cents to pay, the cents to receive, and receive less pay. Neither sum is past the
-- limit.
pub record Accepted (run : List ℕ) (account date : ℕ) (cash : Cash) : Type 0 where
  pub pay_exact : Exactly cash.pay (pos (cents_to_pay run account date))
  pub receive_exact : Exactly cash.receive (pos (cents_to_receive run account date))
  pub difference_exact : Exactly cash.difference (pos (cents_to_receive run account date) -ℤ pos (cents_to_pay run account date))
  pub pay_within : cents_to_pay run account date ≤ exact_limit
  pub receive_within : cents_to_receive run account date ≤ exact_limit

-- Positive zero.
abbrev pub positive_zero : Float
positive_zero = fin false 0 (pos 0)

-- A refusal has three of them.
pub record Refused (cash : Cash) : Type 0 where
  pub no_pay : cash.pay ≡ positive_zero
  pub no_receive : cash.receive ≡ positive_zero
  pub no_difference : cash.difference ≡ positive_zero

-- What an answer says by its number.
abbrev pub IsExact : List ℕ → ℕ → ℕ → CashForecast → Type 0
IsExact run account date f = (f.number ≡ 0 → Accepted run account date f.cash) × (f.number ≢ 0 → Refused f.cash)

-- It holds of every answer that keeps the contract of the call.
abbrev pub EveryForecast : Type 0
EveryForecast = (run : List ℕ) (account date : ℕ) (f : CashForecast) → f ≡ forecast_of run account date → IsExact run account date f
