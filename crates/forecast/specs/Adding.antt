-- The sums of a forecast as a loop over the records adds them up: held in 64 bits, since what is past the limit is past it however far.
use Rattle.std.specs.Prelude.{cond, false, not, ◌||◌, Bool, List, ℕ, ◌+◌, min}
use Rattle.std.specs.Prelude.{Option, Result, Ok, Err}
use Rattle.records.specs.declared.Claim.{Claim}
use Rattle.records.specs.declared.Refusal.{Refusal}
use Rattle.records.specs.declared.Refusal.TheVariants as refusal
use Rattle.records.specs.Refusals.{refusal_number}
use Rattle.forecast.specs.declared.Sums.{Sums}
use Rattle.cash.specs.declared.Cash.{Cash}
use Rattle.cash.specs.declared.CashForecast.{CashForecast}
use Rattle.cash.specs.Cash.{is_good, bad_run, pay_on, receive_on, cents_to_pay, cents_to_receive, exact_limit, whole_cash, as_doubles}

-- A sum, or the first number past the limit where the sum is larger.
unfoldable pub capped : ℕ → ℕ
capped n = min (exact_limit + 1) n

-- The sums of an account over records, and whether one of these is bad.
pub record Summed : Type 0 where
  pub bad : Bool
  pub pay : ℕ
  pub receive : ℕ

-- The sums with one record more.
unfoldable pub with_read : Summed → Option Claim → ℕ → ℕ → Summed
with_read sums r account date =
    record {
      bad = sums.bad || not (is_good r);
      pay = capped (sums.pay + pay_on account date r);
      receive = capped (sums.receive + receive_on account date r);
    }

-- The sums of a run.
unfoldable pub sums_of : List ℕ → ℕ → ℕ → Summed
sums_of run account date =
    record {
      bad = bad_run run;
      pay = capped (cents_to_pay run account date);
      receive = capped (cents_to_receive run account date);
    }

-- Sums so far, none of whose records is bad.
abbrev pub good_so_far : Sums → Summed
good_so_far sums = record { bad = false; pay = sums.pay; receive = sums.receive }

-- Sums, unless a record is bad.
unfoldable pub judged : Summed → Result Sums Refusal
judged sums = cond sums.bad (Err refusal.Claims) (Ok (record { pay = sums.pay; receive = sums.receive }))

-- The forecast for figures: a refusal has its number and three zeros.
unfoldable pub answered : Result Cash Refusal → CashForecast
answered (Ok cash) = record { number = 0; cash = cash }
answered (Err r) = record { number = refusal_number r; cash = as_doubles (whole_cash 0 0) }
