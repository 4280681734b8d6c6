-- Document 02, card 10: the cash forecast. For one account and one release date, from a run of claim records: the cents to pay, the cents to
-- receive, and receive less pay. All three are whole numbers here; the forecast holds each as a double.
use Rattle.std.specs.Prelude.{Bool, false, cond, not, ◌&&◌, ◌||◌, List, [], ◌∷◌, ℕ, zero, suc, ◌+◌, ◌/◌, eqb, ltb, leb, length, ℤ, pos, ◌-ℤ◌}
use Rattle.std.specs.Float.{binary64}
use Rattle.std.specs.Float.Ieee.{of_int}
use Rattle.lists.specs.All.{all}
use Rattle.lists.specs.First.{Cause, cause, first_of}
use Rattle.lists.specs.Sums.{sum}
use Rattle.days.specs.Days.{is_date}
use Rattle.records.specs.declared.Claim.{Claim}
use Rattle.std.specs.Prelude.{Option, Some, None}
use Rattle.claims.specs.Written.{claim_size, readings}
use Rattle.cash.specs.declared.Cash.{Cash}
use Rattle.cash.specs.declared.CashForecast.{CashForecast}

-- ---- the records of a run

-- How many records begin in so many bytes. The last of them may be cut.
unfoldable pub record_count : ℕ → ℕ
record_count bytes = (bytes + 34) / claim_size

-- The records of a run, read one behind the other. One that is cut, or has a wrong length or kind, reads as refused.
unfoldable pub records_of : List ℕ → List (Option Claim)
records_of run = readings (record_count (length run)) run

-- A claim whose payer and payee are two different accounts, 0 to 15.
unfoldable pub good_parties : Claim → Bool
good_parties c = not (eqb c.payer c.payee) && (leb c.payer 15 && leb c.payee 15)

-- A record that is not bad.
unfoldable pub is_good : Option Claim → Bool
is_good (Some c) = good_parties c
is_good None = false

-- A run with a cut or bad record, whatever that record's outcome and release date.
unfoldable pub bad_run : List ℕ → Bool
bad_run run = not (all is_good (records_of run))

-- ---- what counts

-- A claim with the release date and outcome 0 counts; notices do not.
unfoldable pub counts : ℕ → Claim → Bool
counts date c = eqb c.release date && eqb c.outcome 0

-- Its cents: interest and principal together.
unfoldable pub cents_of : Claim → ℕ
cents_of c = c.interest.0 + c.principal.0

-- What a record adds to the cents that an account pays, and to those that it receives.
unfoldable pub pay_on : ℕ → ℕ → Option Claim → ℕ
pay_on account date (Some c) = cond (counts date c && eqb c.payer account) (cents_of c) 0
pay_on account date None = 0

unfoldable pub receive_on : ℕ → ℕ → Option Claim → ℕ
receive_on account date (Some c) = cond (counts date c && eqb c.payee account) (cents_of c) 0
receive_on account date None = 0

-- The cents that a run has the account pay, and receive, on the date.
unfoldable pub cents_to_pay : List ℕ → ℕ → ℕ → ℕ
cents_to_pay run account date = sum (pay_on account date) (records_of run)

unfoldable pub cents_to_receive : List ℕ → ℕ → ℕ → ℕ
cents_to_receive run account date = sum (receive_on account date) (records_of run)

-- ---- what can be refused

-- Each whole number up to this one is exact as a double: 2 ^ 53.
abbrev pub exact_limit : ℕ
exact_limit = 9007199254740992

-- An account above 15, or a date that is none.
unfoldable pub bad_wanted : ℕ → ℕ → Bool
bad_wanted account date = ltb 15 account || not (is_date date)

-- A sum past the limit.
unfoldable pub past_limit : ℕ → ℕ → Bool
past_limit pay receive = ltb exact_limit pay || ltb exact_limit receive

-- A bad account or date, or a cut or bad record: number 18. A sum past the limit: number 19.
unfoldable pub number_causes : Bool → Bool → List Cause
number_causes bad past = cause 18 bad ∷ cause 19 past ∷ []

unfoldable pub forecast_causes : List ℕ → ℕ → ℕ → List Cause
forecast_causes run account date =
    number_causes (bad_wanted account date || bad_run run) (past_limit (cents_to_pay run account date) (cents_to_receive run account date))

-- The number of the first cause that applies, 0 if none does.
unfoldable pub forecast_number : List ℕ → ℕ → ℕ → ℕ
forecast_number run account date = first_of (forecast_causes run account date)

-- ---- the forecast

-- The three figures as whole numbers. The difference has a sign.
pub record WholeCash : Type 0 where
  pub pay : ℕ
  pub receive : ℕ
  pub difference : ℤ

-- The difference is receive less pay.
unfoldable pub whole_cash : ℕ → ℕ → WholeCash
whole_cash pay receive = record { pay = pay; receive = receive; difference = pos receive -ℤ pos pay }

-- Each as a double.
unfoldable pub as_doubles : WholeCash → Cash
as_doubles w =
    record {
      pay = of_int binary64 (pos w.pay);
      receive = of_int binary64 (pos w.receive);
      difference = of_int binary64 w.difference;
    }

-- The figures of a forecast with a number. A refusal has three zeros.
unfoldable pub figures_for : ℕ → List ℕ → ℕ → ℕ → WholeCash
figures_for zero run account date = whole_cash (cents_to_pay run account date) (cents_to_receive run account date)
figures_for (suc n) run account date = whole_cash 0 0

unfoldable pub figures : List ℕ → ℕ → ℕ → WholeCash
figures run account date = figures_for (forecast_number run account date) run account date

-- What the forecast answers.
unfoldable pub forecast_of : List ℕ → ℕ → ℕ → CashForecast
forecast_of run account date = record { number = forecast_number run account date; cash = as_doubles (figures run account date) }
