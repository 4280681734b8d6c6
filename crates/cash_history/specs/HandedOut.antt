-- The claims that the calls of a history hand out, one behind the other, are a run that the forecast takes: no record of it is cut or bad,
-- and its records are those of which the theorem about every list of calls speaks. So the forecast meets 18 for its account and date alone,
-- and its sums are over what the history's calls wrote.
use Rattle.std.specs.Prelude.{◌≡◌, false, cond, List, [], ◌∷◌, ◌++◌, ℕ, ◌*◌, take}
use Rattle.claims.specs.Written.{claim_size}
use Rattle.history.specs.Calls.{Call}
use Rattle.history.specs.Results.{Answer, opened, run_from}
use Rattle.history.specs.Ledger.{Ledger, judged}
use Rattle.history.specs.Statement.{records_in}
use Rattle.cash.specs.Cash.{records_of, bad_run, cents_to_pay, cents_to_receive, bad_wanted, past_limit, forecast_number}

-- The counted claims of each claim buffer, one behind the other.
unfoldable pub handed_out : List Answer → List ℕ
handed_out [] = []
handed_out (a ∷ answers) = take (claim_size * a.claims) a.buffer ++ handed_out answers

pub record CanBeForecast (answers : List Answer) : Type 0 where
  pub good : bad_run (handed_out answers) ≡ false
  pub records : records_of (handed_out answers) ≡ records_in answers
  pub number : (account date : ℕ) → bad_wanted account date ≡ false → forecast_number (handed_out answers) account date
      ≡ cond (past_limit (cents_to_pay (handed_out answers) account date) (cents_to_receive (handed_out answers) account date)) 19 0

-- So the answers of any list of calls, from any ledger on.
abbrev pub EveryLedger : Type 0
EveryLedger = (calendar tables : List ℕ) (t : Ledger) (calls : List Call) → CanBeForecast (judged calendar tables t calls).answers

-- And those of every list of calls from an accepted opening.
abbrev pub EveryHandedOut : Type 0
EveryHandedOut = (calendar tables balances : List ℕ) (day : ℕ) → (opened calendar tables balances day).number ≡ 0 → (calls : List Call)
    → CanBeForecast (run_from calendar tables (opened calendar tables balances day) calls).answers
