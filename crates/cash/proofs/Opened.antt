-- The definitions of this crate and of those below it that computed rows open, under one name.
use Prim.Native.Nat.{ℕ}
use lib.Count.{count_trailing_zeros}
use lib.Ieee.{of_int, round, units, odd, size, span, climb}
use Rattle.claims.proofs.Opened.{opened_claims}
use Rattle.cash.specs.Cash.{record_count, records_of, good_parties, is_good, bad_run, counts, cents_of, pay_on, receive_on, cents_to_pay, cents_to_receive, bad_wanted, past_limit, number_causes, forecast_causes, forecast_number, whole_cash, as_doubles, figures_for, figures, forecast_of}

unfoldable pub opened_cash : ℕ
unfolding opened_claims of_int round units odd size span climb count_trailing_zeros record_count records_of good_parties is_good bad_run counts cents_of pay_on receive_on cents_to_pay cents_to_receive bad_wanted past_limit number_causes forecast_causes forecast_number whole_cash as_doubles figures_for figures forecast_of
opened_cash = 0
