-- The definitions of this crate and of those below it that computed rows open, under one name.
use Prim.Native.Nat.{ℕ}
use Rattle.records.proofs.Opened.{opened_records}
use Rattle.securities.proofs.Opened.{opened_securities}
use Rattle.tags.proofs.Opened.{opened_tags}
use Rattle.claims.specs.Amounts.{cents_on, cents_for, factor_for, amount, is_tracked, outcome_of, is_late, release_of, is_early, slot_of, claim_on}
use Rattle.claims.specs.Fails.{message_tag, contract_tag, maximum_numbers, is_mbs, maximum_for, maximum_of, eligible_in, waits, cut, eligible_now, within_half_year, eligible_before, eligible, is_interim, interim_in, interim, fails, dues, transfer_parties, transfer_claims}
use Rattle.claims.specs.Close.{crosses, crossed, loan_parties, tracking_type, loan_claim, security_balances, lender_balances, tracking_claims, row_claims, close_claims}
use Rattle.claims.specs.Written.{claim_bytes, bytes_of_all, written, read_claim, readings}

unfoldable pub opened_claims : ℕ
unfolding opened_records opened_securities opened_tags cents_on cents_for factor_for amount is_tracked outcome_of is_late release_of is_early slot_of claim_on message_tag contract_tag maximum_numbers is_mbs maximum_for maximum_of eligible_in waits cut eligible_now within_half_year eligible_before eligible is_interim interim_in interim fails dues transfer_parties transfer_claims crosses crossed loan_parties tracking_type loan_claim security_balances lender_balances tracking_claims row_claims close_claims claim_bytes bytes_of_all written read_claim readings
opened_claims = 0
