-- The definitions of this crate and of those below it that computed rows open, under one name; and those that make up the table of a call's
-- causes, down to the single cause.
use Prim.Native.Nat.{ℕ}
use Rattle.claims.proofs.Opened.{opened_claims}
use Rattle.book.proofs.Opened.{opened_book}
use Rattle.tags.specs.ContractDateTag.{edit_causes}
use Rattle.book.specs.Loans.{loan_causes, posting_causes}
use Rattle.book.specs.Soundness.{table_causes, state_causes, book_causes, lent_causes, lent_book_causes}
use Rattle.history.specs.Calls.{buffer_of, claims_of}
use Rattle.history.specs.Causes.{record_causes, out_of_range, field_causes, count_causes, last_day_causes, room_causes, transfer_causes, call_causes, sound_causes, causes, number_for, opening_number}
use Rattle.history.specs.Results.{next_book, next_balances, result_with, result, opened_for, opened, run_by, run_from}
use Rattle.history.specs.Ledger.{started, is_increase, is_decrease, increased_by, decreased_by, increases, decreases, par_lent, transfer_count, transfers, book_of, balances_of, number_on, day_after, keep, answer_for, judged}
use Rattle.history.specs.Owed.{amounts, is_sent, is_failed, lent_by, owed_by, owed}
use Rattle.history.specs.Statement.{records_in, cents_in, counts, paid_in, paid}
use Rattle.history.specs.Continuation.{owed_since}

unfoldable pub opened_history : ℕ
unfolding opened_claims opened_book buffer_of claims_of record_causes out_of_range field_causes count_causes last_day_causes room_causes transfer_causes call_causes sound_causes causes number_for opening_number next_book next_balances result_with result opened_for opened run_by run_from started is_increase is_decrease increased_by decreased_by increases decreases par_lent transfer_count transfers book_of balances_of number_on day_after keep answer_for judged amounts is_sent is_failed lent_by owed_by owed records_in cents_in counts paid_in paid owed_since
opened_history = 0

unfoldable pub opened_causes : ℕ
unfolding causes call_causes transfer_causes sound_causes book_causes lent_book_causes table_causes lent_causes state_causes record_causes field_causes edit_causes count_causes posting_causes loan_causes last_day_causes room_causes
opened_causes = 0
