-- The definitions of this crate and of those below it that computed rows open, under one name.
use Prim.Native.Nat.{ℕ}
use Rattle.records.proofs.Opened.{opened_records}
use Rattle.securities.proofs.Opened.{opened_securities}
use Rattle.book.specs.Book.{word, position, balance_at, layout}
use Rattle.book.specs.Loans.{tracking_of, step_of, increasing, decreasing, by_sender, by_receiver, change_of, changed, above_balance, past_limit, loan_causes, clears_balance, off_piece, lends_early, posting_causes}
use Rattle.book.specs.Soundness.{wrong_length, bad_day, good_balance, good_balances_from, bad_balances, table_causes, state_causes, book_causes, lent_causes, lent_book_causes, opening_causes, wrong_carry, carry_causes, present_causes}

unfoldable pub opened_book : ℕ
unfolding opened_records opened_securities word position balance_at layout tracking_of step_of increasing decreasing by_sender by_receiver change_of changed above_balance past_limit loan_causes clears_balance off_piece lends_early posting_causes wrong_length bad_day good_balance good_balances_from bad_balances table_causes state_causes book_causes lent_causes lent_book_causes opening_causes wrong_carry carry_causes present_causes
opened_book = 0
