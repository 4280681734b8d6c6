-- The definitions of this crate and of those below it that computed rows open, under one name.
use Prim.Native.Nat.{ℕ}
use Rattle.lists.proofs.Opened.{opened_lists}
use Rattle.days.proofs.Opened.{opened_days}
use Rattle.securities.specs.Securities.{security_of, type_of, frequency_of, row_of, rows_from, rows_of, is_empty, is_filled, filled_rows, good_row, good_rows, good_security, good_tables}
use Rattle.securities.specs.Cases.{case_tables}
use Rattle.securities.specs.Lent.{from_one_to, good_limits, good_pieces, piece_of, ones}

unfoldable pub opened_securities : ℕ
unfolding opened_lists opened_days security_of type_of frequency_of row_of rows_from rows_of is_empty is_filled filled_rows good_row good_rows good_security good_tables case_tables from_one_to good_limits good_pieces piece_of ones
opened_securities = 0
