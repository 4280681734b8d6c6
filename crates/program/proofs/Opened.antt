-- The definitions of this crate and of those below it that computed rows open, under one name.
use Prim.Native.Nat.{ℕ}
use Rattle.stream.proofs.Opened.{opened_stream}
use Rattle.book_file.proofs.Opened.{opened_book_file}
use Rattle.program.specs.Claimrun.{file_number, written_for, claimrun_bytes}
use Rattle.program.specs.Steps.{refused_held, open_held, opening_for, opening, begins, holding, pending, to_write, has_ended, is_over, held_after, served_in, after_serving, resting, stepped}
use Rattle.program.specs.Statement.{at_first}

unfoldable pub opened_program : ℕ
unfolding opened_stream opened_book_file file_number written_for claimrun_bytes refused_held open_held opening_for opening begins holding pending to_write has_ended is_over held_after served_in after_serving resting stepped at_first
opened_program = 0
