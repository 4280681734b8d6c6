-- `write_close` leaves the close at the buffer's start, or the buffer as it was.
use mathlib.Core.Path.{refl}
use mathlib.Core.List.{[]}
use native.Mathlib.Omega.{arith}
use Rattle.records.specs.MessageRecords.{close_kind, size}
use Rattle.records.specs.Refusals.{judged_number, refusal_number}
use Rattle.records.proofs.Writings.{stored_first, written, not_written, close_parts}
use borrow.Author.Rules.{rules}
use Rattle.writing.proofs.write_close.Goals as goal

pub returns-then-buffer-lt4 : goal.returns-then-buffer-lt4
unfolding close_kind size judged_number refusal_number
returns-then-buffer-lt4 c = not_written close_kind [] [] (search rules)

pub returns : goal.returns
unfolding judged_number close_kind size
returns c =
    let head = c in
    written close_kind [] [] (stored_first _ (omega arith) head.put_bytes.ensures) close_parts refl
