-- `write_answer` leaves the answer at the buffer's start, or the buffer as it was.
use mathlib.Core.Path.{refl}
use mathlib.Core.List.{[]}
use native.Mathlib.Omega.{arith}
use Rattle.lists.specs.Numbers.{bytes_of}
use Rattle.records.specs.MessageRecords.{answer_kind, size, answer_values}
use Rattle.records.specs.Refusals.{judged_number, refusal_number}
use Rattle.records.proofs.Writings.{stored_first, stored_next, written, not_written, answer_parts}
use borrow.Author.Rules.{rules}
use Rattle.writing.proofs.write_answer.Goals as goal

pub returns-then-buffer-lt6 : goal.returns-then-buffer-lt6
unfolding answer_kind size judged_number refusal_number
returns-then-buffer-lt6 c = not_written answer_kind _ _ (search rules)

pub returns : goal.returns
unfolding judged_number answer_kind size bytes_of
returns c =
    let number = c in
    let head = number in
    let a = head.args.a in
    written answer_kind (answer_values a) []
    (stored_next _ (stored_first _ (omega arith) head.put_bytes.ensures) refl (omega arith) number.put_number.ensures)
    (answer_parts a) refl
