-- `write_transfer` leaves the transfer and its lines at the buffer's start, or the buffer as it was.
use mathlib.Core.Path.{◌≡◌, refl}
use mathlib.Core.List.{◌++◌, append_assoc}
use native.Mathlib.Omega.{arith}
use lib.ListN.{length, length-append}
use Rattle.lists.specs.Numbers.{bytes_of}
use Rattle.records.specs.MessageRecords.{transfer_kind, size, transfer_values}
use Rattle.records.specs.Refusals.{judged_number, refusal_number}
use Rattle.records.proofs.Writings.{stored_first, stored_next, written, not_written, transfer_parts}
use borrow.Author.Rules.{rules}
use Rattle.writing.proofs.write_transfer.Goals as goal

pub returns-then-buffer-lt141 : goal.returns-then-buffer-lt141
unfolding transfer_kind size judged_number refusal_number
returns-then-buffer-lt141 c = not_written transfer_kind _ _ (search rules)

pub returns : goal.returns
unfolding judged_number transfer_kind size bytes_of
returns c =
    let second = c in
    let first = second in
    let par = first in
    let head = par in
    let a = head.args in
    let t = a.t in
    let g = par.struct_known-1.given in
    let f : length a.first.now ≡ 64 = search rules in
    let s : length a.second.now ≡ 64 = search rules in
    written transfer_kind (transfer_values t) (a.first.now ++ a.second.now)
    (stored_next _
    (stored_next _
    (stored_next _ (stored_first _ (omega arith) head.put_bytes.ensures) refl (omega arith) par.put_number.ensures)
    refl (omega arith) first.put_bytes-2.ensures)
    (omega arith) (omega arith) second.put_bytes-3.ensures)
    (simp append_assoc (transfer_parts t (a.first.now ++ a.second.now) g.0.fits g.1.0.fits g.1.1.0.fits g.1.1.1.0.fits g.1.1.1.1.0.fits))
    (simp length-append (omega arith))
