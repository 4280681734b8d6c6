-- `write_claim` leaves the claim at the buffer's start, or the buffer as it was.
use mathlib.Core.Path.{refl}
use mathlib.Core.List.{[]}
use native.Mathlib.Omega.{arith}
use Rattle.lists.specs.Numbers.{bytes_of}
use Rattle.records.specs.MessageRecords.{claim_kind, size, claim_values}
use Rattle.records.specs.Refusals.{judged_number, refusal_number}
use Rattle.records.proofs.Writings.{stored_first, stored_next, written, not_written, claim_parts}
use borrow.Author.Rules.{rules}
use Rattle.writing.proofs.write_claim.Goals as goal

pub returns-then-buffer-lt35 : goal.returns-then-buffer-lt35
unfolding claim_kind size judged_number refusal_number
returns-then-buffer-lt35 c = not_written claim_kind _ _ (search rules)

pub put_number-requires-5 : goal.put_number-requires-5
put_number-requires-5 c =
    let release = c in
    let principal = release in
    let interest = principal in
    let transfer = interest in
    let head = transfer in
    omega (arith, release.put_number-4.auto, principal.put_number-3.auto, interest.put_number-2.auto, transfer.put_number.auto, head.put_bytes.auto)

pub returns : goal.returns
unfolding claim_kind size judged_number refusal_number bytes_of
returns c =
    let slot = c in
    let release = slot in
    let principal = release in
    let interest = principal in
    let transfer = interest in
    let head = transfer in
    let a = head.args.c in
    let g = transfer.struct_known-1.given in
    written claim_kind (claim_values a) []
    (stored_next _
    (stored_next _
    (stored_next _
    (stored_next _
    (stored_next _ (stored_first _ (omega arith) head.put_bytes.ensures) refl (omega arith) transfer.put_number.ensures)
    refl (omega arith) interest.put_number-2.ensures)
    refl (omega arith) principal.put_number-3.ensures)
    refl (omega arith) release.put_number-4.ensures)
    refl (omega arith) slot.put_number-5.ensures)
    (claim_parts a g.0.fits g.1.0.fits g.1.1.0.fits g.1.1.1.0.fits g.1.1.1.1.0.fits g.1.1.1.1.1.0.fits) refl
