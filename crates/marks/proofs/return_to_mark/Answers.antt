-- A refused return leaves the balances; an accepted one takes up what the mark holds.
use mathlib.Core.Path.{refl, sym, ap, ◌∙◌}
use native.Mathlib.Omega.{arith}
use lib.ListN.{length}
use Rattle.book.proofs.Copied.{copied_whole}
use Rattle.records.specs.Refusals.{judged_number}
use Rattle.records.proofs.Refusals.{refused_number}
use Rattle.marks.specs.Marks.{return_number}
use Rattle.marks.proofs.Stored.{return_refused, return_accepted, as_many}
use Rattle.marks.proofs.return_to_mark.Goals as goal

pub copy-requires : goal.copy-requires
unfolding judged_number
copy-requires c =
    let a = c.args in
    let v = c.in-Ok.ensures.value in
    omega (arith, ap length v.1 ∙ as_many a.calendar.now a.book a.balances.now a.store.now a.mark (sym c.in-Ok.ensures.number))

pub returns-in-Ok : goal.returns-in-Ok
unfolding return_number judged_number
returns-in-Ok c =
    let a = c.args in
    let v = c.in-Ok.ensures.value in
    let e = ap length v.1 ∙ as_many a.calendar.now a.book a.balances.now a.store.now a.mark (sym c.in-Ok.ensures.number) in
    (return_accepted _ _ _ _ _ c.in-Ok.ensures.number v.0 (copied_whole _ _ _ e c.copy.ensures ∙ v.1), refl)

pub returns-in-Err : goal.returns-in-Err
unfolding return_number judged_number
returns-in-Err c = rw c.refused.ensures (return_refused _ _ _ _ _ c.in-Err.ensures.number (refused_number _), refl)
