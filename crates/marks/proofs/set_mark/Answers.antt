-- A refused setting leaves the store; an accepted one writes the words of its mark.
use mathlib.Core.Path.{sym, ap, ◌∙◌}
use Prim.Native.Nat.{ℕ}
use native.Mathlib.Omega.{arith}
use Rattle.records.specs.Refusals.{judged_number}
use Rattle.records.proofs.Refusals.{handed_on, judged_none, judged_is, refused_number}
use Rattle.marks.specs.Marks.{set_number, left_mark}
use Rattle.marks.proofs.Numbers.{place_fits, set_balances, set_mark, set_store}
use Rattle.marks.proofs.Stored.{mark_part_length, set_refused, set_accepted}
use Rattle.marks.proofs.set_mark.Goals as goal

pub returns-in_err-at : goal.returns-in_err-at
unfolding set_number
returns-in_err-at c =
    let h = c.judge_setting.ensures.number in
    ap (λ (n : ℕ). left_mark n c.args.store.now) (handed_on _ c.in_err-at.was c.from_residual.ensures.1)
    ∙ set_refused _ _ _ _ _ h (λ z. refused_number _ (judged_is z c.in_err-at.was))

pub overflow_add-at : goal.overflow_add-at
overflow_add-at c =
    let z = judged_none c.judge_setting.ensures.number c.in_ok-at.was in
    record { fits = omega (arith, place_fits _ (set_mark _ _ _ _ _ z), c.in_ok-at.ensures.value.1) }

pub offset_bounds-store-at : goal.offset_bounds-store-at
offset_bounds-store-at c =
    let z = judged_none c.judge_setting.ensures.number c.in_ok-at.was in
    record { fits = omega (arith, place_fits _ (set_mark _ _ _ _ _ z), c.in_ok-at.ensures.value.1) }

pub slice_bounds-write_mark-end : goal.slice_bounds-write_mark-end
slice_bounds-write_mark-end c =
    let z = judged_none c.judge_setting.ensures.number c.in_ok-at.was in
    omega (arith, place_fits _ (set_mark _ _ _ _ _ z), c.in_ok-at.ensures.value.1, set_store _ _ _ _ _ z)

pub write_mark-requires : goal.write_mark-requires
write_mark-requires c =
    let z = judged_none c.judge_setting.ensures.number c.in_ok-at.was in
    (set_balances _ _ _ _ _ z, mark_part_length _ _ _ c.in_ok-at.ensures.value.1 (set_mark _ _ _ _ _ z) (set_store _ _ _ _ _ z))

pub returns : goal.returns
unfolding set_number judged_number
returns c =
    let z = judged_none c.judge_setting.ensures.number c.in_ok-at.was in
    set_accepted _ _ _ _ _ _ _ (sym z) c.in_ok-at.ensures.value.1 (set_balances _ _ _ _ _ z) c.write_mark.ensures
