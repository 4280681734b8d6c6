-- The causes of setting come first, then 17 for what the mark holds.
use mathlib.Core.Path.{◌≡◌, ap, ◌∙◌, subst}
use mathlib.Core.List.{List}
use Prim.Native.Nat.{ℕ}
use native.Mathlib.Omega.{arith}
use Rattle.lists.specs.First.{first_of}
use Rattle.records.proofs.Refusals.{handed_on, judged_none, refused_first, passed_first}
use Rattle.std.specs.Result.{IfOk}
use Rattle.marks.specs.Marks.{mark_in, day_in, count_in, balances_in, saved_causes, return_causes}
use Rattle.marks.proofs.Numbers.{place_fits, set_mark, set_store, numbered_set}
use Rattle.marks.proofs.Stored.{mark_taken, mark_part_length}
use Rattle.marks.proofs.judge_return.Goals as goal

pub returns-in_err-calendar-clause-number : goal.returns-in_err-calendar-clause-number
unfolding return_causes
returns-in_err-calendar-clause-number c =
    handed_on _ c.in_err-calendar.was c.from_residual.ensures.1 ∙ refused_first _ _ c.judge_setting.ensures.number c.in_err-calendar.was

pub overflow_add-at : goal.overflow_add-at
overflow_add-at c =
    let z = judged_none c.judge_setting.ensures.number c.in_ok-calendar.was in
    record { fits = omega (arith, place_fits _ (set_mark _ _ _ _ _ z), c.in_ok-calendar.ensures.value.1) }

pub offset_bounds-store-at : goal.offset_bounds-store-at
offset_bounds-store-at c =
    let z = judged_none c.judge_setting.ensures.number c.in_ok-calendar.was in
    record { fits = omega (arith, place_fits _ (set_mark _ _ _ _ _ z), c.in_ok-calendar.ensures.value.1) }

pub slice_bounds-judge_saved-end : goal.slice_bounds-judge_saved-end
slice_bounds-judge_saved-end c =
    let z = judged_none c.judge_setting.ensures.number c.in_ok-calendar.was in
    omega (arith, place_fits _ (set_mark _ _ _ _ _ z), c.in_ok-calendar.ensures.value.1, set_store _ _ _ _ _ z)

pub judge_saved-requires : goal.judge_saved-requires
judge_saved-requires c =
    let z = judged_none c.judge_setting.ensures.number c.in_ok-calendar.was in
    mark_part_length _ _ _ c.in_ok-calendar.ensures.value.1 (set_mark _ _ _ _ _ z) (set_store _ _ _ _ _ z)

pub returns-clause-value : goal.returns-clause-value
returns-clause-value c =
    subst
    (λ (l : List ℕ). IfOk c.judge_saved.result (λ s. (s.book ≡ record { day = day_in l; count = count_in l }) × (s.balances.now ≡ balances_in l)))
    (mark_taken _ _ _ c.in_ok-calendar.ensures.value.1) c.judge_saved.ensures.value

pub returns-clause-number : goal.returns-clause-number
unfolding return_causes
returns-clause-number c =
    passed_first _ _ (numbered_set _ _ _ _ _) c.judge_setting.ensures.number c.in_ok-calendar.was
    (c.judge_saved.ensures.number
    ∙ ap (λ (l : List ℕ). first_of (saved_causes c.in_ok-calendar.calendar l)) (mark_taken _ _ _ c.in_ok-calendar.ensures.value.1)
    ∙ ap (λ (l : List ℕ). first_of (saved_causes l (mark_in c.args.store.now c.args.mark))) c.in_ok-calendar.ensures.value.0)
