-- A refused move leaves the balances; an accepted one copies the saved ones and clears the words of repo behind them.
use mathlib.Core.Path.{◌≡◌, refl, sym, ap, ap₂, ◌∙◌}
use mathlib.Core.List.{List, ◌++◌}
use Prim.Native.Nat.{ℕ}
use native.Mathlib.Omega.{arith}
use lib.ListN.{length, replicate}
use Rattle.records.specs.Refusals.{judged_number}
use Rattle.records.proofs.Refusals.{refused_number}
use Rattle.book.proofs.Copied.{copied_whole}
use Rattle.carry_over.specs.CarriedOver.{widened, carry_number}
use Rattle.carry_over.proofs.Carried.{saved_words, filled_words, carry_refused, carry_accepted}
use Rattle.carry_over.proofs.carry_over.Goals as goal

pub returns-in-Err : goal.returns-in-Err
unfolding carry_number judged_number
returns-in-Err c =
    let a = c.args in
    rw c.refused.ensures (carry_refused a.calendar.now a.book a.saved.now a.balances.now _ c.in-Err.ensures (refused_number _), refl)

pub split_at_mut-lending-requires : goal.split_at_mut-lending-requires
unfolding carry_number judged_number
split_at_mut-lending-requires c =
    let a = c.args in
    omega (arith, filled_words a.calendar.now a.book a.saved.now a.balances.now (sym c.in_default.ensures))

pub copy-requires : goal.copy-requires
unfolding carry_number judged_number
copy-requires c =
    let a = c.args in
    omega (arith, c.split_at_mut-lending.ensures.front_len, saved_words a.calendar.now a.book a.saved.now a.balances.now (sym c.in_default.ensures))

pub returns : goal.returns
unfolding carry_number judged_number widened
returns c =
    let a = c.args in
    let f = filled_words a.calendar.now a.book a.saved.now a.balances.now (sym c.in_default.ensures) in
    let w = saved_words a.calendar.now a.book a.saved.now a.balances.now (sym c.in_default.ensures) in
    let s : c.copy.new.to ≡ a.saved.now = copied_whole _ _ _ (omega (arith, c.split_at_mut-lending.ensures.front_len, w)) c.copy.ensures in
    let z : c.clear.new.balances ≡ replicate (length c.split_at_mut-lending.result.1.now) 0 = c.clear.ensures in
    let n : length c.split_at_mut-lending.result.1.now ≡ 4096 = omega (arith, c.split_at_mut-lending.ensures.back_len, f) in (
      carry_accepted a.calendar.now a.book a.saved.now a.balances.now _ c.in_default.ensures
          (ap₂ (λ (l r : List ℕ). l ++ r) s (z ∙ ap (λ (k : ℕ). replicate k 0) n)),
      refl,
    )
