-- The search starts at the date's own bit, past the bits to skip; what is no date has no day.
use mathlib.Core.Path.{◌≡◌, refl, ap, ◌∙◌}
use mathlib.Core.Bool.{false}
use mathlib.Core.List.{List}
use Prim.Native.Nat.{ℕ}
use Rattle.std.proofs.Common.{None}
use Rattle.days.specs.Days.{as_day, open_at, is_date}
use Rattle.days.proofs.Parts.{parts, is_date_lem, not_date}
use native.Mathlib.Omega.{arith}
use Rattle.days.proofs.open_at.Goals as goal

-- no search from what is no date
no_search : (calendar : List ℕ) (n skip : ℕ) → is_date n ≡ false → None ≡ as_day (open_at calendar n skip)
unfolding as_day open_at
no_search calendar n skip e = rw e refl

pub word_of-requires : goal.word_of-requires
word_of-requires c = (is_date_lem _ c.new.ensures c.in_ok-new.was).0

pub overflow_sub-n : goal.overflow_sub-n
overflow_sub-n c = let p = parts _ (is_date_lem _ c.new.ensures c.in_ok-new.was).0 in omega arith

pub seek-requires : goal.seek-requires
seek-requires c = let p = parts _ (is_date_lem _ c.new.ensures c.in_ok-new.was).0 in (omega arith, c.requires.0)

pub returns-in_err-new : goal.returns-in_err-new
returns-in_err-new c = c.from_residual.ensures ∙ no_search c.args.months.now c.args.n c.args.skip (not_date _ c.new.ensures c.in_err-new.was)

pub returns : goal.returns
unfolding open_at
returns c = c.seek.ensures ∙ ap as_day (rw (c.word_of.ensures.0, (is_date_lem _ c.new.ensures c.in_ok-new.was).0))
