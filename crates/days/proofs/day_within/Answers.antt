-- The month has the day, or its last day is taken.
use mathlib.Core.Path.{ap, ◌∙◌}
use Prim.Native.Nat.{ℕ, ◌+◌, ◌*◌}
use native.Mathlib.Omega.{arith}
use Rattle.days.proofs.HalfYear.{within_day, within_last}
use Rattle.days.proofs.day_within.Goals as goal

pub returns-then-d-last : goal.returns-then-d-last
returns-then-d-last c = let e = c.month_length-last.ensures in within_day _ _ _ (omega (arith, e, c.if-d-last.true))

pub returns : goal.returns
returns c =
    let e = c.month_length-last.ensures in
    let a = c.args in
    ap (λ (n : ℕ). a.y * 10000 + a.m * 100 + n) e ∙ within_last _ _ _ (omega (arith, e, c.if-d-last.false))
