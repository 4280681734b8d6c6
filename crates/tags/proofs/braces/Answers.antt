use mathlib.Core.Path.{ap}
use Prim.Native.Nat.{ℕ, ◌+◌}
use lib.ListN.{get_or}
use Rattle.lists.specs.Sums.{add_start, add_step, add_end}
use Rattle.tags.specs.Quick.{brace_of}
use Rattle.tags.proofs.Quick.{brace_small}
use native.Mathlib.Omega.{arith}
use Rattle.tags.proofs.braces.Goals as goal

pub loop-i-init : goal.loop-i-init
loop-i-init c = add_start brace_of 1 _

pub overflow_add-n : goal.overflow_add-n
overflow_add-n c =
    let s = c in
    let b = brace_small (get_or s.args.line.now s.loop-i.i 0) in
    record { fits = omega (arith, c.brace-n.ensures, b, s.loop-i.invariant.bound, s.loop-i.invariant.small, s.requires) }

pub loop-i-preserved : goal.loop-i-preserved
loop-i-preserved c =
    let s = c in
    add_step brace_of 1 0 s.loop-i.invariant (omega (arith, c.loop-i-test.true, s.requires)) (brace_small _) (ap (λ (k : ℕ). s.loop-i.n + k) c.brace-n.ensures)

pub returns : goal.returns
returns c = add_end brace_of 1 c.loop-i.invariant (omega (arith, c.loop-i-test.false, c.requires))
