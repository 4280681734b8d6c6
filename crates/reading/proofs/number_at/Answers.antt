use Prim.Native.Nat.{◌+◌, ◌-◌}
use native.Mathlib.Omega.{arith}
use borrow.Author.Rules.{rules}
use lib.Dec.{lit<}
use Rattle.reading.proofs.Loops.{get_start, get_step, get_end, get_fits}
use Rattle.reading.proofs.number_at.Goals as goal

pub loop-i-init : goal.loop-i-init
loop-i-init c = get_start _ _ _ (search rules)

pub overflow_mul-n : goal.overflow_mul-n
overflow_mul-n c =
    record { fits = omega (arith, get_fits c.loop-i.n 0 (c.args.width - c.loop-i.i) c.loop-i.invariant.low (lit< tt) (search rules)) }

pub overflow_add-n-in-loop-i : goal.overflow_add-n-in-loop-i
overflow_add-n-in-loop-i c =
    let b = c.type_inv.s (c.args.at + (c.loop-i.i - 1)) in
    record { fits = get_fits c.loop-i.n _ (c.args.width - c.loop-i.i) c.loop-i.invariant.low (omega (arith, b)) (search rules) }

pub loop-i-preserved : goal.loop-i-preserved
loop-i-preserved c =
    let b = c.type_inv.s (c.args.at + (c.loop-i.i - 1)) in
    get_step (search rules) (search rules) (omega (arith, b)) c.loop-i.invariant

pub returns : goal.returns
returns c = get_end c.loop-i-test.false c.loop-i.invariant
