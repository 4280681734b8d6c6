-- Each turn adds the next word of the diagonal.
use mathlib.Core.Path.{refl}
use Rattle.judging.proofs.Quick.{owning_start, owning_step, owning_end, own_small}
use native.Mathlib.Omega.{arith}
use Rattle.judging.proofs.own_pars.Goals as goal

pub loop-n-init : goal.loop-n-init
loop-n-init c = owning_start _

pub overflow_add-total-in-loop-n : goal.overflow_add-total-in-loop-n
overflow_add-total-in-loop-n c =
    let l = c.loop-n in
    let w = own_small _ l.n c.requires.0 c.requires.1 c.loop-n-test.true in
    record { fits = omega (arith, w, l.invariant.bound, l.invariant.small) }

pub loop-n-preserved : goal.loop-n-preserved
loop-n-preserved c = let h = c.loop-n-test.true in owning_step c.loop-n.invariant h (own_small _ _ c.requires.0 c.requires.1 h) refl

pub returns : goal.returns
returns c = owning_end c.loop-n.invariant c.loop-n-test.false
