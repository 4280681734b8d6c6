-- Each turn adds what the next balance has above the largest.
use mathlib.Core.Path.{refl}
use Rattle.lists.specs.Sums.{add_start, add_step, add_end}
use Rattle.judging.specs.Quick.{excess_of}
use Rattle.judging.proofs.Quick.{excess_small}
use native.Mathlib.Omega.{arith}
use Rattle.judging.proofs.excesses.Goals as goal

pub loop-par-init : goal.loop-par-init
loop-par-init c = add_start excess_of 1073741824 _

pub overflow_add-total-in-loop-par-2 : goal.overflow_add-total-in-loop-par-2
unfolding excess_of
overflow_add-total-in-loop-par-2 c = let s = excess_small _ (c.type_inv.balances c.loop-par.par-index).fits in let i = c.loop-par.invariant in record { fits = omega (arith, s, i.bound, i.small, c.requires) }

pub loop-par-preserved : goal.loop-par-preserved
unfolding excess_of
loop-par-preserved c = add_step excess_of 1073741824 0 c.loop-par.invariant c.loop-par-test.true (excess_small _ (c.type_inv.balances c.loop-par.par-index).fits) refl

pub returns : goal.returns
returns c = add_end excess_of 1073741824 c.loop-par.invariant c.loop-par-test.false
