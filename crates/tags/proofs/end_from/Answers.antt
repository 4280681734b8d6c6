use mathlib.Core.Path.{refl, sym, ◌∙◌}
use Rattle.tags.proofs.Ends.{end_stop, end_go, end_out}
use borrow.Author.Rules.{rules}
use Rattle.tags.proofs.end_from.Goals as goal

pub loop-i-init : goal.loop-i-init
loop-i-init c = (search rules, refl)

pub loop-i-preserved : goal.loop-i-preserved
loop-i-preserved c = (search rules, c.loop-i.invariant.1 ∙ end_go _ _ (search rules) c.if-line-i-eq125.false)

pub returns-then-line-i : goal.returns-then-line-i
returns-then-line-i c = end_out _ _ c.if-line-i.true ∙ sym c.loop-i.invariant.1

pub returns-then-line-i-eq125 : goal.returns-then-line-i-eq125
returns-then-line-i-eq125 c = end_stop _ _ (search rules) c.if-line-i-eq125.true ∙ sym c.loop-i.invariant.1
