-- The limits stand in the order of the definition: that of MBS, then one for each frequency.
use mathlib.Core.Path.{sym, ap, ◌∙◌}
use native.Mathlib.Omega.{arith}
use mathlib.Core.List.{List}
use Prim.Native.Nat.{ℕ}
use Rattle.securities.specs.Lent.{maximum_of}
use Rattle.securities.proofs.Sound.{maximum_mbs, maximum_other}
use Rattle.securities.proofs.Limits.maximum.Goals as goal

pub bounds-self-inside-0 : goal.bounds-self-inside-0
bounds-self-inside-0 c = omega (arith, c.self.invariant)

pub bounds-self-inside-frequency : goal.bounds-self-inside-frequency
bounds-self-inside-frequency c = omega (arith, c.self.invariant, c.frequency.ensures, c.requires.1)

pub returns-then-is_mbs : goal.returns-then-is_mbs
returns-then-is_mbs c =
    maximum_mbs _ _ _ (sym c.is_mbs.ensures ∙ c.if-is_mbs.true)
    ∙ ap (λ (l : List ℕ). maximum_of c.args.tables.now l c.args.s) c.self.view_is

pub returns-else-is_mbs : goal.returns-else-is_mbs
returns-else-is_mbs c =
    maximum_other _ _ _ (sym c.is_mbs.ensures ∙ c.if-is_mbs.false) c.frequency.ensures
    ∙ ap (λ (l : List ℕ). maximum_of c.args.tables.now l c.args.s) c.self.view_is
