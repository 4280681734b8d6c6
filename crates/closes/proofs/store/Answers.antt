-- No claims, or the pass that stores them.
use mathlib.Core.Path.{◌≡◌, refl, sym, ◌∙◌}
use mathlib.Core.Bool.{true}
use mathlib.Core.List.{List, [], ◌∷◌}
use lib.ListN.{length}
use Rattle.records.specs.declared.Claim.{Claim}
use Rattle.claims.specs.Passes.{passed_nothing}
use native.Mathlib.Omega.{arith}
use Rattle.closes.proofs.store.Goals as goal

none : (cs : List Claim) → length cs ≡ 0 → cs ≡ []
none [] e = refl
none (x ∷ xs) e = absurd (omega (arith, e))

pub returns-then-n-eq0 : goal.returns-then-n-eq0
returns-then-n-eq0 c = passed_nothing true _ _ _ (none _ (sym c.requires.1 ∙ c.if-n-eq0.true))
