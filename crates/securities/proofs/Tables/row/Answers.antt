-- The row's words are cut from its place in the tables.
use mathlib.Core.Path.{refl, ap, ◌∙◌}
use mathlib.Core.List.{List}
use Prim.Native.Nat.{ℕ}
use Rattle.securities.specs.Securities.{row_at}
use Rattle.securities.proofs.Checks.{row_place}
use Rattle.securities.proofs.Tables.row.Goals as goal

pub returns : goal.returns
returns c =
    c.of.ensures ∙ row_place _ c.args.s c.args.index refl
    ∙ ap (λ (t : List ℕ). row_at t c.args.s c.args.index) c.self.view_is
