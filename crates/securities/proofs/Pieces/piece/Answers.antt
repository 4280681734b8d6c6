-- Good pieces have a number above 0 for each security.
use mathlib.Core.Path.{ap, ◌∙◌}
use native.Mathlib.Omega.{arith}
use mathlib.Core.List.{List}
use Prim.Native.Nat.{ℕ}
use Rattle.securities.specs.Lent.{piece_of}
use Rattle.securities.proofs.Sound.{sixteen_pieces, piece_some, piece_read}
use Rattle.securities.proofs.Pieces.piece.Goals as goal

pub bounds-self-inside-s : goal.bounds-self-inside-s
bounds-self-inside-s c = omega (arith, sixteen_pieces _ c.self.invariant, c.requires)

pub returns-clause-value : goal.returns-clause-value
returns-clause-value c =
    piece_read _ _ c.self.invariant c.requires ∙ ap (λ (p : List ℕ). piece_of p c.args.s) c.self.view_is

pub returns-clause-positive : goal.returns-clause-positive
returns-clause-positive c = piece_some _ _ c.self.invariant c.requires
