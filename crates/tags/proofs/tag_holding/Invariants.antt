-- The loop keeps that the digits read so far write n; each return is one answer of the definition.
use Prim.Native.Nat.{◌≤◌}
use Rattle.tags.proofs.Digits.{Reading}
use Rattle.tags.proofs.tag_holding.Given as goal

abbrev pub invariant-loop-b : goal.invariant-loop-b
invariant-loop-b l = (l.b-index ≤ 8) × Reading l.content l.n l.b-index
