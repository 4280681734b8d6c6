-- The inner loop keeps that the bytes compared so far are the opener's, the outer one what stands before its place.
use Prim.Native.Nat.{◌≤◌}
use Rattle.tags.proofs.Openers.{Comparing, Scanning}
use Rattle.tags.proofs.scan.Given as goal

abbrev pub invariant-loop-j : goal.invariant-loop-j
invariant-loop-j l = Comparing l.part l.j

abbrev pub invariant-scan : goal.invariant-scan
invariant-scan l = (l.first ≤ 54) × Scanning l.line l.i l.count l.first
