-- The loop keeps that the search from the present word on gives the answer.
use mathlib.Core.Path.{◌≡◌}
use Prim.Native.Nat.{◌<◌}
use lib.ListN.{drop}
use Rattle.days.specs.Days.{seek_from}
use Rattle.days.proofs.seek.Given as goal

abbrev pub invariant-loop-m : goal.invariant-loop-m
invariant-loop-m l = (l.k < 32) × (seek_from (drop l.m0 l.months) l.m0 l.k0 ≡ seek_from (drop l.m l.months) l.m l.k)
