-- The loop keeps `Summing`: the sums so far, with the rest of the run, are those of the run. The rest falls.
use lib.ListN.{length}
use Rattle.forecast.proofs.Summing.{Summing}
use Rattle.forecast.proofs.sums_of.Given as goal

abbrev pub invariant-loop-rest : goal.invariant-loop-rest
invariant-loop-rest l = Summing l.claims l.account l.date l.sums l.rest

abbrev pub decreases-loop-rest : goal.decreases-loop-rest
decreases-loop-rest l = length l.rest
