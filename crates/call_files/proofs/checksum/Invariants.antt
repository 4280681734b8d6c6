-- The sum stays below the modulus.
use Rattle.std.proofs.Common.{◌<◌}
use Rattle.call_files.proofs.checksum.Given as goal

abbrev pub invariant-loop-n : goal.invariant-loop-n
invariant-loop-n g l = l.sum < 4294967291
