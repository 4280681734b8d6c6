-- The beginning, and then the loop on what it left.
use Rattle.std.proofs.Common.{rules}
use Rattle.program.proofs.Coded.{begin_bounds}
use Rattle.program.proofs.Loop.{ran_book}
use Rattle.claimrun.proofs.serve_book.Goals as goal

pub run-requires : goal.run-requires
run-requires g c = begin_bounds _ _ _ _ _ _ _ _ _ _ c.begin-held.ensures (search rules) (search rules) _

pub returns : goal.returns
returns g c = ran_book _ _ _ _ _ _ c.begin-held.ensures _ _ _ _ c.run.ensures
