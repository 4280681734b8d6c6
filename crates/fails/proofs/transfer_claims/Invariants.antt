-- The loop keeps that the claims on the rows from the first one up to the index are passed.
use Rattle.fails.proofs.Turns.{Rows}
use Rattle.fails.proofs.transfer_claims.Given as goal

abbrev pub invariant-loop-index : goal.invariant-loop-index
invariant-loop-index l = Rows l.calendar l.tables l.day l.number l.t l.rows l.write l.initial.buffer l.buffer l.n l.index
