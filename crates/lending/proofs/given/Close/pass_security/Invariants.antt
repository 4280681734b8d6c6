-- The loop keeps that the turns of the rows below the index are made.
use Rattle.securities.specs.Securities.{row_at}
use Rattle.claims.specs.Passes.{Turning}
use Rattle.lending.specs.Levels.{turn_level}
use Rattle.lending.proofs.given.Close.pass_security.Given as goal

abbrev pub invariant-loop-index : goal.invariant-loop-index
invariant-loop-index l =
    Turning l.write (λ i. turn_level l.self l.security (row_at l.self.tables.now l.security i)) 16 l.initial.buffer l.buffer l.n l.m l.index
