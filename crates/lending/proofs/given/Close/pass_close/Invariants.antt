-- The loop keeps that the claims of the securities below the next one are passed.
use Rattle.claims.specs.Passes.{Turning}
use Rattle.lending.specs.Levels.{security_level}
use Rattle.lending.proofs.given.Close.pass_close.Given as goal

abbrev pub invariant-loop-security : goal.invariant-loop-security
invariant-loop-security l =
    Turning l.write (security_level l.self) 16 l.initial.buffer l.buffer 0 l.m l.security
