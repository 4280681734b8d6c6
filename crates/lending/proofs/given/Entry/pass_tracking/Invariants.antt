-- The loop keeps that the claims of the lenders below the next one are passed; each is handed its part of the balances.
use Rattle.std.proofs.Common.{◌*◌}
use Rattle.lists.specs.Fields.{part}
use Rattle.claims.specs.Passes.{Turning}
use Rattle.lending.specs.Levels.{lender_level}
use Rattle.lending.proofs.given.Entry.pass_tracking.Given as goal

abbrev pub invariant-loop-lender : goal.invariant-loop-lender
invariant-loop-lender l =
    Turning l.write (λ j. lender_level l.self j (part (16 * j) 16 l.held)) 16 l.initial.buffer l.buffer l.n l.m l.lender
