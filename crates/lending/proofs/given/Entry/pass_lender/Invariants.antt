-- The loop keeps that the claims of the borrowers below the next one are passed.
use Rattle.std.proofs.Common.{get_or}
use Rattle.claims.specs.Passes.{Turning}
use Rattle.lending.specs.Levels.{loan_level}
use Rattle.lending.proofs.given.Entry.pass_lender.Given as goal

abbrev pub invariant-loop-borrower : goal.invariant-loop-borrower
invariant-loop-borrower l =
    Turning l.write (λ b. loan_level l.self l.lender b (get_or l.lent b 0)) 16 l.initial.buffer l.buffer l.n l.m l.borrower
