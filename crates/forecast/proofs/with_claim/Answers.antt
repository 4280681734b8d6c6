-- `with_claim` meets its contract: a claim that does not count, or whose party is another account, adds nothing; any other adds its cents.
use native.Mathlib.Omega.{arith}
use borrow.Author.Rules.{rules}
use borrow.Author.Tests.{eq-eqb, ne_eqb}
use Rattle.cash.specs.Cash.{counts, cents_of}
use Rattle.forecast.specs.Adding.{capped}
use Rattle.forecast.proofs.with_claim.Goals as goal

pub returns-then-c-date : goal.returns-then-c-date
unfolding capped counts
returns-then-c-date c = rw (ne_eqb _ _ c.if-c-date.true) (omega arith)

pub returns-then-c-ne0 : goal.returns-then-c-ne0
unfolding capped counts
returns-then-c-ne0 c = rw (eq-eqb _ _ c.if-c-date.false, ne_eqb _ _ c.if-c-ne0.true) (omega arith)

pub returns-then-party-account : goal.returns-then-party-account
unfolding capped counts
returns-then-party-account c = rw (eq-eqb _ _ c.if-c-date.false, eq-eqb _ _ c.if-c-ne0.false, ne_eqb _ _ c.if-party-account.true) (omega arith)

pub plus-requires-2 : goal.plus-requires-2
unfolding capped
plus-requires-2 c = search rules

pub returns : goal.returns
unfolding capped counts cents_of
returns c =
    rw (eq-eqb _ _ c.if-c-date.false, eq-eqb _ _ c.if-c-ne0.false, eq-eqb _ _ c.if-party-account.false)
    (omega arith)
