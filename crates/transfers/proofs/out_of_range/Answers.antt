-- Each test of the code is the next test of the definition.
use mathlib.Core.Path.{sym, ◌∙◌}
use borrow.Author.Tests.{eq-eqb, ne_eqb, lt-ltb, le-ltb}
use Rattle.history.specs.Causes.{out_of_range}
use Rattle.transfers.proofs.Numbers.{inside}
use Rattle.transfers.proofs.out_of_range.Goals as goal

pub returns-then-beyond : goal.returns-then-beyond
unfolding out_of_range
returns-then-beyond c = rw (sym c.beyond.ensures ∙ c.if-beyond.true)

pub security_type-requires : goal.security_type-requires
security_type-requires c = inside c.args.t (sym c.beyond.ensures ∙ c.if-beyond.false)

pub returns-then-security_type-eq0 : goal.returns-then-security_type-eq0
unfolding out_of_range
returns-then-security_type-eq0 c = rw (sym c.beyond.ensures ∙ c.if-beyond.false, eq-eqb _ 0 (sym c.security_type.ensures ∙ c.if-security_type-eq0.true))

pub returns-then-t-gt1 : goal.returns-then-t-gt1
unfolding out_of_range
returns-then-t-gt1 c = rw (sym c.beyond.ensures ∙ c.if-beyond.false, ne_eqb _ 0 (λ z. c.if-security_type-eq0.false (c.security_type.ensures ∙ z)), lt-ltb 1 _ c.if-t-gt1.true)

pub returns-then-t-gt12 : goal.returns-then-t-gt12
unfolding out_of_range
returns-then-t-gt12 c = rw (sym c.beyond.ensures ∙ c.if-beyond.false, ne_eqb _ 0 (λ z. c.if-security_type-eq0.false (c.security_type.ensures ∙ z)), le-ltb 1 _ c.if-t-gt1.false, lt-ltb 12 _ c.if-t-gt12.true)

pub returns-then-t-eq0 : goal.returns-then-t-eq0
unfolding out_of_range
returns-then-t-eq0 c = rw (sym c.beyond.ensures ∙ c.if-beyond.false, ne_eqb _ 0 (λ z. c.if-security_type-eq0.false (c.security_type.ensures ∙ z)), le-ltb 1 _ c.if-t-gt1.false, le-ltb 12 _ c.if-t-gt12.false, eq-eqb _ 0 c.if-t-eq0.true)

pub returns-then-t-gt100000000 : goal.returns-then-t-gt100000000
unfolding out_of_range
returns-then-t-gt100000000 c = rw (sym c.beyond.ensures ∙ c.if-beyond.false, ne_eqb _ 0 (λ z. c.if-security_type-eq0.false (c.security_type.ensures ∙ z)), le-ltb 1 _ c.if-t-gt1.false, le-ltb 12 _ c.if-t-gt12.false, ne_eqb _ 0 c.if-t-eq0.false, lt-ltb 100000000 _ c.if-t-gt100000000.true)

pub returns : goal.returns
unfolding out_of_range
returns c = rw (sym c.beyond.ensures ∙ c.if-beyond.false, ne_eqb _ 0 (λ z. c.if-security_type-eq0.false (c.security_type.ensures ∙ z)), le-ltb 1 _ c.if-t-gt1.false, le-ltb 12 _ c.if-t-gt12.false, ne_eqb _ 0 c.if-t-eq0.false, le-ltb 100000000 _ c.if-t-gt100000000.false)
