-- `good_security` answers as the definition: zeros where the type is 0, else type, frequency and rows.
use mathlib.Core.Path.{sym, ◌∙◌}
use borrow.Author.Tests.{lt-leb, eq-eqb}
use Rattle.lists.specs.Tests.{cond_true}
use Rattle.securities.specs.Securities.{type_of, good_security}
use Rattle.securities.proofs.Checks.{no_left, no_right, used, used_rows}
use Rattle.securities.proofs.good_security.Goals as goal

pub returns-then-security_type-eq0 : goal.returns-then-security_type-eq0
unfolding good_security type_of
returns-then-security_type-eq0 c = c.all_zero.ensures ∙ sym (cond_true _ _ (eq-eqb _ 0 c.if-security_type-eq0.true))

pub returns-then-security_type-gt4 : goal.returns-then-security_type-gt4
returns-then-security_type-gt4 c = sym (used _ _ c.if-security_type-eq0.false ∙ search (no_left, no_right, lt-leb _ _ c.if-security_type-gt4.true) depth 5)

pub returns-then-frequency-lt1 : goal.returns-then-frequency-lt1
returns-then-frequency-lt1 c = sym (used _ _ c.if-security_type-eq0.false ∙ search (no_left, no_right, lt-leb _ _ c.if-frequency-lt1.true) depth 5)

pub returns-then-frequency-gt4 : goal.returns-then-frequency-gt4
returns-then-frequency-gt4 c = sym (used _ _ c.if-security_type-eq0.false ∙ search (no_left, no_right, lt-leb _ _ c.if-frequency-gt4.true) depth 5)

pub returns : goal.returns
returns c = c.good_rows.ensures ∙ used_rows _ _ c.if-security_type-eq0.false c.if-security_type-gt4.false c.if-frequency-lt1.false c.if-frequency-gt4.false
