use mathlib.Core.Path.{sym, ◌∙◌}
use borrow.Author.Tests.{le-ltb}
use Rattle.securities.proofs.Checks.{no_left, no_right, rows_start, row_length, rows_empty, rows_broken, rows_step, rows_end}
use Rattle.securities.proofs.good_rows.Goals as goal

pub loop-i-init : goal.loop-i-init
loop-i-init c = rows_start _ _

pub returns-then-all_zero : goal.returns-then-all_zero
returns-then-all_zero c =
    let here = c in
    c.all_zero-then-all_zero.ensures ∙ rows_empty here.requires here.loop-i-test.true here.loop-i.invariant (sym c.all_zero.ensures ∙ c.if-all_zero.true)

pub of-row-requires : goal.of-row-requires
of-row-requires c = row_length _ _ c.requires c.loop-i-test.true

pub returns-then-not-good_row : goal.returns-then-not-good_row
returns-then-not-good_row c =
    let here = c in
    rows_broken here.requires here.loop-i-test.true here.loop-i.invariant c.of-row.ensures (sym c.all_zero.ensures ∙ c.if-all_zero.false)
    (search (no_left, no_right, sym c.good_row.ensures ∙ c.if-not-good_row.true) depth 4)

pub returns-then-row-record_date : goal.returns-then-row-record_date
returns-then-row-record_date c =
    let here = c in
    rows_broken here.requires here.loop-i-test.true here.loop-i.invariant c.of-row.ensures (sym c.all_zero.ensures ∙ c.if-all_zero.false)
    (search (no_left, no_right, le-ltb _ _ c.if-row-record_date.true) depth 4)

pub returns-then-row-beneficiary_date : goal.returns-then-row-beneficiary_date
returns-then-row-beneficiary_date c =
    let here = c in
    rows_broken here.requires here.loop-i-test.true here.loop-i.invariant c.of-row.ensures (sym c.all_zero.ensures ∙ c.if-all_zero.false)
    (search (no_left, no_right, le-ltb _ _ c.if-row-beneficiary_date.true) depth 4)

pub loop-i-preserved : goal.loop-i-preserved
loop-i-preserved c =
    let here = c in
    rows_step here.requires here.loop-i-test.true here.loop-i.invariant c.of-row.ensures (sym c.all_zero.ensures ∙ c.if-all_zero.false)
    (sym c.good_row.ensures ∙ c.if-not-good_row.false) c.if-row-record_date.false c.if-row-beneficiary_date.false

pub returns : goal.returns
returns c = rows_end c.loop-i-test.false c.loop-i.invariant
