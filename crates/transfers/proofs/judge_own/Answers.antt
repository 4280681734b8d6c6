-- Each group of causes is judged in the table's order; the last decides.
use mathlib.Core.Path.{sym, ◌∙◌}
use Rattle.std.proofs.lemmas.Result.{err_from_is_err_and}
use Rattle.records.specs.Refusals.{refusal_number, judged_number}
use Rattle.records.proofs.Refusals.{judged_is, judged_none, refused_number}
use Rattle.history.proofs.Accepted.{fields}
use Rattle.transfers.proofs.Numbers.{out_number, edit_number, count_number, posting_decides}
use Rattle.transfers.proofs.judge_own.Goals as goal

pub returns-then-out_of_range : goal.returns-then-out_of_range
unfolding judged_number refusal_number
returns-then-out_of_range c =
    let a = c.args in
    out_number a.tables.now a.pieces.now a.book a.balances.now a.t a.tag (sym c.out_of_range.ensures ∙ c.if-out_of_range.true)

pub returns-in_err-edits : goal.returns-in_err-edits
unfolding judged_number
returns-in_err-edits c =
    let a = c.args in
    let p = err_from_is_err_and c.from_residual.result c.from_residual.ensures.1 in
    rw (p.1, p.2)
    (edit_number a.tables.now a.pieces.now a.book a.balances.now a.t a.tag (sym c.out_of_range.ensures ∙ c.if-out_of_range.false) _
    (judged_is c.edits.ensures c.in_err-edits.was) (refused_number _))

pub returns-then-book-ge4294967295 : goal.returns-then-book-ge4294967295
unfolding judged_number refusal_number
returns-then-book-ge4294967295 c =
    let a = c.args in
    count_number a.tables.now a.pieces.now a.book a.balances.now a.t a.tag (sym c.out_of_range.ensures ∙ c.if-out_of_range.false) _
    c.edits.ensures (c.edits.ensures ∙ judged_none c.edits.ensures c.in_ok-edits.was) c.if-book-ge4294967295.true

pub judge_posting-requires : goal.judge_posting-requires
judge_posting-requires c = (fields c.args.tables.now c.args.t (sym c.out_of_range.ensures ∙ c.if-out_of_range.false)).security

pub returns : goal.returns
returns c =
    let a = c.args in
    posting_decides a.tables.now a.pieces.now a.book a.balances.now a.t a.tag (sym c.out_of_range.ensures ∙ c.if-out_of_range.false) _
    c.edits.ensures (c.edits.ensures ∙ judged_none c.edits.ensures c.in_ok-edits.was) _ c.if-book-ge4294967295.false c.judge_posting.ensures
