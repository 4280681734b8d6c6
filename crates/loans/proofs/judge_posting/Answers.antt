-- A par off its piece gets 14, then lending before the memo 15; else the number of the loan decides.
use mathlib.Core.Path.{sym, ◌∙◌}
use Rattle.records.specs.Refusals.{refusal_number, judged_number}
use Rattle.lists.specs.First.{hit, skip}
use Rattle.book.specs.Loans.{posting_causes}
use Rattle.loans.proofs.judge_posting.Goals as goal

pub returns-then-off_piece : goal.returns-then-off_piece
unfolding posting_causes judged_number refusal_number
returns-then-off_piece c = hit 14 _ (sym c.off_piece.ensures ∙ c.if-off_piece.true)

pub returns-then-lends_early : goal.returns-then-lends_early
unfolding posting_causes judged_number refusal_number
returns-then-lends_early c = skip 14 _ (sym c.off_piece.ensures ∙ c.if-off_piece.false) (hit 15 _ (sym c.lends_early.ensures ∙ c.if-lends_early.true))

pub returns : goal.returns
unfolding posting_causes
returns c =
    skip 14 _ (sym c.off_piece.ensures ∙ c.if-off_piece.false)
    (skip 15 _ (sym c.lends_early.ensures ∙ c.if-lends_early.false) c.judge_loan.ensures)
