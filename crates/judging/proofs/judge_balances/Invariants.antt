-- `judge_balances` judges the words in order: the words from w on decide.
use Rattle.book.proofs.Causes.{Judging}
use Rattle.judging.proofs.judge_balances.Given as goal

abbrev pub invariant-loop-w : goal.invariant-loop-w
invariant-loop-w l = Judging l.balances l.w
