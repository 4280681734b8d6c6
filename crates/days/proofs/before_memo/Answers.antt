-- The comparison is the definition's.
use mathlib.Core.Path.{refl}
use Rattle.days.specs.MemoDay.{before_memo}
use Rattle.days.proofs.before_memo.Goals as goal

pub returns : goal.returns
unfolding before_memo
returns c = refl
