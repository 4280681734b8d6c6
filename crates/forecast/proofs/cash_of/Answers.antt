-- `cash_of` meets its contract: whole numbers up to the limit are cast without loss, and the difference of two of them fits a signed word.
use mathlib.Core.Path.{subst⁻¹}
use lib.Dec.{T}
use lib.IntN.{ℤ}
use lib.Ieee.{binary64, in_float}
use Rattle.cash.proofs.Doubles.{whole_in, difference_in}
use Rattle.forecast.proofs.Casts.{words_fit, words_difference, cash_cast}
use Rattle.forecast.proofs.cash_of.Goals as goal

pub int_to_float-result : goal.int_to_float-result
int_to_float-result c = whole_in _ c.requires.0

pub int_to_float-result-2 : goal.int_to_float-result-2
int_to_float-result-2 c = whole_in _ c.requires.1

pub overflow_sub-result : goal.overflow_sub-result
overflow_sub-result c = words_fit _ _ c.requires.1 c.requires.0

pub int_to_float-result-3 : goal.int_to_float-result-3
int_to_float-result-3 c =
    let p = c.requires in
    subst⁻¹ (λ (z : ℤ). T (in_float binary64 z)) (words_difference _ _ p.1 p.0) (difference_in _ _ p.1 p.0)

pub returns : goal.returns
returns c = let p = c.requires in cash_cast _ _ p.1 p.0
