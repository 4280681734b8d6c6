-- A date's year and month lie in the calendar.
use mathlib.Core.Path.{refl}
use Rattle.days.specs.Days.{word_of}
use Rattle.days.proofs.Parts.{parts, word_lt}
use native.Mathlib.Omega.{arith}
use Rattle.days.proofs.word_of.Goals as goal

pub overflow_sub-result : goal.overflow_sub-result
overflow_sub-result c = let p = parts _ c.requires in omega arith

pub overflow_sub-result-2 : goal.overflow_sub-result-2
overflow_sub-result-2 c = let p = parts _ c.requires in omega arith

pub returns : goal.returns
unfolding word_of
returns c = (refl, word_lt _ c.requires)
