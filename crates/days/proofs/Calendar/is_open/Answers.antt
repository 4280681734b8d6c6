-- A date's bit is read from its month's word; what is no date is not open.
use mathlib.Core.Path.{refl}
use Rattle.days.specs.Days.{is_open, bit_on}
use Rattle.days.proofs.Parts.{parts, is_date_lem, not_date}
use native.Mathlib.Omega.{arith}
use Rattle.days.proofs.Calendar.is_open.Goals as goal

pub word_of-requires : goal.word_of-requires
word_of-requires c = (is_date_lem _ c.new.ensures c.in-Some.is).0

pub overflow_sub-result : goal.overflow_sub-result
overflow_sub-result c = let p = parts _ (is_date_lem _ c.new.ensures c.in-Some.is).0 in omega arith

pub overflow_shr-result : goal.overflow_shr-result
overflow_shr-result c = let p = parts _ (is_date_lem _ c.new.ensures c.in-Some.is).0 in omega arith

pub returns-in-Some : goal.returns-in-Some
unfolding is_open bit_on
returns-in-Some c = rw ((is_date_lem _ c.new.ensures c.in-Some.is).0, c.word_of.ensures.0, ← c.self.view_is) refl

pub returns-in-None : goal.returns-in-None
unfolding is_open
returns-in-None c = rw (not_date _ c.new.ensures c.in-None.is)
