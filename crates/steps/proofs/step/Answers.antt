-- A step serves what is there, moves the rest to the input's start, and says what is held.
use Rattle.program.proofs.Coded.{steps_rest, consumed_inside, rest_inside, steps_on}
use borrow.Author.Rules.{rules}
use Rattle.steps.proofs.step.Goals as goal

pub returns-then-held : goal.returns-then-held
returns-then-held c = steps_rest _ _ _ _ _ _ _ c.if-held.true _ c.rest.ensures

pub overflow_sub-have : goal.overflow_sub-have
overflow_sub-have c = consumed_inside _ _ _ _ _ _ _ _ _ _ _ c.serve-s.ensures

pub move_down-requires : goal.move_down-requires
move_down-requires c = rest_inside _ _ _ _ _ _ _ _ _ _ _ c.serve-s.ensures (search rules)

pub held_after-requires : goal.held_after-requires
held_after-requires c = consumed_inside _ _ _ _ _ _ _ _ _ _ _ c.serve-s.ensures

pub returns : goal.returns
returns c = steps_on _ _ _ _ _ _ _ c.if-held.false _ c.has_ended-ended.ensures _ _ _ c.serve-s.ensures _ c.move_down.ensures _ c.held_after.ensures
