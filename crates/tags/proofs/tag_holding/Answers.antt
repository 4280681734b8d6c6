use Rattle.tags.proofs.Digits.{read_start, read_room, read_stop, read_step, read_digits, read_number, below_digits, above_digits}
use Rattle.tags.proofs.Answers.{holding_length, holding_other, holding_date, holding_not}
use borrow.Author.Rules.{rules}
use native.Mathlib.Omega.{arith}
use Rattle.tags.proofs.tag_holding.Goals as goal

pub returns-then-content-ne8 : goal.returns-then-content-ne8
returns-then-content-ne8 c = holding_length _ c.if-content-ne8.true

pub loop-b-init : goal.loop-b-init
loop-b-init c = (search rules, read_start _)

pub returns-then-b-lt48 : goal.returns-then-b-lt48
returns-then-b-lt48 c = holding_other _ c.if-content-ne8.false (read_stop c.loop-b.invariant.1 (search rules) (below_digits _ c.if-b-lt48.true))

pub returns-then-b-gt57 : goal.returns-then-b-gt57
returns-then-b-gt57 c = holding_other _ c.if-content-ne8.false (read_stop c.loop-b.invariant.1 (search rules) (above_digits _ c.if-b-lt48.false c.if-b-gt57.true))

pub overflow_mul-n : goal.overflow_mul-n
overflow_mul-n c = let h = read_room c.loop-b.invariant.1 (search rules) in record { fits = omega arith }

pub overflow_cast-n : goal.overflow_cast-n
overflow_cast-n c = record { fits = omega arith }

pub overflow_add-n : goal.overflow_add-n
overflow_add-n c = let h = read_room c.loop-b.invariant.1 (search rules) in record { fits = omega arith }

pub loop-b-preserved : goal.loop-b-preserved
loop-b-preserved c = (search rules, read_step c.loop-b.invariant.1 (search rules) c.if-b-lt48.false c.if-b-gt57.false)

pub returns-in-Some : goal.returns-in-Some
returns-in-Some c =
    let l = c in
    holding_date _ l.if-content-ne8.false (read_digits l.loop-b.invariant.1 (search rules)) (read_number l.loop-b.invariant.1 (search rules)) c.new.ensures c.in-Some.is

pub returns-in-None : goal.returns-in-None
returns-in-None c =
    let l = c in
    holding_not _ l.if-content-ne8.false (read_digits l.loop-b.invariant.1 (search rules)) (read_number l.loop-b.invariant.1 (search rules)) c.new.ensures c.in-None.is
