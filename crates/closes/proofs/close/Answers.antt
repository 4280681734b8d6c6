-- A number of the causes 1 to 4 refuses the call; else the book is sound.
use Rattle.records.proofs.Refusals.{judged_is, judged_none}
use Rattle.history.specs.Calls.{Arguments, buffer_of, close}
use Rattle.history.specs.Causes.{sound_causes}
use Rattle.history.proofs.Answers.{refused_first}
use Rattle.closes.proofs.close.Goals as goal

pub close_sound-requires : goal.close_sound-requires
close_sound-requires c =
    let v = c.in-Ok.ensures.value in
    rw (v.0, v.1) (judged_none c.judge_book.ensures.number c.in-Ok.is)

pub returns-in-Ok : goal.returns-in-Ok
returns-in-Ok c = let v = c.in-Ok.ensures.value in rw (v.0, v.1) at c.close_sound.ensures

pub returns-in-Err : goal.returns-in-Err
unfolding buffer_of sound_causes
returns-in-Err c =
    let a = c.args in
    let asked : Arguments = record { message = a.message.now; buffer = a.claims.now } in
    rw c.refused.ensures
    (refused_first a.calendar.now a.tables.now a.book a.balances.now (close asked) _ (judged_is c.judge_book.ensures.number c.in-Err.is))
