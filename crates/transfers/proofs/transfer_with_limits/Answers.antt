-- A number of the causes 1 to 4, 12 or 13 refuses the call; else the book is sound, and limits and pieces are good.
use Rattle.records.proofs.Refusals.{judged_is, judged_none}
use Rattle.history.specs.Calls.{TransferArguments, buffer_of, transfer}
use Rattle.history.specs.Causes.{sound_causes}
use Rattle.history.proofs.Answers.{refused_first}
use Rattle.transfers.proofs.transfer_with_limits.Goals as goal

pub transfer_lent-requires : goal.transfer_lent-requires
transfer_lent-requires c =
    let v = c.in-Ok.ensures.value in
    rw (v.0, v.1, v.2, v.3) (judged_none c.judge_transfer.ensures.number c.in-Ok.is)

pub returns-in-Ok : goal.returns-in-Ok
returns-in-Ok c = let v = c.in-Ok.ensures.value in rw (v.0, v.1, v.2, v.3) at c.transfer_lent.ensures

pub returns-in-Err : goal.returns-in-Err
unfolding buffer_of sound_causes
returns-in-Err c =
    let a = c.args in
    let asked : TransferArguments = record { message = a.message.now; buffer = a.claims.now; limits = a.limits.now; pieces = a.pieces.now } in
    rw c.refused.ensures
    (refused_first a.calendar.now a.tables.now a.book a.balances.now (transfer asked) _ (judged_is c.judge_transfer.ensures.number c.in-Err.is))
