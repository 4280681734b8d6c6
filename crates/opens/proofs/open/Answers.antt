-- A refused opening leaves the balances; an accepted one clears them.
use mathlib.Core.Path.{refl}
use Rattle.records.specs.Refusals.{judged_number}
use Rattle.records.proofs.Refusals.{refused_number}
use Rattle.history.proofs.Answers.{opens_refused, opens_accepted}
use Rattle.opens.proofs.open.Goals as goal

pub returns-in-Err : goal.returns-in-Err
unfolding judged_number
returns-in-Err c =
    let a = c.args in
    rw c.refused.ensures
    (opens_refused a.calendar.now a.tables.now a.balances.now a.day _ c.in-Err.ensures (refused_number _), refl)

pub returns : goal.returns
unfolding judged_number
returns c =
    let a = c.args in
    (opens_accepted a.calendar.now a.tables.now a.balances.now a.day 0 _ c.in_default.ensures refl c.clear.ensures, refl)
