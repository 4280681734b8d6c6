-- Calendar, tables, book and balances are judged once; where they are sound the run is served.
use mathlib.Core.Path.{◌∙◌}
use Rattle.records.proofs.Refusals.{judged_is, judged_none, refused_number}
use Rattle.stream.proofs.Runs.{serves_refused, serves_sound}
use Rattle.serving.proofs.serve.Goals as goal

pub serve_sound-requires : goal.serve_sound-requires
serve_sound-requires c =
    let v = c.in-Ok.ensures.value in
    rw (v.0, v.1) (judged_none c.judge_book.ensures.number c.in-Ok.is)

pub returns-in-Ok : goal.returns-in-Ok
returns-in-Ok c =
    let v = c.in-Ok.ensures.value in
    (rw (v.0, v.1) at c.serve_sound.ensures) ∙ serves_sound _ _ _ _ _ _ _ (judged_none c.judge_book.ensures.number c.in-Ok.is)

pub returns-in-Err : goal.returns-in-Err
returns-in-Err c =
    rw c.number.ensures
    (serves_refused _ _ _ _ _ _ _ _ (judged_is c.judge_book.ensures.number c.in-Err.is) (refused_number _))
