-- A message that reads as a close is closed, any other is worked as a transfer; 5 is a transfer's answer to what does not read.
use mathlib.Core.Path.{◌∙◌}
use Rattle.records.proofs.Answers.{close_is, close_not}
use Rattle.stream.proofs.Records.{calls_close, calls_transfer}
use Rattle.serving.proofs.call.Goals as goal

pub returns-then-read_close : goal.returns-then-read_close
returns-then-read_close c =
    let a = c.args in
    c.close_sound.ensures ∙ calls_close _ _ _ _ a.claims.now a.message.now (close_is _ c.read_close.ensures c.if-read_close.true)

pub returns-else-read_close : goal.returns-else-read_close
returns-else-read_close c =
    let a = c.args in
    c.transfer_sound.ensures ∙ calls_transfer _ _ _ _ a.claims.now a.message.now (close_not _ c.read_close.ensures c.if-read_close.false)
