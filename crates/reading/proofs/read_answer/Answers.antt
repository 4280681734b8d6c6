-- `read_answer` answers as the definition: the header decides, and the number is the one that stands in the bytes.
use mathlib.Core.Path.{sym, ◌∙◌}
use native.Mathlib.Omega.{arith}
use Rattle.records.proofs.Readings.{headed_size, answer_read, answer_refused, answer_field}
use Rattle.reading.proofs.read_answer.Goals as goal

pub u16_at-requires : goal.u16_at-requires
u16_at-requires c = omega (arith, headed_size _ _ c.args.message.now (sym c.is_headed.ensures ∙ c.if-is_headed.true))

pub returns-then-is_headed : goal.returns-then-is_headed
returns-then-is_headed c =
    let s = c.args.message.now in
    answer_read s (sym c.is_headed.ensures ∙ c.if-is_headed.true) (answer_field _ s c.u16_at.ensures)

pub returns-else-is_headed : goal.returns-else-is_headed
returns-else-is_headed c = answer_refused c.args.message.now (sym c.is_headed.ensures ∙ c.if-is_headed.false)
