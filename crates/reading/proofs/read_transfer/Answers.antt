-- `read_transfer` answers as the definition: the header decides, and the fields are those that stand in the bytes.
use mathlib.Core.Path.{sym, ◌∙◌}
use native.Mathlib.Omega.{arith}
use Rattle.records.proofs.Readings.{headed_size, transfer_read, transfer_refused}
use Rattle.reading.proofs.read_transfer.Goals as goal

pub transfer_at-requires : goal.transfer_at-requires
transfer_at-requires c = omega (arith, headed_size _ _ c.args.message.now (sym c.is_headed.ensures ∙ c.if-is_headed.true))

pub returns-then-is_headed : goal.returns-then-is_headed
returns-then-is_headed c =
    let s = c.args.message.now in
    transfer_read s (sym c.is_headed.ensures ∙ c.if-is_headed.true) c.transfer_at.ensures

pub returns-else-is_headed : goal.returns-else-is_headed
returns-else-is_headed c = transfer_refused c.args.message.now (sym c.is_headed.ensures ∙ c.if-is_headed.false)
