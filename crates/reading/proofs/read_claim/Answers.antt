-- `read_claim` answers as the definition: the header decides, and the fields are those that stand in the bytes.
use mathlib.Core.Path.{sym, ◌∙◌}
use native.Mathlib.Omega.{arith}
use Rattle.records.proofs.Readings.{headed_size, claim_read, claim_refused}
use Rattle.reading.proofs.read_claim.Goals as goal

pub claim_at-requires : goal.claim_at-requires
claim_at-requires c = omega (arith, headed_size _ _ c.args.message.now (sym c.is_headed.ensures ∙ c.if-is_headed.true))

pub returns-then-is_headed : goal.returns-then-is_headed
returns-then-is_headed c =
    let s = c.args.message.now in
    claim_read s (sym c.is_headed.ensures ∙ c.if-is_headed.true) c.claim_at.ensures

pub returns-else-is_headed : goal.returns-else-is_headed
returns-else-is_headed c = claim_refused c.args.message.now (sym c.is_headed.ensures ∙ c.if-is_headed.false)
