-- `claim_at` gives the claim that stands in the bytes, field by field.
use Rattle.records.proofs.Readings.{claim_fields}
use Rattle.reading.proofs.claim_at.Goals as goal

pub returns : goal.returns
returns c =
    let slot = c in
    let release = slot in
    let principal = release in
    let interest = principal in
    let transfer = interest in
    let row = transfer in
    let security = row in
    let payee = security in
    let payer = payee in
    let outcome = payer in
    let kind = outcome in
    claim_fields _ kind.args.s.now
    kind.u8_at.ensures outcome.u8_at-2.ensures payer.u8_at-3.ensures payee.u8_at-4.ensures security.u8_at-5.ensures
    row.u8_at-6.ensures transfer.u32_at.ensures interest.number_at.ensures.0 principal.number_at-2.ensures.0
    release.u32_at-2.ensures slot.u8_at-7.ensures
