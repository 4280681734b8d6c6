-- `transfer_at` gives the transfer that stands in the bytes, field by field.
use Rattle.records.proofs.Readings.{transfer_fields}
use Rattle.reading.proofs.transfer_at.Goals as goal

pub returns : goal.returns
returns c =
    let par = c in
    let code = par in
    let class = code in
    let security = class in
    let receiver = security in
    let sender = receiver in
    transfer_fields _ sender.args.s.now
    sender.u8_at.ensures receiver.u8_at-2.ensures security.u8_at-3.ensures class.u8_at-4.ensures code.u8_at-5.ensures
    par.u32_at.ensures
