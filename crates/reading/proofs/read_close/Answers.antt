-- `read_close` answers as the definition: the header decides.
use Rattle.records.proofs.Readings.{close_answered}
use Rattle.reading.proofs.read_close.Goals as goal

pub returns : goal.returns
returns c = close_answered c.args.message.now _ c.is_headed.ensures
