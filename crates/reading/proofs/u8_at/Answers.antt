-- `u8_at` gives the byte at a place: a single byte is its own number.
use borrow.Author.Rules.{rules}
use Rattle.reading.proofs.Loops.{byte_number}
use Rattle.reading.proofs.u8_at.Goals as goal

pub returns : goal.returns
returns c = let a = c.args in byte_number a.s.now a.at (search rules)
