-- Only { adds.
use Rattle.tags.proofs.Quick.{brace_one, brace_other}
use Rattle.tags.proofs.brace.Goals as goal

pub returns-then-byte-eq123 : goal.returns-then-byte-eq123
returns-then-byte-eq123 c = brace_one _ c.if-byte-eq123.true

pub returns : goal.returns
returns c = brace_other _ c.if-byte-eq123.false
