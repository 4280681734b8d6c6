-- `put_bytes` stores the bytes: the part of the buffer becomes the bytes.
use Rattle.writing.proofs.Loops.{copied}
use Rattle.writing.proofs.put_bytes.Goals as goal

pub returns : goal.returns
returns c = copied _ _ _ c.copy_from_slice.ensures.after
