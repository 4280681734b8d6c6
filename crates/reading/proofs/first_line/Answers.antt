-- `first_line` hands out the first line: the part of the slice is the part of the definition.
use borrow.Author.Rules.{rules}
use Rattle.records.specs.MessageRecords.{first_line}
use Rattle.reading.proofs.first_line.Goals as goal

pub returns : goal.returns
unfolding first_line
returns c = search rules
