-- `second_line` hands out the second line: the part of the slice is the part of the definition.
use borrow.Author.Rules.{rules}
use Rattle.records.specs.MessageRecords.{second_line}
use Rattle.reading.proofs.second_line.Goals as goal

pub returns : goal.returns
unfolding second_line
returns c = search rules
