-- The answer is written to the part of the output from its place on.
use Rattle.records.specs.MessageRecords.{answer_values}
use Rattle.stream.proofs.Records.{stored_answer}
use borrow.Author.Rules.{rules}
use Rattle.serving.proofs.put_answer.Goals as goal

pub returns : goal.returns
unfolding answer_values
returns c =
    let a = c.args in
    stored_answer a.output.now _ a.at a.number _ (search rules) c.write_answer.ensures
