-- The claim is written to the part of the buffer from its record place on.
use Rattle.claims.proofs.Making.{stored_claim}
use borrow.Author.Rules.{rules}
use Rattle.amounts.proofs.put_claim.Goals as goal

pub returns : goal.returns
returns c =
    let a = c.args in
    stored_claim a.buffer.now _ a.n a.c _ (search rules) c.write_claim.ensures
