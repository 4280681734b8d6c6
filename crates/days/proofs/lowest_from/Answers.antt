-- The zeros below the lowest bit of the masked word are the first place that is on.
use Rattle.days.proofs.Bits.{lowest_masked}
use borrow.Author.Rules.{rules}
use Rattle.days.proofs.lowest_from.Goals as goal

pub returns : goal.returns
returns c = lowest_masked c.args.k c.args.w (search rules) c.requires
