-- The two scans' counts decide between no opener, several, and the one whose tag is read.
use mathlib.Core.Path.{ap, ◌∙◌}
use Rattle.tags.specs.ContractDateTag.{tag_at}
use Rattle.tags.proofs.Answers.{of_none, of_several, of_first, of_second}
use borrow.Author.Rules.{rules}
use Rattle.tags.proofs.tag_of.Goals as goal

pub returns-then-count-eq0 : goal.returns-then-count-eq0
returns-then-count-eq0 c = of_none _ _ c.openers_in-a.ensures.0 c.openers_in-b.ensures.0 c.if-count-eq0.true

pub returns-then-count-gt1 : goal.returns-then-count-gt1
returns-then-count-gt1 c = of_several _ _ c.openers_in-a.ensures.0 c.openers_in-b.ensures.0 c.if-count-gt1.true

pub returns-then-a-eq1 : goal.returns-then-a-eq1
returns-then-a-eq1 c =
    let s = c in
    c.tag_at.ensures ∙ ap (tag_at _) s.openers_in-a.ensures.1 ∙ of_first _ _ s.openers_in-a.ensures.0 s.openers_in-b.ensures.0 (search rules) c.if-a-eq1.true

pub returns : goal.returns
returns c =
    let s = c in
    c.tag_at-2.ensures ∙ ap (tag_at _) s.openers_in-b.ensures.1 ∙ of_second _ _ s.openers_in-a.ensures.0 s.openers_in-b.ensures.0 (search rules) c.if-a-eq1.false
