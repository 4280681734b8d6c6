-- A line without a { has no opener; any other is searched.
use mathlib.Core.Path.{sym, ◌∙◌}
use Rattle.tags.proofs.Quick.{none_counted, none_first}
use borrow.Author.Rules.{rules}
use Rattle.tags.proofs.openers_in.Goals as goal

pub returns-then-braces-eq0 : goal.returns-then-braces-eq0
returns-then-braces-eq0 c =
    let e = sym c.braces.ensures ∙ c.if-braces-eq0.true in
    (none_counted _ e, none_first _ e, search rules, search rules)
