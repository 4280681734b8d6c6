-- The search finds the first row that is not reached.
use Rattle.std.proofs.Common.{◌≡◌, ℕ, true, false, ◌∙◌, rules, tests}
use Rattle.std.proofs.lemmas.Iterator.{first_from_Range}
use Rattle.claims.specs.Reached.{row_at, is_reached}
use Rattle.claims.proofs.RowLoops.{reach_found}
use Rattle.fails.specs.Recent.{column}
use Rattle.fails.proofs.reached_rows.Goals as goal

pub returns : goal.returns
returns c =
    let a = c.args in
    c.unwrap_or.ensures ∙ reach_found _ _ _ _ _ _ c.requires.1
    (first_from_Range _ _ _ _
    (λ (i : ℕ). is_reached (column a.by) a.day (row_at a.tables.now a.security i) ≡ false)
    (λ (i : ℕ). is_reached (column a.by) a.day (row_at a.tables.now a.security i) ≡ true)
    c.find.ensures.ran
    (λ x q k. search (rules, tests))
    (λ x q k. (search rules, search (rules, tests))))
