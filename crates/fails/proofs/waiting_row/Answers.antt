-- Of other types no row waits; of MBS the search finds the first that does.
use Rattle.std.proofs.Common.{◌≡◌, ℕ, ◌≤◌, true, false, sym, ◌∙◌, rules, tests}
use Rattle.std.proofs.lemmas.Iterator.{first_from_Range, serves_from_Range}
use Rattle.claims.specs.Reached.{row_at, is_waiting}
use Rattle.claims.proofs.Reached.{few_reached}
use Rattle.claims.proofs.RowLoops.{seek_first, waiting_other, waiting_mbs}
use Rattle.fails.proofs.waiting_row.Goals as goal

pub returns-then-not-is_mbs : goal.returns-then-not-is_mbs
returns-then-not-is_mbs c = waiting_other _ _ _ _ _ c.requires.2 (sym c.is_mbs.ensures ∙ c.if-not-is_mbs.true)

pub find-requires-clause-callable : goal.find-requires-clause-callable
find-requires-clause-callable c =
    let few : c.args.reached ≤ 16 = rw c.requires.2 (few_reached _ _ _) in
    serves_from_Range (λ x q k. search (rules, tests)) (λ x low high. search rules)

pub returns : goal.returns
returns c =
    let a = c.args in
    let few : a.reached ≤ 16 = rw c.requires.2 (few_reached _ _ _) in
    waiting_mbs _ _ _ _ _ c.requires.2 (sym c.is_mbs.ensures ∙ c.if-not-is_mbs.false)
    (c.unwrap_or.ensures ∙ seek_first _ _ _ _ _ _ _ c.requires.1 few
    (first_from_Range _ _ _ _
    (λ (i : ℕ). is_waiting a.contract a.day (row_at a.tables.now a.security i) ≡ true)
    (λ (i : ℕ). is_waiting a.contract a.day (row_at a.tables.now a.security i) ≡ false)
    c.find.ensures.ran
    (λ x q k. search (rules, tests))
    (λ x q k. (search rules, search (rules, tests)))))
