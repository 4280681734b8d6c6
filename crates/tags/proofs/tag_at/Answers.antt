-- The first } behind the opener bounds what the tag holds; without one the tag is unended, with one straight behind it empty.
use mathlib.Core.Path.{◌∙◌}
use Prim.Native.Nat.{◌+◌, ◌≤◌}
use Rattle.tags.proofs.Ends.{end_after}
use Rattle.tags.proofs.Answers.{at_unended, at_empty, at_filled}
use borrow.Author.Rules.{rules}
use native.Mathlib.Omega.{arith}
use Rattle.tags.proofs.tag_at.Goals as goal
use Rattle.tags.proofs.tag_at.Goals.{After-end_from-end}

-- the first } does not stand before what the tag holds
behind : (c : After-end_from-end) → c.args.at + 10 ≤ c.end_from-end.result
behind c =
    let a = c.args in
    let h = end_after a.line.now (a.at + 10) (search rules) in
    omega (arith, c.end_from-end.ensures)

pub returns-then-line-end : goal.returns-then-line-end
returns-then-line-end c = at_unended _ _ c.end_from-end.ensures c.if-line-end.true

pub returns-then-end-start : goal.returns-then-end-start
returns-then-end-start c = at_empty _ _ c.end_from-end.ensures c.if-line-end.false c.if-end-start.true

pub slice_bounds-tag_holding-count : goal.slice_bounds-tag_holding-count
slice_bounds-tag_holding-count c = behind (goal.at.slice_bounds-tag_holding-count c).After-end_from-end

pub slice_bounds-tag_holding-start : goal.slice_bounds-tag_holding-start
slice_bounds-tag_holding-start c = let h = behind (goal.at.slice_bounds-tag_holding-count c).After-end_from-end in omega arith

pub returns : goal.returns
returns c =
    c.tag_holding.ensures
    ∙ at_filled _ _ c.end_from-end.ensures c.if-line-end.false c.if-end-start.false
