-- `is_headed` tests the header: each answer is a case of the definition.
use mathlib.Core.Path.{sym, ap, ◌∙◌}
use lib.Dec.{eqb}
use Rattle.records.proofs.Readings.{headed_short, headed_length, headed_kind}
use borrow.Author.Rules.{rules}
use Rattle.reading.proofs.is_headed.Goals as goal

pub returns-then-message-following : goal.returns-then-message-following
returns-then-message-following c = let a = c.args in headed_short a.following a.kind a.message.now (search rules)

pub returns-then-u16_at-following : goal.returns-then-u16_at-following
returns-then-u16_at-following c =
    let a = c.args in
    headed_length a.following a.kind a.message.now (search rules) (λ e. c.if-u16_at-following.true (c.u16_at.ensures ∙ e))

pub returns : goal.returns
returns c =
    let a = c.args in
    ap (λ n. eqb n a.kind) c.u16_at-2.ensures
    ∙ headed_kind a.following a.kind a.message.now (search rules) (sym c.u16_at.ensures ∙ c.if-u16_at-following.false)
