-- The call leaves its claims in the first 64 KiB of the output, and the answer goes behind them.
use mathlib.Core.Path.{sym, ◌∙◌}
use lib.ListN.{length-take}
use Prim.Native.Nat.{◌+◌, ◌*◌}
use Rattle.stream.specs.Serving.{worked}
use Rattle.stream.proofs.Records.{Leaves, leaves}
use native.Mathlib.Omega.{arith}
use Rattle.serving.proofs.work.Goals as goal
use Rattle.serving.proofs.work.Goals.{After-call-done}

-- what the call leaves
abbrev Kept : After-call-done → Type 0
Kept c =
    let a = c.args in
    Leaves a.market.now.calendar a.market.now.tables a.book a.balances.now a.message.now a.output.now c.requires.1 a.room c.call-done.result c.call-done.new.claims c.call-done.new.balances

kept : (c : After-call-done) → Kept c
kept c =
    let a = c.args in
    leaves a.market.now.calendar a.market.now.tables a.book a.balances.now a.message.now a.output.now c.requires.1 _ _ _ a.room c.requires.2 c.call-done.ensures

pub slice_bounds-call-end-2 : goal.slice_bounds-call-end-2
slice_bounds-call-end-2 c =
    let p = c in
    sym (length-take p.args.room p.args.output.now ∙ omega (arith, p.requires.1, p.requires.2))

pub overflow_mul-n : goal.overflow_mul-n
overflow_mul-n c = record { fits = (kept (goal.at.overflow_mul-n c).After-call-done).start }

pub put_answer-requires : goal.put_answer-requires
put_answer-requires c = (kept (goal.at.put_answer-requires c).After-call-done).room_left

pub overflow_add-result : goal.overflow_add-result
overflow_add-result c = record { fits = (kept (goal.at.overflow_add-result c).After-call-done).end }

pub returns : goal.returns
unfolding worked
returns c =
    let d = c in
    (λ i. record { book = d.call-done.result.book; balances = d.call-done.new.balances; written = 35 * d.call-done.result.claims + 6; output = c.put_answer.ensures i }) ∙ (kept (goal.at.returns c).After-call-done).same
