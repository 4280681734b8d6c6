use mathlib.Core.Path.{◌≡◌, sym, ◌∙◌}
use Rattle.stream.proofs.Records.{message_number}
use Rattle.stream.proofs.Runs.{going_start, going_waits, going_ends, going_full, going_again, size_fits, written_fits}
use borrow.Author.Rules.{rules}
use native.Mathlib.Omega.{arith}
use Rattle.serving.proofs.serve_sound.Goals as goal

pub loop-output-init : goal.loop-output-init
loop-output-init c = going_start _ _ _ _ _ _ _ c.requires

pub returns-in-Waiting : goal.returns-in-Waiting
returns-in-Waiting c = going_waits _ _ _ _ _ _ _ c.loop-output.invariant (sym c.in-Waiting.is ∙ c.next_record.ensures) _ c.sound_run.ensures

pub returns-in-Wrong : goal.returns-in-Wrong
returns-in-Wrong c =
    let five : c.number.result ≡ 5 = c.number.ensures ∙ message_number in
    going_ends _ _ _ _ _ _ _ c.loop-output.invariant c.loop-output-test.true (sym c.in-Wrong.is ∙ c.next_record.ensures) _ c.sound_run-in-Wrong.ensures
    (rw five at c.put_answer.ensures)

pub overflow_add-at : goal.overflow_add-at
overflow_add-at c = let k = size_fits _ _ _ _ _ _ _ c.loop-output.invariant (sym c.in-Record.is ∙ c.next_record.ensures) in search rules

pub slice_bounds-work-end : goal.slice_bounds-work-end
slice_bounds-work-end c = let k = size_fits _ _ _ _ _ _ _ c.loop-output.invariant (sym c.in-Record.is ∙ c.next_record.ensures) in search rules

pub overflow_add-at-in-loop-output : goal.overflow_add-at-in-loop-output
overflow_add-at-in-loop-output c = let k = size_fits _ _ _ _ _ _ _ c.loop-output.invariant (sym c.in-Record.is ∙ c.next_record.ensures) in search rules

pub overflow_add-out-in-loop-output : goal.overflow_add-out-in-loop-output
overflow_add-out-in-loop-output c = let k = written_fits _ _ _ _ _ _ _ c.loop-output.invariant _ _ _ _ c.loop-output-test.true (sym c.in-Record.is ∙ c.next_record.ensures) c.work-w.ensures in record { fits = omega (arith, k, c.type_inv.output) }

pub loop-output-smaller : goal.loop-output-smaller
loop-output-smaller c = let k = size_fits _ _ _ _ _ _ _ c.loop-output.invariant (sym c.in-Record.is ∙ c.next_record.ensures) in search rules

pub loop-output-preserved : goal.loop-output-preserved
loop-output-preserved c = going_again _ _ _ _ _ _ _ c.loop-output.invariant _ _ _ _ c.loop-output-test.true (sym c.in-Record.is ∙ c.next_record.ensures) c.work-w.ensures

pub returns : goal.returns
returns c = going_full _ _ _ _ _ _ _ c.loop-output.invariant (search rules) _ c.sound_run-2.ensures
