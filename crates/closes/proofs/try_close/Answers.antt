-- Each refusal is the first cause that applies; an accepted close is counted, then its claims are stored.
use mathlib.Core.Path.{◌≡◌, refl, sym, ap, ◌∙◌}
use Rattle.days.specs.Days.{open_after}
use Rattle.days.proofs.OpenDays.{on_day_lem, no_day}
use Rattle.records.specs.declared.Refusal.TheVariants as refusal
use Rattle.records.specs.Refusals.{refusal_number}
use Rattle.records.proofs.Answers.{close_is, close_not}
use Rattle.claims.specs.Passes.{free_count, free_store}
use Rattle.claims.proofs.Passes.{passed_written}
use Rattle.claims.proofs.Turns.{close_few}
use Rattle.book.specs.Answered.{answered}
use Rattle.book.proofs.Judged as judged
use Rattle.history.specs.Calls.{Arguments, close, buffer_of, claims_of}
use Rattle.history.specs.Causes.{sound_causes}
use Rattle.history.specs.Results.{next_book, next_balances}
use Rattle.history.proofs.Answers.{refused_next, answers_accepted, sound_number}
use Rattle.closes.proofs.Numbers.{close_cut, close_last, close_room, close_accepted, sound_close, small_balances, no_later, none_found, one_found}
use native.Mathlib.Nat.{zero-add}
use native.Mathlib.Omega.{arith}
use Rattle.closes.proofs.try_close.Goals as goal

pub returns-then-not-read_close : goal.returns-then-not-read_close
unfolding buffer_of sound_causes refusal_number
returns-then-not-read_close c =
    let a = c.args in
    let m = a.market.now in
    let asked : Arguments = record { message = a.message.now; buffer = a.claims.now } in
    refused_next m.calendar m.tables a.book a.balances.now (close asked) refusal.Message c.requires
    (close_cut m.calendar m.tables a.book a.balances.now asked (close_not a.message.now c.read_close.ensures c.if-not-read_close.true))

pub returns-in_default : goal.returns-in_default
unfolding buffer_of sound_causes refusal_number
returns-in_default c =
    let a = c.args in
    let m = a.market.now in
    let asked : Arguments = record { message = a.message.now; buffer = a.claims.now } in
    refused_next m.calendar m.tables a.book a.balances.now (close asked) refusal.LastDay c.requires
    (close_last m.calendar m.tables a.book a.balances.now asked (close_is a.message.now c.read_close.ensures c.if-not-read_close.false)
    (no_later m.calendar a.book.day (no_day _ c.open_after.ensures c.in_default.is)))

pub returns-then-is_none : goal.returns-then-is_none
unfolding buffer_of sound_causes refusal_number
returns-then-is_none c =
    let a = c.args in
    let m = a.market.now in
    let asked : Arguments = record { message = a.message.now; buffer = a.claims.now } in
    let next : c.in-Some.next.0 ≡ open_after m.calendar a.book.day = on_day_lem _ c.open_after.ensures c.in-Some.is in
    refused_next m.calendar m.tables a.book a.balances.now (close asked) refusal.LastDay c.requires
    (close_last m.calendar m.tables a.book a.balances.now asked (close_is a.message.now c.read_close.ensures c.if-not-read_close.false)
    (sym (ap (open_after m.calendar) next) ∙ none_found _ c.open_after-2.ensures c.is_none.ensures c.if-is_none.true))

pub invariant_of-close : goal.invariant_of-close
invariant_of-close c =
    let k = judged.sound_number _ _ _ _ c.requires in
    record {
      sound = sound_close _ _ _ _ _ k (on_day_lem _ c.open_after.ensures c.in-Some.is);
      words = k.tables_sound.balance_words_lem;
      small = small_balances _ _ _ _ c.requires;
    }

pub pass_close-n-requires : goal.pass_close-n-requires
pass_close-n-requires c =
    let a = c.args in
    let m = a.market.now in
    free_count _ _ (omega (arith, close_few m.calendar m.tables a.book.day a.balances.now))

pub overflow_mul-n : goal.overflow_mul-n
overflow_mul-n c =
    let a = c.args in
    let m = a.market.now in
    record { fits = omega (arith, c.pass_close-n.ensures.next, close_few m.calendar m.tables a.book.day a.balances.now) }

pub returns-then-claims-n : goal.returns-then-claims-n
unfolding buffer_of sound_causes refusal_number
returns-then-claims-n c =
    let a = c.args in
    let m = a.market.now in
    let asked : Arguments = record { message = a.message.now; buffer = a.claims.now } in
    let p = c.pass_close-n.ensures in
    let next : c.in-Some.next.0 ≡ open_after m.calendar a.book.day = on_day_lem _ c.open_after.ensures c.in-Some.is in
    let later : open_after m.calendar (open_after m.calendar a.book.day) ≡ 0 → ⊥ =
    λ z. one_found _ c.open_after-2.ensures c.is_none.ensures c.if-is_none.false (ap (open_after m.calendar) next ∙ z) in
    rw p.bytes
    (refused_next m.calendar m.tables a.book a.balances.now (close asked) refusal.Room c.requires
    (close_room m.calendar m.tables a.book a.balances.now asked (close_is a.message.now c.read_close.ensures c.if-not-read_close.false) later
    (omega (arith, p.next, c.if-claims-n.true, c.pass_close-n.auto.buffer))))

pub store-m-requires : goal.store-m-requires
store-m-requires c =
    let a = c.args in
    let m = a.market.now in
    let p = c.pass_close-n.ensures in (
      free_store _ _ (omega (arith, close_few m.calendar m.tables a.book.day a.balances.now)) (omega (arith, p.next, c.if-claims-n.false)),
      p.next ∙ zero-add _,
    )

pub returns : goal.returns
unfolding buffer_of sound_causes claims_of next_book next_balances answered
returns c =
    let a = c.args in
    let m = a.market.now in
    let asked : Arguments = record { message = a.message.now; buffer = a.claims.now } in
    let p = c.pass_close-n.ensures in
    let q = c.store-m.ensures in
    let next : c.in-Some.next.0 ≡ open_after m.calendar a.book.day = on_day_lem _ c.open_after.ensures c.in-Some.is in
    let later : open_after m.calendar (open_after m.calendar a.book.day) ≡ 0 → ⊥ =
    λ z. one_found _ c.open_after-2.ensures c.is_none.ensures c.if-is_none.false (ap (open_after m.calendar) next ∙ z) in
    answers_accepted m.calendar m.tables a.book a.balances.now (close asked) _ _ _ _
    (sound_number m.calendar m.tables a.book a.balances.now (close asked) _ c.requires
    (close_accepted m.calendar m.tables a.book a.balances.now asked (close_is a.message.now c.read_close.ensures c.if-not-read_close.false) later
    (omega (arith, p.next, c.if-claims-n.false, c.pass_close-n.auto.buffer))))
    (λ i. record { day = next i; count = a.book.count })
    (omega (arith, q.next))
    (passed_written _ _ _ _ _ _ p q)
    refl
