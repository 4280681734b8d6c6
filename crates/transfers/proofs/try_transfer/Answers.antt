-- Each refusal is the first cause that applies; an accepted transfer is counted, posted, and its claims are stored.
use mathlib.Core.Path.{refl, sym, ap, ◌∙◌, subst, subst⁻¹}
use mathlib.Core.List.{List}
use Prim.Native.Nat.{◌+◌, ◌≤◌}
use lib.ListN.{length}
use Rattle.std.proofs.lemmas.Result.{err_from_is_err_and}
use Rattle.days.proofs.OpenDays.{open_date}
use Rattle.records.specs.declared.Claim.{Claim}
use Rattle.records.specs.declared.Transfer.{Transfer}
use Rattle.records.specs.declared.Refusal.TheVariants as refusal
use Rattle.records.specs.Refusals.{refusal_number}
use Rattle.records.proofs.Answers.{transfer_is, transfer_not}
use Rattle.records.proofs.Readings.{first_line_length, second_line_length}
use Rattle.records.proofs.Refusals.{judged_is, judged_none, refused_number}
use Rattle.securities.proofs.Sound.{sound_rows}
use Rattle.claims.specs.Passes.{free_count, free_store}
use Rattle.claims.proofs.Passes.{passed_written}
use Rattle.claims.specs.Written.{written}
use Rattle.claims.specs.Reached.{Claiming}
use Rattle.claims.proofs.TableRows.{small_frequency}
use Rattle.claims.proofs.Dues.{few_transfer}
use Rattle.fails.specs.Recent.{recent_claims}
use Rattle.fails.proofs.Claimed.{Recently, recently}
use Rattle.book.specs.Answered.{answered}
use Rattle.book.specs.Loans.{change_of, changed}
use Rattle.book.proofs.Judged as judged
use Rattle.history.specs.Calls.{TransferArguments, transfer, buffer_of, claims_of}
use Rattle.history.specs.Causes.{sound_causes}
use Rattle.history.specs.Results.{next_book, next_balances}
use Rattle.history.proofs.Answers.{refused_next, answers_accepted, sound_number}
use Rattle.transfers.proofs.Numbers.{transfer_cut, tag_read, passed, same_claims, read_refused, read_room, read_accepted}
use borrow.Author.Rules.{rules}
use native.Mathlib.Omega.{arith}
use Rattle.transfers.proofs.try_transfer.Goals as goal
use Rattle.transfers.proofs.try_transfer.Goals.{After-recent_rows-rows}

-- the claims on the rows are the transfer's
abbrev Claims : After-recent_rows-rows → Type 0
Claims c =
    let a = c.args in
    let m = a.market.now in
    Recently m.calendar m.tables a.limits.now a.book.day (a.book.count + 1) c.in-Some.t c.tag_on-tag.result c.recent_rows-rows.result

claims-on : (c : After-recent_rows-rows) → Claims c
claims-on c =
    let a = c.args in
    let m = a.market.now in
    let k = (judged.lent_sound _ _ _ _ _ _ c.requires).tables_sound in
    let f = (passed _ _ _ _ _ _ (judged_none c.judge_own.ensures c.in_ok-judge_own.was)).fields in
    subst⁻¹ (Recently m.calendar m.tables a.limits.now a.book.day (a.book.count + 1) c.in-Some.t c.tag_on-tag.result) c.recent_rows-rows.ensures
    (recently m.calendar m.tables a.limits.now a.book.day (a.book.count + 1) c.in-Some.t k.table_rules f.security c.tag_on-tag.result)

-- they are few
few_on : (c : After-recent_rows-rows)
    → length (recent_claims c.args.market.now.calendar c.args.market.now.tables c.args.book.day (c.args.book.count + 1) c.in-Some.t c.recent_rows-rows.result) ≤ 16
few_on c =
    let a = c.args in
    let m = a.market.now in
    let k = (judged.lent_sound _ _ _ _ _ _ c.requires).tables_sound in
    let f = (passed _ _ _ _ _ _ (judged_none c.judge_own.ensures c.in_ok-judge_own.was)).fields in
    subst (λ (l : List Claim). length l ≤ 16) (claims-on c).claims
    (few_transfer m.tables a.limits.now a.book.day c.in-Some.t c.tag_on-tag.result m.calendar (a.book.count + 1)
    (sound_rows m.calendar m.tables c.in-Some.t.security k.table_rules f.security).beneficiaries)

-- what they ask is there
asks-on : (c : After-recent_rows-rows) → Claiming c.args.market.now.tables c.in-Some.t
asks-on c =
    let f = (passed _ _ _ _ _ _ (judged_none c.judge_own.ensures c.in_ok-judge_own.was)).fields in
    (claims-on c).asks f.sender

pub returns-in_default : goal.returns-in_default
unfolding buffer_of sound_causes refusal_number
returns-in_default c =
    let a = c.args in
    let m = a.market.now in
    let asked : TransferArguments = record { message = a.message.now; buffer = a.claims.now; limits = a.limits.now; pieces = a.pieces.now } in
    refused_next m.calendar m.tables a.book a.balances.now (transfer asked) refusal.Message c.requires
    (transfer_cut m.calendar m.tables a.book a.balances.now asked (transfer_not a.message.now c.read_transfer.ensures c.in_default.is))

pub first_line-requires : goal.first_line-requires
first_line-requires c = (transfer_is _ c.read_transfer.ensures c.in-Some.is).long

pub second_line-requires : goal.second_line-requires
second_line-requires c = (transfer_is _ c.read_transfer.ensures c.in-Some.is).long

pub tag_on-tag-requires : goal.tag_on-tag-requires
tag_on-tag-requires c =
    let h = (transfer_is _ c.read_transfer.ensures c.in-Some.is).long in
    (ap length c.first_line.ensures ∙ first_line_length _ h, ap length c.second_line.ensures ∙ second_line_length _ h)

pub returns-in_err-judge_own : goal.returns-in_err-judge_own
unfolding buffer_of sound_causes
returns-in_err-judge_own c =
    let a = c.args in
    let m = a.market.now in
    let asked : TransferArguments = record { message = a.message.now; buffer = a.claims.now; limits = a.limits.now; pieces = a.pieces.now } in
    let found = transfer_is a.message.now c.read_transfer.ensures c.in-Some.is in
    let p = err_from_is_err_and c.from_residual.result c.from_residual.ensures.1 in
    rw (p.1, p.2)
    (refused_next m.calendar m.tables a.book a.balances.now (transfer asked) _ c.requires
    (read_refused m.calendar m.tables a.book a.balances.now asked found.whole c.in-Some.t _ found.same
    (tag_read a.book.day a.message.now c.tag_on-tag.ensures c.first_line.ensures c.second_line.ensures) _
    (judged_is c.judge_own.ensures c.in_err-judge_own.was) (refused_number _)))

pub overflow_add-count : goal.overflow_add-count
overflow_add-count c = let f = (passed _ _ _ _ _ _ (judged_none c.judge_own.ensures c.in_ok-judge_own.was)).count in search rules

pub recent_rows-rows-requires : goal.recent_rows-rows-requires
recent_rows-rows-requires c =
    let b = judged.lent_sound _ _ _ _ _ _ c.requires in
    let f = (passed _ _ _ _ _ _ (judged_none c.judge_own.ensures c.in_ok-judge_own.was)).fields in
    (f.security, small_frequency _ _ _ b.tables_sound.table_rules f.security, open_date _ _ b.day_sound.open_day)

pub transfer_claims-n-requires : goal.transfer_claims-n-requires
transfer_claims-n-requires c =
    let r = (goal.at.transfer_claims-n-requires c).After-recent_rows-rows in
    (asks-on r, (claims-on r).order, (claims-on r).few, free_count _ _ (omega (arith, few_on r)))

pub overflow_mul-n : goal.overflow_mul-n
overflow_mul-n c = record { fits = omega (arith, c.transfer_claims-n.ensures.next, few_on (goal.at.overflow_mul-n c).After-recent_rows-rows) }

pub returns-then-claims-n : goal.returns-then-claims-n
unfolding buffer_of sound_causes refusal_number
returns-then-claims-n c =
    let a = c.args in
    let m = a.market.now in
    let asked : TransferArguments = record { message = a.message.now; buffer = a.claims.now; limits = a.limits.now; pieces = a.pieces.now } in
    let found = transfer_is a.message.now c.read_transfer.ensures c.in-Some.is in
    let p = c.transfer_claims-n.ensures in
    let w = (claims-on (goal.at.returns-then-claims-n c).After-recent_rows-rows).claims in
    rw p.bytes
    (refused_next m.calendar m.tables a.book a.balances.now (transfer asked) refusal.Room c.requires
    (read_room m.calendar m.tables a.book a.balances.now asked found.whole c.in-Some.t _ found.same
    (tag_read a.book.day a.message.now c.tag_on-tag.ensures c.first_line.ensures c.second_line.ensures) _
    c.judge_own.ensures (c.judge_own.ensures ∙ judged_none c.judge_own.ensures c.in_ok-judge_own.was)
    (omega (arith, p.next, ap length w, c.if-claims-n.true, c.transfer_claims-n.auto.buffer))))

pub post-requires : goal.post-requires
post-requires c =
    let k = passed _ _ _ _ _ _ (judged_none c.judge_own.ensures c.in_ok-judge_own.was) in
    let f = k.fields in
    ((judged.lent_sound _ _ _ _ _ _ c.requires).tables_sound.balance_words_lem, f.sender, f.receiver, f.security, k.loan)

pub transfer_claims-m-requires : goal.transfer_claims-m-requires
transfer_claims-m-requires c =
    let r = (goal.at.transfer_claims-m-requires c).After-recent_rows-rows in (
      asks-on r,
      (claims-on r).order,
      (claims-on r).few,
      free_store _ _ (omega (arith, few_on r)) (omega (arith, c.transfer_claims-n.ensures.next, c.if-claims-n.false)),
    )

pub returns : goal.returns
unfolding buffer_of sound_causes claims_of next_book next_balances answered
returns c =
    let a = c.args in
    let m = a.market.now in
    let asked : TransferArguments = record { message = a.message.now; buffer = a.claims.now; limits = a.limits.now; pieces = a.pieces.now } in
    let found = transfer_is a.message.now c.read_transfer.ensures c.in-Some.is in
    let tag = tag_read a.book.day a.message.now c.tag_on-tag.ensures c.first_line.ensures c.second_line.ensures in
    let p = c.transfer_claims-n.ensures in
    let q = c.transfer_claims-m.ensures in
    let w = (claims-on (goal.at.returns c).After-recent_rows-rows).claims in
    let e = same_claims m.calendar m.tables a.book a.balances.now asked found.whole c.in-Some.t _ found.same tag _ c.judge_own.ensures in
    answers_accepted m.calendar m.tables a.book a.balances.now (transfer asked) _ _ _ _
    (sound_number m.calendar m.tables a.book a.balances.now (transfer asked) _ c.requires
    (read_accepted m.calendar m.tables a.book a.balances.now asked found.whole c.in-Some.t _ found.same tag _
    c.judge_own.ensures (c.judge_own.ensures ∙ judged_none c.judge_own.ensures c.in_ok-judge_own.was)
    (omega (arith, p.next, ap length w, c.if-claims-n.false, c.transfer_claims-n.auto.buffer))))
    refl
    (omega (arith, q.next, ap length w, ap length e))
    (passed_written _ _ _ _ _ _ p q ∙ ap (λ x. written x a.claims.now) (sym w ∙ e))
    (c.post.ensures ∙ ap (λ (x : Transfer). changed a.balances.now (change_of x) x.par) found.same)
