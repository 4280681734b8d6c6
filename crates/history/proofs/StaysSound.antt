-- A call on a sound book leaves a sound book: numbers 1 to 4 do not apply to what it leaves. So does an accepted opening.
use mathlib.Core.Path.{◌≡◌, refl, ap}
use mathlib.Core.Bool.{Bool, true, false, not, ◌||◌, ◌&&◌}
use mathlib.Core.List.{List, [], ◌∷◌}
use Prim.Native.Nat.{ℕ, zero, suc}
use lib.Dec.{eqb, leb}
use lib.ListN.{length, replicate, length-replicate}
use borrow.Author.Tests.{ne_eqb}
use Rattle.lists.specs.Tests.{and_both, or_false_left, or_false_right}
use Rattle.lists.specs.First.{cause, NoneApplies, first_of, numbered, applies_at, none_applies, first_none, cleared_by, none_left, none_right}
use Rattle.days.specs.Days.{is_open, open_after}
use Rattle.days.proofs.OpenDays.{after_open, open_date}
use Rattle.records.specs.MessageRecords.{transfer_kind, transfer_of}
use Rattle.claims.specs.Fails.{contract_tag}
use Rattle.tags.specs.ContractDateTag.{edit_causes}
use Rattle.book.specs.declared.Book.{Book}
use Rattle.book.specs.Loans.{loan_causes}
use Rattle.book.specs.declared.Position.{Position}
use Rattle.book.specs.Book.{position, largest_balance}
use Rattle.book.specs.Soundness.{wrong_length, bad_day, good_balance, good_balances_from, bad_balances, table_causes, state_causes, book_causes, opening_causes}
use Rattle.book.proofs.Judged.{kept, numbered_book, numbered_opening, sound_state}
use Rattle.book.proofs.Posted.{posting_clear, posted_sound, posted_length}
use Rattle.history.specs.Calls.{TransferArguments, Call, transfer, close, claims_of}
use Rattle.history.specs.Causes.{record_causes, field_causes, count_causes, room_causes, transfer_causes, call_causes, sound_causes, causes, number_for, opening_number}
use Rattle.history.specs.Results.{next_book, next_balances, result_with, result_for, result, opened_for, opened}
use Rattle.history.proofs.Accepted.{taken, closed, accepted_iff}

-- numbers 1 to 4 where the balances keep their length and the day and the balances are sound
moved : (calendar tables before after : List ℕ) (next : ℕ) → first_of (table_causes calendar tables before) ≡ 0
    → length after ≡ length before → bad_day calendar next ≡ false → bad_balances after ≡ false
    → first_of (book_causes calendar tables next after) ≡ 0
unfolding book_causes table_causes state_causes wrong_length numbered
moved calendar tables before after next z l d b =
    let n = none_applies (table_causes calendar tables before) refl z in
    first_none (book_causes calendar tables next after) (rw l n.0, (n.1.0, (n.1.1.0, (rw (d, b) refl, tt))))

-- a day that is open and has an open day after it
open_day : (calendar : List ℕ) (day : ℕ) → is_open calendar day ≡ true → (open_after calendar day ≡ 0 → ⊥) → bad_day calendar day ≡ false
unfolding bad_day
open_day calendar day o n = rw (o, ne_eqb (open_after calendar day) 0 n) refl

module _ (calendar tables : List ℕ) (book : Book) (balances : List ℕ) (z : first_of (book_causes calendar tables book.day balances) ≡ 0) where
  tables_clear : first_of (table_causes calendar tables balances) ≡ 0
  unfolding book_causes
  tables_clear =
      first_none _ (none_left (table_causes calendar tables balances) _ (none_applies _ (numbered_book calendar tables book.day balances) z))

  fourth : bad_day calendar book.day || bad_balances balances ≡ false
  fourth = sound_state calendar tables book.day balances z

  balances_clear : bad_balances balances ≡ false
  balances_clear = or_false_right (bad_day calendar book.day) _ fourth

  loans_clear : (a : TransferArguments) → number_for calendar tables book balances (transfer a) ≡ 0 → first_of (loan_causes balances (transfer_of a.message)) ≡ 0
  unfolding causes call_causes transfer_causes
  loans_clear a e =
      let t = transfer_of a.message in
      let tag = contract_tag book.day a.message in
      let all = (accepted_iff calendar tables book balances (transfer a)).0 e in
      let own = none_right (record_causes transfer_kind a.message) _ (none_right (sound_causes calendar tables book.day balances (transfer a)) _ all) in
      let fields = none_left (transfer_causes tables a.pieces book balances t tag) (room_causes (claims_of calendar tables book balances (transfer a)) a.buffer) own in
      posting_clear a.pieces balances t _
      (none_right (count_causes book.count) _
      (none_right (edit_causes tag t.class book.day) _ (none_right (field_causes tables t) _ fields)))

  accepted_sound : (call : Call) → number_for calendar tables book balances call ≡ 0
      → first_of (book_causes calendar tables (next_book calendar book call).day (next_balances balances call)) ≡ 0
  unfolding next_book next_balances
  accepted_sound (transfer a) e =
      let t = transfer_of a.message in
      let k = taken calendar tables book balances a e in
      let f = k.fields in
      moved calendar tables balances _ book.day tables_clear (posted_length balances t) (or_false_left _ (bad_balances balances) fourth)
      (posted_sound balances t k.sound.tables_sound.balance_words_lem balances_clear (loans_clear a e) f.sender f.receiver f.security f.apart)
  accepted_sound (close a) e =
      let k = closed calendar tables book balances a e in
      let s = k.sound in
      let d = open_date calendar book.day s.day_sound.open_day in
      moved calendar tables balances balances (open_after calendar book.day) tables_clear refl
      (open_day calendar (open_after calendar book.day) (after_open (kept s.tables_sound) book.day d s.day_sound.next_day) k.follows)
      balances_clear

  -- what a call leaves, accepted or refused
  pub result_sound : (call : Call)
      → first_of (book_causes calendar tables (result calendar tables book balances call).answer.book.day (result calendar tables book balances call).balances) ≡ 0
  unfolding result result_with
  result_sound call = go (number_for calendar tables book balances call) refl
    where
      go : (n : ℕ) → number_for calendar tables book balances call ≡ n
          → first_of (book_causes calendar tables (result_for n calendar tables book balances call).answer.book.day (result_for n calendar tables book balances call).balances) ≡ 0
      go zero e = accepted_sound call e
      go (suc n) e = z

-- ---- an opening

pub good_zeros : (n w : ℕ) → good_balances_from w (replicate n 0) ≡ true
unfolding good_balances_from good_balance
good_zeros zero w = refl
good_zeros (suc n) w = and_both (or_zero (position w)) (good_zeros n (suc w))
  where
    or_zero : (p : Position) → (leb 0 largest_balance && (not (eqb p.lender p.borrower) || eqb 0 0)) ≡ true
    or_zero p = go (not (eqb p.lender p.borrower))
      where
        go : (b : Bool) → (leb 0 largest_balance && (b || eqb 0 0)) ≡ true
        go true = refl
        go false = refl

-- an accepted opening leaves a sound book
pub opened_sound : (calendar tables balances : List ℕ) (day : ℕ) → opening_number calendar tables balances day ≡ 0
    → first_of (book_causes calendar tables (opened calendar tables balances day).book.day (opened calendar tables balances day).balances) ≡ 0
unfolding opened opened_for opening_number opening_causes bad_balances table_causes applies_at
opened_sound calendar tables balances day e =
    rw e
    (moved calendar tables balances (replicate (length balances) 0) day
    (first_none _ (none_left (table_causes calendar tables balances) (cause 4 (bad_day calendar day) ∷ []) none))
    (length-replicate (length balances) 0)
    (cleared_four none)
    (ap not (good_zeros (length balances) 0)))
  where
    none : NoneApplies (opening_causes calendar tables balances day)
    none = none_applies _ (numbered_opening calendar tables balances day) e

    cleared_four : NoneApplies (opening_causes calendar tables balances day) → bad_day calendar day ≡ false
    cleared_four n = cleared_by 4 (opening_causes calendar tables balances day) n
