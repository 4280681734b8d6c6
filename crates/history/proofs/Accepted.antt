-- What an accepted call says of its book, balances and message: no cause of its table applies, taken by number.
use mathlib.Core.Path.{◌≡◌, refl}
use mathlib.Core.Logic.{◌↔◌}
use mathlib.Core.Bool.{Bool, true, false, cond}
use mathlib.Core.List.{List}
use Prim.Native.Nat.{ℕ, ◌*◌, ◌≤◌, ◌<◌}
use lib.ListN.{length}
use borrow.Author.Tests.{leb-false, ltb-false, not-false, eqb-false}
use Rattle.lists.specs.Tests.{or_false_left, or_false_right}
use Rattle.lists.specs.First.{NoneApplies, numbered, applies_at, none_applies, cleared_by, none_left}
use Rattle.lists.proofs.First.{accepted}
use Rattle.days.specs.Days.{open_after}
use Rattle.records.specs.declared.Transfer.{Transfer}
use Rattle.records.specs.MessageRecords.{transfer_kind, close_kind, transfer_of, reads}
use Rattle.book.specs.declared.Book.{Book}
use Rattle.book.specs.Book.{InRange}
use Rattle.book.specs.declared.Change.{Change}
use Rattle.book.specs.declared.Change.TheVariants.{Unchanged as unchanged, Increase as increase, Decrease as decrease}
use Rattle.book.specs.Loans.{step_of, increasing, decreasing, by_sender, by_receiver, change_of, above_balance}
use Rattle.book.specs.Soundness.{book_causes, opening_causes}
use Rattle.book.proofs.Posted.{tracking_range}
use Rattle.book.proofs.Judged.{SoundBook, sound_book, lent_none, SoundOpening, sound_opening, numbered_opening}
use Rattle.history.specs.Calls.{Arguments, TransferArguments, Call, transfer, close, claims_of}
use Rattle.history.specs.Causes.{out_of_range, call_causes, sound_causes, causes, number_for, opening_number}
use Rattle.history.proofs.Opened.{opened_causes}

-- ---- the tables' numbers

pub numbered_causes : (calendar tables : List ℕ) (book : Book) (balances : List ℕ) (call : Call)
    → numbered (causes calendar tables book balances call) ≡ true
unfolding numbered opened_causes
numbered_causes calendar tables book balances (transfer a) = refl
numbered_causes calendar tables book balances (close a) = refl

-- a call is refused exactly when one of its causes applies
pub accepted_iff : (calendar tables : List ℕ) (book : Book) (balances : List ℕ) (call : Call)
    → (number_for calendar tables book balances call ≡ 0) ↔ NoneApplies (causes calendar tables book balances call)
unfolding number_for
accepted_iff calendar tables book balances call =
    accepted (causes calendar tables book balances call) (numbered_causes calendar tables book balances call)

none_of : (calendar tables : List ℕ) (book : Book) (balances : List ℕ) (call : Call)
    → number_for calendar tables book balances call ≡ 0 → NoneApplies (causes calendar tables book balances call)
none_of calendar tables book balances call e = (accepted_iff calendar tables book balances call).0 e

-- where none of the causes before 5 applies, numbers 1 to 4 do not
pub sound_book_call : (calendar tables : List ℕ) (day : ℕ) (balances : List ℕ) (call : Call)
    → NoneApplies (sound_causes calendar tables day balances call) → NoneApplies (book_causes calendar tables day balances)
unfolding sound_causes
sound_book_call calendar tables day balances (transfer a) n = lent_none calendar tables a.limits a.pieces day balances n
sound_book_call calendar tables day balances (close a) n = n

-- ---- the fields of an accepted transfer

pub record Fields (t : Transfer) : Type 0 where
  pub sender : t.sender < 16
  pub receiver : t.receiver < 16
  pub security : t.security < 16
  pub code : t.code ≤ 12
  pub par : t.par ≤ 100000000
  pub apart : t.sender ≡ t.receiver → ⊥

pub fields : (tables : List ℕ) (t : Transfer) → out_of_range tables t ≡ false → Fields t
unfolding out_of_range
fields tables t e =
    record {
      sender = leb-false 16 t.sender (search (or_false_left, or_false_right) depth 12);
      receiver = leb-false 16 t.receiver (search (or_false_left, or_false_right) depth 12);
      security = leb-false 16 t.security (search (or_false_left, or_false_right) depth 12);
      code = ltb-false 12 t.code (search (or_false_left, or_false_right) depth 12);
      par = ltb-false 100000000 t.par (search (or_false_left, or_false_right) depth 12);
      apart = eqb-false t.sender t.receiver (search (or_false_left, or_false_right) depth 12);
    }

-- the position that a change is posted to is one of the book
abbrev pub Within : Change → Type 0
Within unchanged = Unit {0}
Within (increase p) = InRange p
Within (decrease p) = InRange p

in_change : (t : Transfer) → Fields t → Within (change_of t)
unfolding change_of by_sender by_receiver
in_change t f = go (increasing (step_of t.code)) (decreasing (step_of t.code))
  where
    go : (x y : Bool) → Within (cond x (increase (by_sender t)) (cond y (decrease (by_receiver t)) unchanged))
    go true y = record { tracking = tracking_range t.code; security = f.security; lender = f.sender; borrower = f.receiver }
    go false true = record { tracking = tracking_range t.code; security = f.security; lender = f.receiver; borrower = f.sender }
    go false false = tt

-- ---- accepted calls

sound_before : (calendar tables : List ℕ) (book : Book) (balances : List ℕ) (call : Call)
    → NoneApplies (causes calendar tables book balances call) → SoundBook calendar tables book.day balances
unfolding causes
sound_before calendar tables book balances call k =
    sound_book calendar tables book.day balances
    (sound_book_call calendar tables book.day balances call
    (none_left (sound_causes calendar tables book.day balances call) (call_causes calendar tables book balances call) k))

pub record Taken (calendar tables : List ℕ) (book : Book) (balances : List ℕ) (a : TransferArguments) : Type 0 where
  pub sound : SoundBook calendar tables book.day balances
  pub whole : reads transfer_kind a.message ≡ true
  pub fields : Fields (transfer_of a.message)
  pub within : Within (change_of (transfer_of a.message))
  pub count : book.count < 4294967295
  pub enough : above_balance balances (change_of (transfer_of a.message)) (transfer_of a.message).par ≡ false
  pub fits : 35 * length (claims_of calendar tables book balances (transfer a)) ≤ length a.buffer

pub taken : (calendar tables : List ℕ) (book : Book) (balances : List ℕ) (a : TransferArguments)
    → number_for calendar tables book balances (transfer a) ≡ 0 → Taken calendar tables book balances a
unfolding opened_causes applies_at
taken calendar tables book balances a e =
    let cs = causes calendar tables book balances (transfer a) in
    let k = none_of calendar tables book balances (transfer a) e in
    let f = fields tables (transfer_of a.message) (cleared_by 6 cs k) in
    record {
      sound = sound_before calendar tables book balances (transfer a) k;
      whole = not-false _ (cleared_by 5 cs k);
      fields = f;
      within = in_change (transfer_of a.message) f;
      count = leb-false 4294967295 book.count (cleared_by 11 cs k);
      enough = cleared_by 7 cs k;
      fits = ltb-false _ _ (cleared_by 10 cs k);
    }

pub record Closed (calendar tables : List ℕ) (book : Book) (balances : List ℕ) (a : Arguments) : Type 0 where
  pub sound : SoundBook calendar tables book.day balances
  pub whole : reads close_kind a.message ≡ true
  pub follows : open_after calendar (open_after calendar book.day) ≡ 0 → ⊥
  pub fits : 35 * length (claims_of calendar tables book balances (close a)) ≤ length a.buffer

pub closed : (calendar tables : List ℕ) (book : Book) (balances : List ℕ) (a : Arguments)
    → number_for calendar tables book balances (close a) ≡ 0 → Closed calendar tables book balances a
unfolding opened_causes applies_at
closed calendar tables book balances a e =
    let cs = causes calendar tables book balances (close a) in
    let k = none_of calendar tables book balances (close a) e in
    record {
      sound = sound_before calendar tables book balances (close a) k;
      whole = not-false _ (cleared_by 5 cs k);
      follows = eqb-false _ 0 (cleared_by 9 cs k);
      fits = ltb-false _ _ (cleared_by 10 cs k);
    }

pub begun : (calendar tables balances : List ℕ) (day : ℕ) → opening_number calendar tables balances day ≡ 0 → SoundOpening calendar tables balances day
unfolding opening_number
begun calendar tables balances day e =
    sound_opening calendar tables balances day (none_applies (opening_causes calendar tables balances day) (numbered_opening calendar tables balances day) e)
