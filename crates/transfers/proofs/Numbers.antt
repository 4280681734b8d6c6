-- The numbers of a transfer on a sound book, each by the facts that code has there.
use mathlib.Core.Path.{◌≡◌, refl, ap, ap₂, ◌∙◌}
use mathlib.Core.Bool.{true, false, not, ◌||◌}
use mathlib.Core.List.{List, [], ◌++◌}
use Prim.Native.Nat.{ℕ, ◌+◌, ◌*◌, ◌≤◌, ◌<◌}
use native.Mathlib.Omega.{arith}
use lib.Dec.{leb}
use lib.ListN.{length}
use borrow.Author.Tests.{leb-false, le-leb, lt-leb, lt-ltb, le-ltb}
use Rattle.lists.specs.Tests.{or_false_right}
use Rattle.lists.specs.First.{NoneApplies, first_of, numbered, applies_at, none_applies, cleared_by, none_left, none_right, hit, skip, none}
use Rattle.lists.proofs.First.{hit_group, skip_group}
use Rattle.records.specs.declared.Transfer.{Transfer}
use Rattle.records.specs.MessageRecords.{transfer_kind, transfer_of, first_line, second_line, reads}
use Rattle.tags.specs.declared.Tag.{Tag}
use Rattle.tags.specs.ContractDateTag.{tag_of, on_day, edit_causes}
use Rattle.tags.proofs.Causes.{edits_numbered}
use Rattle.claims.specs.Fails.{message_tag, contract_tag, transfer_claims}
use Rattle.book.specs.declared.Book.{Book}
use Rattle.book.specs.Loans.{loan_causes, posting_causes}
use Rattle.book.proofs.Posted.{posting_clear}
use Rattle.history.specs.Calls.{TransferArguments, transfer, claims_of}
use Rattle.history.proofs.Accepted.{Fields, fields}
use Rattle.history.specs.Causes.{record_causes, field_causes, out_of_range, count_causes, transfer_causes, room_causes, call_causes}

-- a security of the book
pub inside : (t : Transfer) → (leb 16 t.sender || leb 16 t.receiver || leb 16 t.security) ≡ false → t.security < 16
inside t e = leb-false 16 t.security (or_false_right (leb 16 t.sender || leb 16 t.receiver) (leb 16 t.security) e)

-- ---- the causes of a transfer that reads, before room is asked for

module _ (tables pieces : List ℕ) (book : Book) (balances : List ℕ) (t : Transfer) (tag : Tag) where
  pub out_number : out_of_range tables t ≡ true → 6 ≡ first_of (transfer_causes tables pieces book balances t tag)
  unfolding transfer_causes field_causes
  out_number o = hit 6 _ o

  module _ (o : out_of_range tables t ≡ false) where
    pub edit_number : (n : ℕ) → n ≡ first_of (edit_causes tag t.class book.day) → (n ≡ 0 → ⊥) → n ≡ first_of (transfer_causes tables pieces book balances t tag)
    unfolding transfer_causes field_causes
    edit_number n e d = skip 6 _ o (hit_group (edit_causes tag t.class book.day) _ e d)

    module _ (n : ℕ) (e : n ≡ first_of (edit_causes tag t.class book.day)) (z : n ≡ 0) where
      pub count_number : 4294967295 ≤ book.count → 11 ≡ first_of (transfer_causes tables pieces book balances t tag)
      unfolding transfer_causes field_causes count_causes
      count_number h =
          skip 6 _ o (skip_group (edit_causes tag t.class book.day) _ (edits_numbered tag t.class book.day) e z (hit 11 _ (le-leb 4294967295 book.count h)))

      pub posting_decides : (k : ℕ) → book.count < 4294967295 → k ≡ first_of (posting_causes pieces book.day balances t) → k ≡ first_of (transfer_causes tables pieces book balances t tag)
      unfolding transfer_causes field_causes count_causes
      posting_decides k h q =
          skip 6 _ o (skip_group (edit_causes tag t.class book.day) _ (edits_numbered tag t.class book.day) e z (skip 11 _ (lt-leb 4294967295 book.count h) q))

  pub numbered_transfer : numbered (transfer_causes tables pieces book balances t tag) ≡ true
  unfolding numbered transfer_causes field_causes edit_causes count_causes posting_causes loan_causes
  numbered_transfer = refl

  -- what holds where none of them applies
  pub record Passed : Type 0 where
    pub fields : Fields t
    pub count : book.count < 4294967295
    pub loan : first_of (loan_causes balances t) ≡ 0

  pub passed : first_of (transfer_causes tables pieces book balances t tag) ≡ 0 → Passed
  unfolding transfer_causes field_causes count_causes applies_at
  passed z =
      let cs = transfer_causes tables pieces book balances t tag in
      let n = none_applies cs numbered_transfer z in
      record {
        fields = fields tables t (cleared_by 6 cs n);
        count = leb-false 4294967295 book.count (counted n);
        loan = posting_clear pieces balances t book.day
            (none_right (count_causes book.count) (posting_causes pieces book.day balances t)
            (none_right (edit_causes tag t.class book.day) (count_causes book.count ++ posting_causes pieces book.day balances t)
            (none_right (field_causes tables t) (edit_causes tag t.class book.day ++ (count_causes book.count ++ posting_causes pieces book.day balances t)) n)));
      }
    where
      counted : NoneApplies (transfer_causes tables pieces book balances t tag) → leb 4294967295 book.count ≡ false
      counted n =
          (none_left (count_causes book.count) (posting_causes pieces book.day balances t)
          (none_right (edit_causes tag t.class book.day) (count_causes book.count ++ posting_causes pieces book.day balances t)
          (none_right (field_causes tables t) (edit_causes tag t.class book.day ++ (count_causes book.count ++ posting_causes pieces book.day balances t)) n))).0

-- ---- the causes of a transfer on a sound book

module _ (calendar tables : List ℕ) (book : Book) (balances : List ℕ) (a : TransferArguments) where
  pub transfer_cut : reads transfer_kind a.message ≡ false → 5 ≡ first_of (call_causes calendar tables book balances (transfer a))
  unfolding call_causes record_causes
  transfer_cut r = hit 5 _ (ap not r)

  module _ (r : reads transfer_kind a.message ≡ true) (n : ℕ)
      (e : n ≡ first_of (transfer_causes tables a.pieces book balances (transfer_of a.message) (contract_tag book.day a.message))) where
    pub transfer_refused : (n ≡ 0 → ⊥) → n ≡ first_of (call_causes calendar tables book balances (transfer a))
    unfolding call_causes record_causes
    transfer_refused d = skip 5 _ (ap not r) (hit_group (transfer_causes tables a.pieces book balances (transfer_of a.message) (contract_tag book.day a.message)) _ e d)

    module _ (z : n ≡ 0) where
      pub transfer_room : length a.buffer < 35 * length (transfer_claims calendar tables a.limits book.day (book.count + 1) (transfer_of a.message) (contract_tag book.day a.message))
          → 10 ≡ first_of (call_causes calendar tables book balances (transfer a))
      unfolding call_causes record_causes room_causes claims_of
      transfer_room h =
          skip 5 _ (ap not r)
          (skip_group (transfer_causes tables a.pieces book balances (transfer_of a.message) (contract_tag book.day a.message)) _ (numbered_transfer tables a.pieces book balances _ _) e z
          (hit 10 [] (lt-ltb _ _ h)))

      pub transfer_accepted : 35 * length (transfer_claims calendar tables a.limits book.day (book.count + 1) (transfer_of a.message) (contract_tag book.day a.message)) ≤ length a.buffer
          → 0 ≡ first_of (call_causes calendar tables book balances (transfer a))
      unfolding call_causes record_causes room_causes claims_of
      transfer_accepted h =
          skip 5 _ (ap not r)
          (skip_group (transfer_causes tables a.pieces book balances (transfer_of a.message) (contract_tag book.day a.message)) _ (numbered_transfer tables a.pieces book balances _ _) e z
          (skip 10 [] (le-ltb _ _ h) none))

-- ---- the same, said of the fields and the tag that code has read

module _ (calendar tables : List ℕ) (book : Book) (balances : List ℕ) (a : TransferArguments) (r : reads transfer_kind a.message ≡ true)
    (t : Transfer) (tag : Tag) (p : t ≡ transfer_of a.message) (q : tag ≡ contract_tag book.day a.message)
    (n : ℕ) (e : n ≡ first_of (transfer_causes tables a.pieces book balances t tag)) where
  same_causes : n ≡ first_of (transfer_causes tables a.pieces book balances (transfer_of a.message) (contract_tag book.day a.message))
  same_causes = e ∙ ap₂ (λ (x : Transfer) (y : Tag). first_of (transfer_causes tables a.pieces book balances x y)) p q

  pub same_claims : transfer_claims calendar tables a.limits book.day (book.count + 1) t tag
      ≡ transfer_claims calendar tables a.limits book.day (book.count + 1) (transfer_of a.message) (contract_tag book.day a.message)
  same_claims = ap₂ (transfer_claims calendar tables a.limits book.day (book.count + 1)) p q

  pub read_refused : (n ≡ 0 → ⊥) → n ≡ first_of (call_causes calendar tables book balances (transfer a))
  read_refused d = transfer_refused calendar tables book balances a r n same_causes d

  module _ (z : n ≡ 0) where
    pub read_room : length a.buffer < 35 * length (transfer_claims calendar tables a.limits book.day (book.count + 1) t tag)
        → 10 ≡ first_of (call_causes calendar tables book balances (transfer a))
    read_room h = transfer_room calendar tables book balances a r n same_causes z (omega (arith, ap length same_claims))

    pub read_accepted : 35 * length (transfer_claims calendar tables a.limits book.day (book.count + 1) t tag) ≤ length a.buffer
        → 0 ≡ first_of (call_causes calendar tables book balances (transfer a))
    read_accepted h = transfer_accepted calendar tables book balances a r n same_causes z (omega (arith, ap length same_claims))

-- the tag of a message by its two lines, on a day
pub tag_read : (day : ℕ) (m : List ℕ) {tag : Tag} {first second : List ℕ} → tag ≡ on_day day (tag_of first second) → first ≡ first_line m → second ≡ second_line m
    → tag ≡ contract_tag day m
unfolding contract_tag message_tag
tag_read day m e f s = e ∙ ap (on_day day) (ap₂ tag_of f s)
