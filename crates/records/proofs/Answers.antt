-- What a caller learns from an answer: a record that was found reads and has the fields of the bytes, a refusal says that it does not read,
-- and a writer's answer says what the buffer holds.
use mathlib.Core.Path.{◌≡◌, refl, sym, ap, ◌∙◌}
use mathlib.Core.Bool.{Bool, true, false, cond}
use mathlib.Core.List.{List, [], ◌++◌, append-nil}
use Prim.Native.Nat.{ℕ, ◌+◌, ◌-◌, ◌≤◌, ◌<◌}
use native.Mathlib.Omega.{arith}
use lib.ListN.{length, take, drop, length-drop, drop_of_length-le}
use lib.Seq.{take_all, drop-drop}
use borrow.Author.Tests.{le-leb, lt-leb}
use Rattle.lists.specs.Tests.{cond_true, cond_false}
use Rattle.lists.specs.Fields.{decode}
use Rattle.lists.specs.Put.{put}
use Rattle.records.specs.declared.Transfer.{Transfer}
use Rattle.records.specs.declared.Claim.{Claim}
use Rattle.records.specs.declared.Answer.{Answer}
use Rattle.std.proofs.Common.{Option, Some, None, Result, Ok, Err}
use Rattle.records.specs.declared.Refusal.{Refusal}
use Rattle.records.specs.declared.Refusal.TheVariants as refusal
use Rattle.records.specs.Refusals.{judged_number}
use Rattle.records.proofs.Refusals.{one_number, refused_number, room_number}
use Rattle.records.specs.MessageRecords.{Kind, transfer_kind, close_kind, claim_kind, answer_kind, size, record_bytes}
use Rattle.records.specs.MessageRecords.{transfer_of, claim_of, answer_of}
use Rattle.records.specs.MessageRecords.{reads, Reading, reading, transfer_answer, close_answer, claim_answer, answer_answer}
use Rattle.records.specs.MessageRecords.{Writing, writing, wrote_number}
use Rattle.records.proofs.RecordKinds.{transfer_same, claim_same, answer_same}
use Rattle.records.proofs.Readings.{transfer_long, claim_long, answer_long, transfer_decoded, claim_decoded, answer_decoded}

-- ---- any kind

abbrev number : Reading → ℕ
number r = r.number

abbrev values : Reading → List ℕ
values r = r.values

-- the bytes s begin with a record of the kind, n bytes long, and x is what stands in it
pub record Found {A : Type 0} (k : Kind) (n : ℕ) (of : List ℕ → A) (s : List ℕ) (x : A) : Type 0 where
  pub whole : reads k s ≡ true
  pub long : n ≤ length s
  pub same : x ≡ of s

module _ (k : Kind) (s : List ℕ) where
  found : (r : Reading) → number r ≡ 0 → r ≡ reading k s → (reads k s ≡ true) × (values r ≡ decode k.widths 4 s)
  unfolding reading
  found r z e = go (reads k s) refl e
    where
      go : (b : Bool) → reads k s ≡ b
          → r ≡ cond b (record { number = 0; values = decode k.widths 4 s }) (record { number = 5; values = [] })
          → (reads k s ≡ true) × (values r ≡ decode k.widths 4 s)
      go true q e = (q, ap values e)
      go false q e = absurd (omega (arith, ap number e))

  refused : (r : Reading) → number r ≡ 5 → r ≡ reading k s → reads k s ≡ false
  unfolding reading
  refused r z e = go (reads k s) refl e
    where
      go : (b : Bool) → reads k s ≡ b
          → r ≡ cond b (record { number = 0; values = decode k.widths 4 s }) (record { number = 5; values = [] })
          → reads k s ≡ false
      go true q e = absurd (omega (arith, ap number e))
      go false q e = q

-- ---- the four kinds

module _ (s : List ℕ) where
  pub transfer_is : {r : Option Transfer} {t : Transfer} → transfer_answer r ≡ reading transfer_kind s → r ≡ Some t
      → Found transfer_kind 141 transfer_of s t
  unfolding transfer_answer
  transfer_is {r} {t} e q =
      let f = found transfer_kind s (transfer_answer (Some t)) refl (sym (ap transfer_answer q) ∙ e) in
      record {
        whole = f.0;
        long = transfer_long s f.0;
        same = transfer_same t (transfer_of s) (f.1 ∙ sym (transfer_decoded s));
      }

  pub transfer_not : {r : Option Transfer} → transfer_answer r ≡ reading transfer_kind s → r ≡ None → reads transfer_kind s ≡ false
  unfolding transfer_answer
  transfer_not {r} e q = refused transfer_kind s (transfer_answer None) refl (sym (ap transfer_answer q) ∙ e)

  pub close_is : {r : Bool} → close_answer r ≡ reading close_kind s → r ≡ true → reads close_kind s ≡ true
  unfolding close_answer
  close_is {r} e q = (found close_kind s (close_answer true) refl (sym (ap close_answer q) ∙ e)).0

  pub close_not : {r : Bool} → close_answer r ≡ reading close_kind s → r ≡ false → reads close_kind s ≡ false
  unfolding close_answer
  close_not {r} e q = refused close_kind s (close_answer false) refl (sym (ap close_answer q) ∙ e)

  pub claim_is : {r : Option Claim} {c : Claim} → claim_answer r ≡ reading claim_kind s → r ≡ Some c → Found claim_kind 35 claim_of s c
  unfolding claim_answer
  claim_is {r} {c} e q =
      let f = found claim_kind s (claim_answer (Some c)) refl (sym (ap claim_answer q) ∙ e) in
      record {
        whole = f.0;
        long = claim_long s f.0;
        same = claim_same c (claim_of s) (f.1 ∙ sym (claim_decoded s));
      }

  pub claim_not : {r : Option Claim} → claim_answer r ≡ reading claim_kind s → r ≡ None → reads claim_kind s ≡ false
  unfolding claim_answer
  claim_not {r} e q = refused claim_kind s (claim_answer None) refl (sym (ap claim_answer q) ∙ e)

  pub answer_is : {r : Option Answer} {a : Answer} → answer_answer r ≡ reading answer_kind s → r ≡ Some a → Found answer_kind 6 answer_of s a
  unfolding answer_answer
  answer_is {r} {a} e q =
      let f = found answer_kind s (answer_answer (Some a)) refl (sym (ap answer_answer q) ∙ e) in
      record {
        whole = f.0;
        long = answer_long s f.0;
        same = answer_same a (answer_of s) (f.1 ∙ sym (answer_decoded s));
      }

  pub answer_not : {r : Option Answer} → answer_answer r ≡ reading answer_kind s → r ≡ None → reads answer_kind s ≡ false
  unfolding answer_answer
  answer_not {r} e q = refused answer_kind s (answer_answer None) refl (sym (ap answer_answer q) ∙ e)

-- ---- writers of any kind

module _ (k : Kind) (vs text l : List ℕ) where
  pub wrote_whole : {r : Result Unit Refusal} {o : List ℕ} → ◌≡◌ {A = Writing} (record { number = wrote_number r; buffer = o }) (writing k vs text l)
      → size k ≤ length l → (r ≡ Ok tt) × (o ≡ record_bytes k vs text ++ drop (size k) l)
  unfolding writing judged_number
  wrote_whole {r} {o} e h = go r (e ∙ cond_true _ _ (le-leb (size k) (length l) h))
    where
      go : (r : Result Unit Refusal)
          → ◌≡◌ {A = Writing} (record { number = wrote_number r; buffer = o })
          (record { number = 0; buffer = record_bytes k vs text ++ drop (size k) l })
          → (r ≡ Ok tt) × (o ≡ record_bytes k vs text ++ drop (size k) l)
      go (Ok tt) e = (refl, ap (λ (w : Writing). w.buffer) e)
      go (Err f) e = absurd (refused_number f (ap (λ (w : Writing). w.number) e))

  pub wrote_short : {r : Result Unit Refusal} {o : List ℕ} → ◌≡◌ {A = Writing} (record { number = wrote_number r; buffer = o }) (writing k vs text l)
      → length l < size k → (r ≡ Err refusal.Room) × (o ≡ l)
  unfolding writing judged_number
  wrote_short {r} {o} e h = go r (e ∙ cond_false _ _ (lt-leb (size k) (length l) h))
    where
      go : (r : Result Unit Refusal) → ◌≡◌ {A = Writing} (record { number = wrote_number r; buffer = o }) (record { number = 10; buffer = l })
          → (r ≡ Err refusal.Room) × (o ≡ l)
      go (Ok _) e = absurd (omega (arith, ap (λ (w : Writing). w.number) e))
      go (Err f) e = (ap Err (one_number (ap (λ (w : Writing). w.number) e ∙ sym room_number)), ap (λ (w : Writing). w.buffer) e)

-- ---- a record written to the part of a buffer from a place on is put there

pub stored_record : (k : Kind) (vs text l o : List ℕ) (at : ℕ) (r : Result Unit Refusal) → length (record_bytes k vs text) ≡ size k → at + size k ≤ length l
    → ◌≡◌ {A = Writing} (record { number = wrote_number r; buffer = o }) (writing k vs text (take (length l - at) (drop at l)))
    → take at l ++ (o ++ drop (length l - at) (drop at l)) ≡ put l at (record_bytes k vs text)
unfolding put
stored_record k vs text l o at r n h e =
    let whole : take (length l - at) (drop at l) ≡ drop at l = take_all (length l - at) (drop at l) (omega (arith, length-drop at l)) in
    let none : drop (length l - at) (drop at l) ≡ [] = drop_of_length-le (drop at l) {i = length l - at} (omega (arith, length-drop at l)) in
    let bytes : o ≡ record_bytes k vs text ++ drop (at + size k) l =
    (wrote_whole k vs text (drop at l) {r = r} (rw whole at e) (omega (arith, length-drop at l))).1
    ∙ ap (λ (x : List ℕ). record_bytes k vs text ++ x) (drop-drop (size k) at l) in
    rw (none, append-nil o, bytes, n)
