-- Working one record: what a call leaves does not depend on what its claim buffer held, and the answer goes behind the claims.
use mathlib.Core.Path.{◌≡◌, refl, sym, ap, ◌∙◌, subst}
use mathlib.Core.Bool.{Bool, true, false, cond}
use mathlib.Core.List.{List, [], ◌∷◌, ◌++◌, append_assoc}
use Prim.Native.Nat.{ℕ, zero, suc, min, ◌+◌, ◌-◌, ◌*◌, ◌≤◌, ◌<◌}
use native.Mathlib.Nat.{zero-add}
use native.Mathlib.Omega.{arith}
use lib.ListN.{length, take, drop, replicate, length-take, length-append, length-drop, length-replicate, take-append-drop}
use lib.Seq.{take_at, drop-append-le}
use Rattle.lists.specs.Tests.{cond_true, cond_false}
use Rattle.lists.specs.Numbers.{bytes_of}
use Rattle.lists.specs.Fields.{encode}
use Rattle.lists.specs.Put.{put, put_start, put_put, put_length}
use Rattle.std.proofs.Common.{Result as Judged}
use Rattle.records.specs.declared.Refusal.{Refusal}
use Rattle.records.specs.declared.Refusal.TheVariants as refusal
use Rattle.records.specs.Refusals.{refusal_number}
use Rattle.records.specs.MessageRecords.{close_kind, answer_kind, size, record_bytes, reads, Writing, writing, wrote_number}
use Rattle.records.proofs.Answers.{stored_record}
use Rattle.securities.specs.Lent.{ones}
use Rattle.claims.specs.Written.{bytes_of_all, written}
use Rattle.claims.proofs.Passes.{all_length}
use Rattle.claims.proofs.Written.{length_written}
use Rattle.book.specs.declared.Book.{Book}
use Rattle.book.specs.declared.Done.{Done}
use Rattle.history.specs.Calls.{Call, transfer, close, published_transfer, buffer_of, claims_of}
use Rattle.history.specs.Causes.{room_causes, call_causes, sound_causes, causes, number_for}
use Rattle.history.specs.Results.{Result, next_book, next_balances, result_with, result_for, left, result}
use Rattle.history.proofs.Accepted.{taken, closed}
use Rattle.stream.specs.Stream.{call_with, call_for, answer_bytes, emitted}
use Rattle.stream.specs.Serving.{Working, working}

-- ---- the answer

pub answer_length : (number : ℕ) → length (answer_bytes number) ≡ 6
unfolding answer_bytes record_bytes answer_kind encode bytes_of
answer_length number = refl

pub stored_answer : (l o : List ℕ) (at number : ℕ) (r : Judged Unit Refusal) → at + 6 ≤ length l
    → ◌≡◌ {A = Writing} (record { number = wrote_number r; buffer = o }) (writing answer_kind (number ∷ []) [] (take (length l - at) (drop at l)))
    → take at l ++ (o ++ drop (length l - at) (drop at l)) ≡ put l at (answer_bytes number)
unfolding answer_bytes size answer_kind
stored_answer l o at number r h e = stored_record answer_kind (number ∷ []) [] l o at r (answer_length number) h e

-- ---- a call with another claim buffer of the same length

unfoldable with_buffer : List ℕ → Call → Call
with_buffer buffer (transfer a) = transfer (record { message = a.message; buffer = buffer; limits = a.limits; pieces = a.pieces })
with_buffer buffer (close a) = close (record { message = a.message; buffer = buffer })

with_buffer_lem : (buffer message : List ℕ) → call_with buffer message ≡ with_buffer buffer (call_for message)
unfolding call_for call_with with_buffer
with_buffer_lem buffer message = go (reads close_kind message)
  where
    zeros : List ℕ
    zeros = replicate 65536 0

    go : (b : Bool)
        → cond b (close (record { message = message; buffer = buffer })) (published_transfer ones (record { message = message; buffer = buffer }))
        ≡ with_buffer buffer (cond b (close (record { message = message; buffer = zeros })) (published_transfer ones (record { message = message; buffer = zeros })))
    go true = refl
    go false = refl

module _ (calendar tables : List ℕ) (book : Book) (balances : List ℕ) where
  number_with : (buffer : List ℕ) (call : Call) → length buffer ≡ length (buffer_of call)
      → number_for calendar tables book balances (with_buffer buffer call) ≡ number_for calendar tables book balances call
  unfolding with_buffer number_for causes sound_causes call_causes room_causes buffer_of claims_of
  number_with buffer (transfer a) e = rw e refl
  number_with buffer (close a) e = rw e refl

  -- an accepted call's claims fit its buffer
  pub claims_fit : (call : Call) → number_for calendar tables book balances call ≡ 0
      → 35 * length (claims_of calendar tables book balances call) ≤ length (buffer_of call)
  unfolding buffer_of
  claims_fit (transfer a) e = (taken calendar tables book balances a e).fits
  claims_fit (close a) e = (closed calendar tables book balances a e).fits

  -- what an accepted call leaves with another claim buffer
  accepted_with : (buffer : List ℕ) (call : Call)
      → result_for 0 calendar tables book balances (with_buffer buffer call)
      ≡ record {
        answer = record {
          number = 0;
          book = next_book calendar book call;
          claims = length (claims_of calendar tables book balances call);
          buffer = written (claims_of calendar tables book balances call) buffer;
        };
        balances = next_balances balances call;
      }
  unfolding with_buffer result_with next_book next_balances claims_of buffer_of
  accepted_with buffer (transfer a) = refl
  accepted_with buffer (close a) = refl

-- ---- the output after a record

-- claims written to the first 64 KiB of an output are put there
claims_put : (xs l : List ℕ) (k : ℕ) → length xs ≡ k → k ≤ 65536 → 65536 ≤ length l
    → (xs ++ drop k (take 65536 l)) ++ drop 65536 l ≡ put l 0 xs
claims_put xs l k n h r =
    append_assoc xs (drop k (take 65536 l)) (drop 65536 l)
    ∙ ap (λ (x : List ℕ). xs ++ x)
    (sym (drop-append-le k (take 65536 l) (drop 65536 l) (simp (length-take) (omega arith)))
    ∙ ap (drop k) (take-append-drop 65536 l) ∙ ap (λ (j : ℕ). drop j l) (sym n))
    ∙ sym (put_start l xs)

-- the answer behind the claims
answer_put : (xs l : List ℕ) (k number : ℕ) → length xs ≡ k → k + 6 ≤ length l
    → put (put l 0 xs) k (answer_bytes number) ≡ put l 0 (xs ++ answer_bytes number)
answer_put xs l k number n h =
    ap (λ (j : ℕ). put (put l 0 xs) j (answer_bytes number)) (sym n ∙ sym (zero-add (length xs)))
    ∙ put_put l 0 xs (answer_bytes number) (omega (arith, n, answer_length number))

module _ (calendar tables : List ℕ) (book : Book) (balances message l : List ℕ) (room : 65542 ≤ length l) where
  call : Call
  call = call_for message

  abbrev part : List ℕ
  part = take 65536 l

  -- what working a record leaves, by its number
  working_for : ℕ → Working
  working_for n =
      let r = result_for n calendar tables book balances call in
      record {
        book = r.answer.book;
        balances = r.balances;
        written = length (emitted r.answer);
        output = put l 0 (emitted r.answer);
      }

  -- what a call leaves, with a claim buffer of a size
  pub record Leaves (size : ℕ) (d : Done) (o after : List ℕ) : Type 0 where
    -- where the answer begins and ends are words
    pub start : 35 * d.claims < 18446744073709551616
    pub end : 35 * d.claims + 6 < 18446744073709551616
    pub room_left : 35 * d.claims + 6 ≤ length (o ++ drop size l)
    pub sized : length (put (o ++ drop size l) (35 * d.claims) (answer_bytes d.number)) ≡ length l
    pub same : ◌≡◌ {A = Working}
        (record {
          book = d.book;
          balances = after;
          written = 35 * d.claims + 6;
          output = put (o ++ drop size l) (35 * d.claims) (answer_bytes d.number);
        }) (working calendar tables book balances message l)

  room_of_call : length part ≡ length (buffer_of call)
  unfolding call call_for call_with buffer_of
  room_of_call = length-take 65536 l ∙ size_of (reads close_kind message)
    where
      size_of : (b : Bool)
          → min 65536 (length l)
          ≡ length (buffer_of (cond b (close (record { message = message; buffer = replicate 65536 0 })) (published_transfer ones (record { message = message; buffer = replicate 65536 0 }))))
      size_of true = rw (length-replicate {A = ℕ} 65536 0) (omega arith)
      size_of false = rw (length-replicate {A = ℕ} 65536 0) (omega arith)

  whole_length : (o : List ℕ) → length o ≡ length part → length (o ++ drop 65536 l) ≡ length l
  whole_length o e = length-append o (drop 65536 l) ∙ omega (arith, e, length-take 65536 l, length-drop 65536 l)

  module _ (d : Done) (o after : List ℕ) where
    -- an accepted call
    module _ (z : number_for calendar tables book balances call ≡ 0)
        (e : left d o after ≡ result_for 0 calendar tables book balances (with_buffer part call)) where
      full : left d o after
          ≡ record {
            answer = record {
              number = 0;
              book = next_book calendar book call;
              claims = length (claims_of calendar tables book balances call);
              buffer = written (claims_of calendar tables book balances call) part;
            };
            balances = next_balances balances call;
          }
      full = e ∙ accepted_with calendar tables book balances part call

      count : d.claims ≡ length (claims_of calendar tables book balances call)
      unfolding left
      count = ap (λ (r : Result). r.answer.claims) full

      room_kept : 35 * d.claims ≤ 65536
      room_kept =
          let f = claims_fit calendar tables book balances call z in
          omega (arith, f, count, room_of_call, length-take 65536 l)

      buffer_kept : length o ≡ length part
      unfolding left
      buffer_kept =
          ap (λ (r : Result). length r.answer.buffer) full
          ∙ length_written (claims_of calendar tables book balances call) part (omega (arith, claims_fit calendar tables book balances call z, room_of_call))

      bytes : List ℕ
      bytes = bytes_of_all (claims_of calendar tables book balances call)

      bytes_length : length bytes ≡ 35 * d.claims
      unfolding bytes
      bytes_length = all_length (claims_of calendar tables book balances call) ∙ ap (λ (k : ℕ). 35 * k) (sym count)

      emits : emitted (result_for 0 calendar tables book balances call).answer ≡ bytes ++ answer_bytes 0
      unfolding emitted result_with written bytes
      emits =
          let cs = claims_of calendar tables book balances call in
          ap (λ (x : List ℕ). x ++ answer_bytes 0) (take_at (bytes_of_all cs) (drop (35 * length cs) (buffer_of call)) (35 * length cs) (all_length cs))

      output_is : put (o ++ drop 65536 l) (35 * d.claims) (answer_bytes d.number) ≡ put l 0 (emitted (result_for 0 calendar tables book balances call).answer)
      unfolding left written bytes
      output_is =
          let cs = claims_of calendar tables book balances call in
          let at : o ≡ bytes ++ drop (35 * d.claims) part =
          ap (λ (r : Result). r.answer.buffer) full ∙ ap (λ (k : ℕ). bytes_of_all cs ++ drop (35 * k) part) (sym count) in
          let n : d.number ≡ 0 = ap (λ (r : Result). r.answer.number) full in
          rw (n, at, claims_put bytes l (35 * d.claims) bytes_length room_kept (omega arith))
          (answer_put bytes l (35 * d.claims) 0 bytes_length (omega (arith, room_kept)) ∙ ap (put l 0) (sym emits))

      written_is : 35 * d.claims + 6 ≡ length (emitted (result_for 0 calendar tables book balances call).answer)
      written_is =
          sym (ap length emits ∙ length-append bytes (answer_bytes 0) ∙ rw (bytes_length, answer_length 0) refl)

      accepted_leaves : ◌≡◌ {A = Working}
          (record {
            book = d.book;
            balances = after;
            written = 35 * d.claims + 6;
            output = put (o ++ drop 65536 l) (35 * d.claims) (answer_bytes d.number);
          }) (working_for 0)
      unfolding working_for left result_with
      accepted_leaves =
          λ i. record {
            book = (full i).answer.book;
            balances = (full i).balances;
            written = written_is i;
            output = output_is i;
          }

    -- a refused call
    refused_leaves : (n : ℕ) → left d o after ≡ result_for (suc n) calendar tables book balances (with_buffer part call)
        → (35 * d.claims ≤ 65536)
        × ◌≡◌ {A = Working}
        (record {
          book = d.book;
          balances = after;
          written = 35 * d.claims + 6;
          output = put (o ++ drop 65536 l) (35 * d.claims) (answer_bytes d.number);
        }) (working_for (suc n))
        × (o ≡ part)
    unfolding left result_with working_for emitted with_buffer buffer_of
    refused_leaves n e =
        let zero_claims : d.claims ≡ 0 = ap (λ (r : Result). r.answer.claims) e in
        let at : o ≡ part = ap (λ (r : Result). r.answer.buffer) e ∙ own call in
        let number : d.number ≡ suc n = ap (λ (r : Result). r.answer.number) e in (
          omega (arith, zero_claims),
          (λ i. record { book = (e i).answer.book; balances = (e i).balances; written = size_is zero_claims i; output = output_is zero_claims at number i }),
          at,
        )
      where
        own : (c : Call) → buffer_of (with_buffer part c) ≡ part
        own (transfer a) = refl
        own (close a) = refl

        size_is : d.claims ≡ 0 → 35 * d.claims + 6 ≡ length (answer_bytes (suc n))
        size_is z = rw z (sym (answer_length (suc n)))

        output_is : d.claims ≡ 0 → o ≡ part → d.number ≡ suc n
            → put (o ++ drop 65536 l) (35 * d.claims) (answer_bytes d.number) ≡ put l 0 (answer_bytes (suc n))
        output_is z at number = rw (z, at, number, take-append-drop 65536 l) refl

    -- what follows of the answer's place
    placed : 35 * d.claims ≤ 65536 → length (o ++ drop 65536 l) ≡ length l
        → ◌≡◌ {A = Working}
        (record {
          book = d.book;
          balances = after;
          written = 35 * d.claims + 6;
          output = put (o ++ drop 65536 l) (35 * d.claims) (answer_bytes d.number);
        }) (working calendar tables book balances message l)
        → Leaves 65536 d o after
    placed f n e =
        record {
          start = omega (arith, f);
          end = omega (arith, f);
          room_left = omega (arith, f, n, room);
          sized = put_length _ _ _ (omega (arith, f, n, room, answer_length d.number)) ∙ n;
          same = e;
        }

    -- any call
    call_leaves : left d o after ≡ result calendar tables book balances (call_with part message) → Leaves 65536 d o after
    unfolding result working working_for call
    call_leaves e = go (number_for calendar tables book balances call) refl
        (subst (λ (c : Call). left d o after ≡ result_for (number_for calendar tables book balances c) calendar tables book balances c) (with_buffer_lem part message) e)
      where
        go : (n : ℕ) → number_for calendar tables book balances call ≡ n
            → left d o after ≡ result_for (number_for calendar tables book balances (with_buffer part call)) calendar tables book balances (with_buffer part call)
            → Leaves 65536 d o after
        go zero z e =
            let f : left d o after ≡ result_for 0 calendar tables book balances (with_buffer part call) =
            e ∙ ap (λ (n : ℕ). result_for n calendar tables book balances (with_buffer part call)) (number_with calendar tables book balances part call room_of_call ∙ z) in
            placed (room_kept z f) (whole_length o (buffer_kept z f)) (accepted_leaves z f ∙ ap working_for (sym z))
        go (suc n) z e =
            let f : left d o after ≡ result_for (suc n) calendar tables book balances (with_buffer part call) =
            e ∙ ap (λ (n : ℕ). result_for n calendar tables book balances (with_buffer part call)) (number_with calendar tables book balances part call room_of_call ∙ z) in
            let k = refused_leaves n f in
            placed k.0 (whole_length o (ap length k.2)) (k.1 ∙ ap working_for (sym z))

    -- a size that is 64 KiB
    pub leaves : (size : ℕ) → size ≡ 65536 → left d o after ≡ result calendar tables book balances (call_with (take size l) message)
        → Leaves size d o after
    leaves size k =
        subst (λ (n : ℕ). left d o after ≡ result calendar tables book balances (call_with (take n l) message) → Leaves n d o after) (sym k) call_leaves

-- ---- the call that a record asks for

module _ (calendar tables : List ℕ) (book : Book) (balances buffer message : List ℕ) where
  pub calls_close : reads close_kind message ≡ true
      → result calendar tables book balances (close (record { message = message; buffer = buffer }))
      ≡ result calendar tables book balances (call_with buffer message)
  unfolding call_with
  calls_close e = ap (result calendar tables book balances) (sym (cond_true _ _ e))

  pub calls_transfer : reads close_kind message ≡ false
      → result calendar tables book balances (published_transfer ones (record { message = message; buffer = buffer }))
      ≡ result calendar tables book balances (call_with buffer message)
  unfolding call_with
  calls_transfer e = ap (result calendar tables book balances) (sym (cond_false _ _ e))

-- the answer to what is no record
pub message_number : refusal_number refusal.Message ≡ 5
unfolding refusal_number
message_number = refl
