-- What a run keeps from record to record: the bytes worked and written so far, a sound book, and what is left of its definition.
use mathlib.Core.Path.{◌≡◌, refl, sym, ap, ap₂, ◌∙◌}
use mathlib.Core.Bool.{Bool, true, false, cond}
use mathlib.Core.List.{List, [], ◌++◌, append_assoc, append-nil}
use Prim.Native.Nat.{ℕ, zero, suc, ◌+◌, ◌-◌, ◌*◌, ◌≤◌, ◌<◌}
use native.Mathlib.Nat.{zero-add, add-zero, add_assoc, sub-zero}
use native.Mathlib.Omega.{arith}
use lib.Dec.{ltb}
use lib.ListN.{length, take, drop, replicate, length-take, length-append, length-drop, length-replicate, drop_of_length-le}
use lib.Seq.{take_all, drop-drop}
use borrow.Author.Tests.{lt-ltb, le-ltb}
use Rattle.lists.specs.Tests.{cond_true, cond_false}
use Rattle.lists.specs.First.{first_of}
use Rattle.lists.specs.Put.{put, put_none, put_put, put_length}
use Rattle.records.specs.MessageRecords.{close_kind, reads}
use Rattle.securities.specs.Lent.{ones}
use Rattle.claims.specs.Written.{written}
use Rattle.book.specs.declared.Book.{Book}
use Rattle.book.specs.Soundness.{book_causes}
use Rattle.book.proofs.Judged.{sound_number}
use Rattle.history.specs.Calls.{close, published_transfer, buffer_of, claims_of}
use Rattle.history.specs.Causes.{number_for}
use Rattle.history.specs.Results.{Result, result_with, result_for, result}
use Rattle.history.proofs.StaysSound.{result_sound}
use Rattle.stream.specs.declared.Next.{Next}
use Rattle.stream.specs.declared.Next.TheVariants.{Waiting, Wrong, Record}
use Rattle.stream.specs.declared.Served.{Served}
use Rattle.stream.specs.declared.Worked.{Worked}
use Rattle.stream.specs.Stream.{next, on_next, call_with, call_for, answer_bytes, emitted}
use Rattle.stream.specs.Serving.{Serving, stopped, ended_by_five, after, serve_up_to, serving, is_full, Working, working, worked, leaves_for, left_served, leaves}
use Rattle.stream.proofs.Headers.{case_of, next_empty, next_size}
use Rattle.stream.proofs.Records.{answer_length, claims_fit}

-- ---- the bytes of a record

module _ (calendar tables : List ℕ) (book : Book) (balances message : List ℕ) where
  buffer_size : length (buffer_of (call_for message)) ≡ 65536
  unfolding call_for call_with buffer_of
  buffer_size = go (reads close_kind message)
    where
      go : (b : Bool)
          → length (buffer_of (cond b (close (record { message = message; buffer = replicate 65536 0 })) (published_transfer ones (record { message = message; buffer = replicate 65536 0 }))))
          ≡ 65536
      go true = length-replicate {A = ℕ} 65536 0
      go false = length-replicate {A = ℕ} 65536 0

  pub emitted_small : length (emitted (result calendar tables book balances (call_for message)).answer) ≤ 65542
  unfolding result result_with emitted
  emitted_small = go (number_for calendar tables book balances (call_for message)) refl
    where
      small : (xs : List ℕ) (k n : ℕ) → 35 * k ≤ 65536 → length (take (35 * k) xs ++ answer_bytes n) ≤ 65542
      small xs k n h = omega (arith, length-append (take (35 * k) xs) (answer_bytes n), length-take (35 * k) xs, answer_length n, h)

      go : (n : ℕ) → number_for calendar tables book balances (call_for message) ≡ n
          → length (emitted (result_for n calendar tables book balances (call_for message)).answer) ≤ 65542
      go zero z =
          small (written (claims_of calendar tables book balances (call_for message)) (buffer_of (call_for message)))
          (length (claims_of calendar tables book balances (call_for message))) 0
          (omega (arith, claims_fit calendar tables book balances (call_for message) z, buffer_size))
      go (suc n) z = small (buffer_of (call_for message)) 0 (suc n) (omega arith)

-- a whole record is worked where there is room
pub record_served : (n : ℕ) (calendar tables : List ℕ) (ended : Bool) (book : Book) (balances input : List ℕ) (room k : ℕ)
    → 65542 ≤ room → Record k ≡ next ended input
    → serve_up_to (suc n) calendar tables ended book balances input room
    ≡ after k (emitted (result calendar tables book balances (call_for (take k input))).answer)
    (serve_up_to n calendar tables ended (result calendar tables book balances (call_for (take k input))).answer.book
    (result calendar tables book balances (call_for (take k input))).balances (drop k input)
    (room - length (emitted (result calendar tables book balances (call_for (take k input))).answer)))
unfolding serve_up_to on_next
record_served n calendar tables ended book balances input room k h e =
    cond_false _ _ (le-ltb room 65542 h) ∙ turn _ _ _
  where
    turn : (x y : Serving) (f : ℕ → Serving) → on_next (next ended input) x y f ≡ f k
    turn x y f = ap (λ (k : Next). on_next k x y f) (sym e)

-- what is no record gets its 5 where there is room
pub wrong_served : (n : ℕ) (calendar tables : List ℕ) (ended : Bool) (book : Book) (balances input : List ℕ) (room : ℕ)
    → 65542 ≤ room → Wrong ≡ next ended input → serve_up_to (suc n) calendar tables ended book balances input room ≡ ended_by_five book balances
unfolding serve_up_to on_next
wrong_served n calendar tables ended book balances input room h e = cond_false _ _ (le-ltb room 65542 h) ∙ turn _ _ _
  where
    turn : (x y : Serving) (f : ℕ → Serving) → on_next (next ended input) x y f ≡ y
    turn x y f = ap (λ (k : Next). on_next k x y f) (sym e)

-- one run behind another
after_after : (a b : ℕ) (xs ys : List ℕ) (s : Serving) → after a xs (after b ys s) ≡ after (a + b) (xs ++ ys) s
unfolding after
after_after a b xs ys s =
    λ i. record {
      book = s.book;
      balances = s.balances;
      consumed = sym (add_assoc a b s.consumed) i;
      bytes = sym (append_assoc xs ys s.bytes) i;
      over = s.over;
    }

-- ---- a run

module _ (calendar tables : List ℕ) (ended : Bool) (book₀ : Book) (balances₀ input output₀ : List ℕ) where
  pub record Going (balances output : List ℕ) (book : Book) (at out : ℕ) : Type 0 where
    pub fuel : ℕ
    pub enough : length input - at ≤ fuel
    pub inside : at ≤ length input
    pub bytes : List ℕ
    pub sized : length bytes ≡ out
    pub room : out ≤ length output₀
    pub kept : length output ≡ length output₀
    pub stored : output ≡ put output₀ 0 bytes
    pub sound : first_of (book_causes calendar tables book.day balances) ≡ 0
    pub rest : serving calendar tables ended book₀ balances₀ input (length output₀)
        ≡ after at bytes (serve_up_to fuel calendar tables ended book balances (drop at input) (length output₀ - out))

  pub going_start : first_of (book_causes calendar tables book₀.day balances₀) ≡ 0 → Going balances₀ output₀ book₀ 0 0
  unfolding serving after
  going_start z =
      record {
        fuel = length input;
        enough = omega arith;
        inside = omega arith;
        bytes = [];
        sized = refl;
        room = omega arith;
        kept = refl;
        stored = sym (put_none output₀ 0);
        sound = z;
        rest = rw (sub-zero, zero-add);
      }

  -- ---- the end of a run

  ends : {balances output : List ℕ} (at : ℕ) (bytes : List ℕ) (s : Serving) (r : Served)
      → serving calendar tables ended book₀ balances₀ input (length output₀) ≡ after at bytes s
      → r.number ≡ 0 → r.book ≡ s.book → r.consumed ≡ at + s.consumed → r.written ≡ length (bytes ++ s.bytes) → r.over ≡ s.over
      → r.full ≡ is_full (length output₀) (length (bytes ++ s.bytes)) → balances ≡ s.balances → output ≡ put output₀ 0 (bytes ++ s.bytes)
      → left_served r balances output
      ≡ leaves_for 0 book₀ balances₀ output₀ (serving calendar tables ended book₀ balances₀ input (length output₀))
  unfolding left_served leaves_for after
  ends at bytes s r e n b c w o f l p =
      (λ i. record { number = n i; book = b i; consumed = c i; written = w i; over = o i; full = f i; balances = l i; output = p i })
      ∙ ap (leaves_for 0 book₀ balances₀ output₀) (sym e)

  module _ {balances output : List ℕ} {book : Book} {at out : ℕ} (g : Going balances output book at out) where
    -- the balances keep their length
    pub going_words : first_of (book_causes calendar tables book₀.day balances₀) ≡ 0 → length balances ≡ length balances₀
    going_words z =
        (sound_number calendar tables book.day balances g.sound).tables_sound.balance_words_lem
        ∙ sym (sound_number calendar tables book₀.day balances₀ z).tables_sound.balance_words_lem

    -- bytes put behind those written so far
    behind : (xs : List ℕ) → out + length xs ≤ length output₀ → put output out xs ≡ put output₀ 0 (g.bytes ++ xs)
    behind xs h =
        ap₂ (λ (l : List ℕ) (n : ℕ). put l n xs) g.stored (sym g.sized ∙ sym (zero-add (length g.bytes)))
        ∙ put_put output₀ 0 g.bytes xs (omega (arith, g.sized, h))

    -- nothing more is worked
    stops : serve_up_to g.fuel calendar tables ended book balances (drop at input) (length output₀ - out) ≡ stopped book balances
        → (r : Served) → r ≡ record { number = 0; book = book; consumed = at; written = out; over = false; full = is_full (length output) out }
        → left_served r balances output ≡ leaves_for 0 book₀ balances₀ output₀ (serving calendar tables ended book₀ balances₀ input (length output₀))
    unfolding stopped
    stops q r e =
        ends at g.bytes (stopped book balances) r (g.rest ∙ ap (after at g.bytes) q) (ap (λ (x : Served). x.number) e) (ap (λ (x : Served). x.book) e)
        (ap (λ (x : Served). x.consumed) e ∙ sym (add-zero at)) (ap (λ (x : Served). x.written) e ∙ sym g.sized ∙ ap length (sym (append-nil g.bytes)))
        (ap (λ (x : Served). x.over) e) (ap (λ (x : Served). x.full) e ∙ (λ i. is_full (g.kept i) ((sym g.sized ∙ ap length (sym (append-nil g.bytes))) i))) refl (g.stored ∙ ap (put output₀ 0) (sym (append-nil g.bytes)))

    pub going_full : length output - out < 65542 → (r : Served) → r ≡ record { number = 0; book = book; consumed = at; written = out; over = false; full = is_full (length output) out }
        → left_served r balances output ≡ leaves_for 0 book₀ balances₀ output₀ (serving calendar tables ended book₀ balances₀ input (length output₀))
    unfolding serve_up_to
    going_full h = stops (go g.fuel)
      where
        go : (n : ℕ) → serve_up_to n calendar tables ended book balances (drop at input) (length output₀ - out) ≡ stopped book balances
        go zero = refl
        go (suc n) = cond_true _ _ (lt-ltb (length output₀ - out) 65542 (omega (arith, g.kept)))

    -- the rest of the input, as a part of it
    whole_rest : take (length input - at) (drop at input) ≡ drop at input
    whole_rest = take_all (length input - at) (drop at input) (omega (arith, length-drop at input))

    pub going_waits : Waiting ≡ next ended (take (length input - at) (drop at input)) → (r : Served)
        → r ≡ record { number = 0; book = book; consumed = at; written = out; over = false; full = is_full (length output) out }
        → left_served r balances output ≡ leaves_for 0 book₀ balances₀ output₀ (serving calendar tables ended book₀ balances₀ input (length output₀))
    unfolding serve_up_to on_next
    going_waits e = stops (go g.fuel)
      where
        turn : (b : Bool) (x y : Serving) (f : ℕ → Serving) → cond b x (on_next (next ended (drop at input)) x y f) ≡ x
        turn true x y f = refl
        turn false x y f = ap (λ (k : Next). on_next k x y f) (sym (rw whole_rest at e))

        go : (n : ℕ) → serve_up_to n calendar tables ended book balances (drop at input) (length output₀ - out) ≡ stopped book balances
        go zero = refl
        go (suc n) = turn (ltb (length output₀ - out) 65542) _ _ _

    -- what is no record gets the answer 5
    pub going_ends : 65542 ≤ length output - out → Wrong ≡ next ended (take (length input - at) (drop at input)) → {o : List ℕ} → (r : Served)
        → r ≡ record { number = 0; book = book; consumed = at; written = out + 6; over = true; full = is_full (length o) (out + 6) }
        → o ≡ put output out (answer_bytes 5)
        → left_served r balances o ≡ leaves_for 0 book₀ balances₀ output₀ (serving calendar tables ended book₀ balances₀ input (length output₀))
    unfolding ended_by_five case_of
    going_ends h e {o} r q p =
        ends at g.bytes (ended_by_five book balances) r (g.rest ∙ ap (after at g.bytes) (go g.fuel g.enough)) (ap (λ (x : Served). x.number) q)
        (ap (λ (x : Served). x.book) q) (ap (λ (x : Served). x.consumed) q ∙ sym (add-zero at))
        (ap (λ (x : Served). x.written) q ∙ sym five_more)
        (ap (λ (x : Served). x.over) q)
        (ap (λ (x : Served). x.full) q ∙ (λ i. is_full (o_length i) (sym five_more i))) refl
        (p ∙ behind (answer_bytes 5) (omega (arith, g.kept, answer_length 5)))
      where
        o_length : length o ≡ length output₀
        o_length = ap length p ∙ put_length output out (answer_bytes 5) (omega (arith, h, answer_length 5)) ∙ g.kept

        five_more : length (g.bytes ++ answer_bytes 5) ≡ out + 6
        five_more = length-append g.bytes (answer_bytes 5) ∙ rw (g.sized, answer_length 5) refl

        wrong : Wrong ≡ next ended (drop at input)
        wrong = rw whole_rest at e

        go : (n : ℕ) → length input - at ≤ n
            → serve_up_to n calendar tables ended book balances (drop at input) (length output₀ - out) ≡ ended_by_five book balances
        go zero m =
            let k : ◌≡◌ {A = ℕ} 2 1 = ap case_of (wrong ∙ sym (next_empty (drop at input) ended (omega (arith, m, length-drop at input)))) in
            absurd (omega arith)
        go (suc n) m = wrong_served n calendar tables ended book balances (drop at input) (length output₀ - out) (omega (arith, g.kept, h)) wrong

    -- one record more
    pub size_fits : {size : ℕ} → Record size ≡ next ended (take (length input - at) (drop at input)) → (1 ≤ size) × (at + size ≤ length input)
    size_fits {size} e =
        let k = next_size ended (drop at input) size (rw whole_rest at e) in
        (k.0, omega (arith, k.1, length-drop at input, g.inside))

    -- the part of the output from a place on, written
    put_part : (xs : List ℕ) → take out output ++ (put (drop out output) 0 xs ++ drop (length output - out) (drop out output)) ≡ put output out xs
    unfolding put
    put_part xs =
        let none : drop (length output - out) (drop out output) ≡ [] =
        drop_of_length-le (drop out output) {i = length output - out} (omega (arith, length-drop out output)) in
        rw (none, append-nil (xs ++ drop (0 + length xs) (drop out output)), zero-add (length xs), drop-drop (length xs) out output) refl

    module _ (size : ℕ) (w : Worked) (b o : List ℕ) (h : 65542 ≤ length output - out)
        (e : Record size ≡ next ended (take (length input - at) (drop at input)))
        (q : worked w b o ≡ working calendar tables book balances (take (at + size - at) (drop at input)) (take (length output - out) (drop out output))) where
      abbrev message : List ℕ
      message = take size (drop at input)

      abbrev outcome : Result
      outcome = result calendar tables book balances (call_for message)

      abbrev bytes : List ℕ
      bytes = emitted outcome.answer

      begins : Record size ≡ next ended (drop at input)
      begins = rw whole_rest at e

      works : worked w b o ≡ working calendar tables book balances message (drop out output)
      works =
          let k : at + size - at ≡ size = omega arith in
          q
          ∙ ap₂ (λ (n : ℕ) (l : List ℕ). working calendar tables book balances (take n (drop at input)) l) k
          (take_all (length output - out) (drop out output) (omega (arith, length-drop out output)))

      book_is : w.book ≡ outcome.answer.book
      unfolding worked working
      book_is = ap (λ (x : Working). x.book) works

      balances_are : b ≡ outcome.balances
      unfolding worked working
      balances_are = ap (λ (x : Working). x.balances) works

      written_is : w.written ≡ length (emitted outcome.answer)
      unfolding worked working
      written_is = ap (λ (x : Working). x.written) works

      output_is : o ≡ put (drop out output) 0 (emitted outcome.answer)
      unfolding worked working
      output_is = ap (λ (x : Working). x.output) works

      pub written_fits : out + w.written ≤ length output₀
      written_fits = omega (arith, written_is, emitted_small calendar tables book balances message, g.kept, h)

      pub going_again : Going b (take out output ++ (o ++ drop (length output - out) (drop out output))) w.book (at + size) (out + w.written)
      going_again = go g.fuel g.enough g.rest
        where
          now : take out output ++ (o ++ drop (length output - out) (drop out output)) ≡ put output₀ 0 (g.bytes ++ bytes)
          now =
              ap (λ (x : List ℕ). take out output ++ (x ++ drop (length output - out) (drop out output))) output_is
              ∙ put_part bytes ∙ behind bytes (omega (arith, written_is, written_fits))

          room_left : length output₀ - out - length bytes ≡ length output₀ - (out + w.written)
          room_left = omega (arith, written_is)

          go : (n : ℕ) → length input - at ≤ n
              → serving calendar tables ended book₀ balances₀ input (length output₀)
              ≡ after at g.bytes (serve_up_to n calendar tables ended book balances (drop at input) (length output₀ - out))
              → Going b (take out output ++ (o ++ drop (length output - out) (drop out output))) w.book (at + size) (out + w.written)
          go zero m r = absurd (omega (arith, m, (size_fits e).0, (size_fits e).1))
          go (suc n) m r =
              record {
                fuel = n;
                enough = omega (arith, m, (size_fits e).0, (size_fits e).1);
                inside = (size_fits e).1;
                bytes = g.bytes ++ bytes;
                sized = length-append g.bytes bytes ∙ ap₂ (λ (x y : ℕ). x + y) g.sized (sym written_is);
                room = written_fits;
                kept = ap length now ∙ put_length output₀ 0 (g.bytes ++ bytes)
                    (omega (arith, length-append g.bytes bytes, g.sized, written_is, written_fits));
                stored = now;
                sound = (λ i. first_of (book_causes calendar tables (book_is i).day (balances_are i)))
                    ∙ result_sound calendar tables book balances g.sound (call_for message);
                rest = r
                    ∙ ap (after at g.bytes) (record_served n calendar tables ended book balances (drop at input) (length output₀ - out) size (omega (arith, g.kept, h)) begins)
                    ∙ after_after at size g.bytes bytes _
                    ∙ (λ i. after (at + size) (g.bytes ++ bytes)
                    (serve_up_to n calendar tables ended (sym book_is i) (sym balances_are i) (drop-drop size at input i) (room_left i)));
              }

-- ---- any book

module _ (calendar tables : List ℕ) (ended : Bool) (book : Book) (balances input output : List ℕ) where
  refused_for : (n : ℕ) → (n ≡ 0 → ⊥) → (s : Serving)
      → left_served (record { number = n; book = book; consumed = 0; written = 0; over = false; full = false }) balances output ≡ leaves_for n book balances output s
  unfolding left_served leaves_for
  refused_for zero d s = absurd (d refl)
  refused_for (suc n) d s = refl

  pub serves_refused : (n : ℕ) → n ≡ first_of (book_causes calendar tables book.day balances) → (n ≡ 0 → ⊥)
      → left_served (record { number = n; book = book; consumed = 0; written = 0; over = false; full = false }) balances output
      ≡ leaves calendar tables ended book balances input output
  unfolding leaves
  serves_refused n e d =
      refused_for n d (serving calendar tables ended book balances input (length output))
      ∙ ap (λ (k : ℕ). leaves_for k book balances output (serving calendar tables ended book balances input (length output))) e

  pub serves_sound : first_of (book_causes calendar tables book.day balances) ≡ 0
      → leaves_for 0 book balances output (serving calendar tables ended book balances input (length output))
      ≡ leaves calendar tables ended book balances input output
  unfolding leaves
  serves_sound e = ap (λ (k : ℕ). leaves_for k book balances output (serving calendar tables ended book balances input (length output))) (sym e)
