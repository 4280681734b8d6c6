-- A run answers the beginning of a stream, whatever follows: what it writes, and what the stream behind it is answered with, is what the
-- whole stream is answered with.
use mathlib.Core.Path.{◌≡◌, refl, sym, ap, ap₂, ◌∙◌}
use mathlib.Core.Bool.{Bool, true, false, cond}
use mathlib.Core.List.{List, [], ◌++◌, append_assoc, append-nil}
use Prim.Native.Nat.{ℕ, zero, suc, ◌-◌, ◌≤◌}
use native.Mathlib.Omega.{arith}
use lib.Dec.{ltb}
use lib.ListN.{length, take, drop, length-drop}
use lib.Seq.{drop-append-le, take-append-le, drop-drop}
use borrow.Author.Tests.{ne_eqb}
use Rattle.lists.specs.First.{first_of}
use Rattle.book.specs.declared.Book.{Book}
use Rattle.book.specs.Soundness.{book_causes}
use Rattle.history.specs.Results.{result, run_by}
use Rattle.history.proofs.StaysSound.{result_sound}
use Rattle.stream.specs.declared.Next.{Next}
use Rattle.stream.specs.declared.Next.TheVariants.{Waiting, Wrong, Record}
use Rattle.stream.specs.Stream.{next, on_next, call_for, answer_bytes, emitted, emitted_all, Split, added, split, calls_of, ending, stream_bytes}
use Rattle.stream.specs.Serving.{Serving, stopped, ended_by_five, after, serve_up_to}
use Rattle.stream.proofs.Headers.{case_of, next_empty, next_size, record_more, wrong_more}

-- ---- the records of a stream

-- a case of the input picks its branch
on_waiting : {A : Type 0} {x : Next} (a b : A) (f : ℕ → A) → Waiting ≡ x → on_next x a b f ≡ a
unfolding on_next
on_waiting a b f e = ap (λ (k : Next). on_next k a b f) (sym e)

on_wrong : {A : Type 0} {x : Next} (a b : A) (f : ℕ → A) → Wrong ≡ x → on_next x a b f ≡ b
unfolding on_next
on_wrong a b f e = ap (λ (k : Next). on_next k a b f) (sym e)

on_record : {A : Type 0} {x : Next} {n : ℕ} (a b : A) (f : ℕ → A) → Record n ≡ x → on_next x a b f ≡ f n
unfolding on_next
on_record a b f e = ap (λ (k : Next). on_next k a b f) (sym e)

-- as many records as bytes are enough
split_enough : (n m : ℕ) (s : List ℕ) → length s ≤ n → length s ≤ m → split n s ≡ split m s
unfolding split on_next
split_enough zero zero s h k = refl
split_enough zero (suc m) s h k = sym (on_waiting _ _ _ (next_empty s true (omega arith)))
split_enough (suc n) zero s h k = on_waiting _ _ _ (next_empty s true (omega arith))
split_enough (suc n) (suc m) s h k = go (next true s) refl (λ (t : List ℕ). split_enough n m t)
  where
    none : Split
    none = record { records = []; behind = s }

    go : (x : Next) → x ≡ next true s → ((t : List ℕ) → length t ≤ n → length t ≤ m → split n t ≡ split m t)
        → on_next x none none (λ k. added (take k s) (split n (drop k s))) ≡ on_next x none none (λ k. added (take k s) (split m (drop k s)))
    go Waiting e rest = refl
    go Wrong e rest = refl
    go (Record j) e rest =
        let z = next_size true s j e in
        ap (added (take j s)) (rest (drop j s) (omega (arith, z.0, z.1, length-drop j s)) (omega (arith, z.0, z.1, length-drop j s)))

module _ (s : List ℕ) where
  split_record : (n : ℕ) → Record n ≡ next true s → split (length s) s ≡ added (take n s) (split (length (drop n s)) (drop n s))
  unfolding split
  split_record n e = go (length s) refl
    where
      z : (1 ≤ n) × (n ≤ length s)
      z = next_size true s n e

      go : (l : ℕ) → length s ≡ l → split l s ≡ added (take n s) (split (length (drop n s)) (drop n s))
      go zero q = absurd (omega (arith, q, z.0, z.1))
      go (suc l) q =
          on_record _ _ _ e
          ∙ ap (added (take n s)) (split_enough l (length (drop n s)) (drop n s) (omega (arith, q, z.0, length-drop n s)) (omega arith))

  not_empty : Wrong ≡ next true s → length s ≡ 0 → ⊥
  unfolding case_of
  not_empty e z = let k : ◌≡◌ {A = ℕ} 2 1 = ap case_of (e ∙ sym (next_empty s true z)) in absurd (omega arith)

  split_wrong : Wrong ≡ next true s → split (length s) s ≡ record { records = []; behind = s }
  unfolding split
  split_wrong e = go (length s)
    where
      go : (l : ℕ) → split l s ≡ record { records = []; behind = s }
      go zero = refl
      go (suc l) = on_wrong _ _ _ e

  split_empty : length s ≡ 0 → split (length s) s ≡ record { records = []; behind = s }
  unfolding split
  split_empty z = ap (λ (n : ℕ). split n s) z

-- ---- what a stream is answered with

module _ (calendar tables : List ℕ) where
  module _ (book : Book) (balances s : List ℕ) where
    pub stream_empty : length s ≡ 0 → stream_bytes calendar tables book balances s ≡ []
    unfolding stream_bytes calls_of ending run_by emitted_all
    stream_empty z = rw (split_empty s z, z) refl

    pub stream_wrong : Wrong ≡ next true s → stream_bytes calendar tables book balances s ≡ answer_bytes 5
    unfolding stream_bytes calls_of ending run_by emitted_all
    stream_wrong e = rw (split_wrong s e, ne_eqb (length s) 0 (not_empty s e)) refl

    pub stream_record : (n : ℕ) → Record n ≡ next true s
        → stream_bytes calendar tables book balances s
        ≡ emitted (result calendar tables book balances (call_for (take n s))).answer
        ++ stream_bytes calendar tables (result calendar tables book balances (call_for (take n s))).answer.book
        (result calendar tables book balances (call_for (take n s))).balances (drop n s)
    unfolding stream_bytes calls_of ending run_by emitted_all added
    stream_record n e = rw (split_record s n e) (append_assoc (emitted (result calendar tables book balances (call_for (take n s))).answer) _ _)

  -- ---- a run and what follows it

  -- a run on some input, with more behind it
  pub record Begun (book : Book) (balances input more : List ℕ) (r : Serving) : Type 0 where
    pub inside : r.consumed ≤ length input
    pub same : stream_bytes calendar tables book balances (input ++ more)
        ≡ r.bytes ++ cond r.over [] (stream_bytes calendar tables r.book r.balances (drop r.consumed input ++ more))
    pub sound : first_of (book_causes calendar tables book.day balances) ≡ 0
        → first_of (book_causes calendar tables r.book.day r.balances) ≡ 0

  module _ (ended : Bool) (more : List ℕ) (all : ended ≡ true → more ≡ []) where
    begun_stopped : (book : Book) (balances input : List ℕ) → Begun book balances input more (stopped book balances)
    unfolding stopped
    begun_stopped book balances input = record { inside = omega arith; same = refl; sound = λ z. z }

    wrong_still : (input : List ℕ) → Wrong ≡ next ended input → Wrong ≡ next true (input ++ more)
    wrong_still input e = go ended refl
      where
        go : (b : Bool) → ended ≡ b → Wrong ≡ next true (input ++ more)
        go true q = e ∙ ap₂ next q (sym (append-nil input) ∙ ap (λ (x : List ℕ). input ++ x) (sym (all q)))
        go false q = wrong_more input more (e ∙ ap (λ (b : Bool). next b input) q)

    begun_wrong : (book : Book) (balances input : List ℕ) → Wrong ≡ next ended input → Begun book balances input more (ended_by_five book balances)
    unfolding ended_by_five
    begun_wrong book balances input e =
        record {
          inside = omega arith;
          same = stream_wrong book balances (input ++ more) (wrong_still input e) ∙ sym (append-nil (answer_bytes 5));
          sound = λ z. z;
        }

    begun_record : (book : Book) (balances input : List ℕ) (n : ℕ) → Record n ≡ next ended input → (r : Serving)
        → Begun (result calendar tables book balances (call_for (take n input))).answer.book
        (result calendar tables book balances (call_for (take n input))).balances (drop n input) more r
        → Begun book balances input more (after n (emitted (result calendar tables book balances (call_for (take n input))).answer) r)
    unfolding after
    begun_record book balances input n e r k =
        let z = next_size ended input n e in
        let x = result calendar tables book balances (call_for (take n input)) in
        let t : take n (input ++ more) ≡ take n input = take-append-le n input more z.1 in
        let d : drop n (input ++ more) ≡ drop n input ++ more = drop-append-le n input more z.1 in
        record {
          inside = omega (arith, k.inside, length-drop n input, z.1);
          same = stream_record book balances (input ++ more) n (record_more input more ended n e)
              ∙ rw (t, d, k.same, drop-drop r.consumed n input) (sym (append_assoc (emitted x.answer) r.bytes _));
          sound = λ q. k.sound (result_sound calendar tables book balances q (call_for (take n input)));
        }

    pub begun : (n : ℕ) (book : Book) (balances input : List ℕ) (room : ℕ)
        → Begun book balances input more (serve_up_to n calendar tables ended book balances input room)
    unfolding serve_up_to on_next
    begun zero book balances input room = begun_stopped book balances input
    begun (suc n) book balances input room =
        go (ltb room 65542) (next ended input) refl (λ (b : Book) (l s : List ℕ) (m : ℕ). begun n b l s m)
      where
        go : (b : Bool) (x : Next) → x ≡ next ended input
            → ((b : Book) (l s : List ℕ) (m : ℕ) → Begun b l s more (serve_up_to n calendar tables ended b l s m))
            → Begun book balances input more
            (cond b (stopped book balances)
            (on_next x (stopped book balances) (ended_by_five book balances) (λ k.
            after k (emitted (result calendar tables book balances (call_for (take k input))).answer)
            (serve_up_to n calendar tables ended (result calendar tables book balances (call_for (take k input))).answer.book
            (result calendar tables book balances (call_for (take k input))).balances (drop k input)
            (room - length (emitted (result calendar tables book balances (call_for (take k input))).answer))))))
        go true x e rest = begun_stopped book balances input
        go false Waiting e rest = begun_stopped book balances input
        go false Wrong e rest = begun_wrong book balances input e
        go false (Record k) e rest = begun_record book balances input k e _ (rest _ _ _ _)
