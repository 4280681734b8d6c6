-- Every stream, however it is cut into runs, is answered as the ledger answers its records (specs/Statement.antt).
use mathlib.Core.Path.{◌≡◌, refl, sym, ap, ◌∙◌, subst}
use mathlib.Core.Bool.{Bool, true, false, cond, true≢false}
use mathlib.Core.List.{List, [], ◌∷◌, ◌++◌, append_assoc, append-nil}
use Prim.Native.Nat.{ℕ, zero, suc, ◌+◌, ◌≤◌, ◌<◌}
use native.Mathlib.Omega.{arith}
use lib.ListN.{length, length-append, length-drop}
use Rattle.lists.specs.Tests.{cond_true, cond_false}
use Rattle.lists.specs.First.{first_of}
use Rattle.book.specs.declared.Book.{Book}
use Rattle.book.specs.Soundness.{book_causes}
use Rattle.history.specs.Results.{Answer, opened, run_from}
use Rattle.history.specs.Causes.{opening_number}
use Rattle.history.proofs.Answers.{opened_number}
use Rattle.history.proofs.StaysSound.{opened_sound}
use Rattle.history.proofs.Theorem.{every_history}
use Rattle.stream.specs.declared.Next.{Next}
use Rattle.stream.specs.declared.Next.TheVariants.{Waiting, Wrong, Record}
use Rattle.stream.specs.Stream.{next, emitted_all, calls_of, ending, stream_bytes}
use Rattle.stream.specs.Serving.{Serving, ended_by_five, after, serve_up_to, serving}
use Rattle.stream.specs.Statement.{Step, Session, begun, advanced, stepped, arrived, finished, input_of, ledger_bytes, still, AnswersStream, EveryStream}
use Rattle.stream.proofs.Headers.{waiting_end, next_size}
use Rattle.stream.proofs.Runs.{record_served, wrong_served}
use Rattle.stream.proofs.Stops.{serving_stops}
use Rattle.stream.proofs.Cuts as cuts

positive : (n : ℕ) → (n ≡ 0 → ⊥) → 0 < n
positive zero h = absurd (h refl)
positive (suc n) h = omega arith

module _ (calendar tables : List ℕ) where
  -- what was written, and what is still to be written with more input to come
  total : List ℕ → Session → List ℕ
  total more s = s.written ++ cond s.over [] (stream_bytes calendar tables s.book s.balances (s.pending ++ more))

  unfoldable pub Sound : Session → Type 0
  Sound s = first_of (book_causes calendar tables s.book.day s.balances) ≡ 0

  -- ---- one run

  module _ (ended : Bool) (s : Session) (x : Step) where
    unfoldable pub served : Serving
    served = serving calendar tables ended s.book s.balances (s.pending ++ x.bytes) x.room

    stepped_over : s.over ≡ true → stepped calendar tables ended s x ≡ s
    unfolding stepped
    stepped_over q = cond_true _ _ q

    pub stepped_on : s.over ≡ false → stepped calendar tables ended s x ≡ advanced s (s.pending ++ x.bytes) served
    unfolding stepped served
    stepped_on q = cond_false _ _ q

    module _ (more : List ℕ) (all : ended ≡ true → more ≡ []) where
      run_begun : cuts.Begun calendar tables s.book s.balances (s.pending ++ x.bytes) more served
      unfolding served serving
      run_begun = cuts.begun calendar tables ended more all (length (s.pending ++ x.bytes)) s.book s.balances (s.pending ++ x.bytes) x.room

      step_total : total (x.bytes ++ more) s ≡ total more (stepped calendar tables ended s x)
      unfolding total advanced
      step_total = go s.over refl
        where
          go : (b : Bool) → s.over ≡ b → total (x.bytes ++ more) s ≡ total more (stepped calendar tables ended s x)
          go true q = rw q refl ∙ ap (total more) (sym (stepped_over q))
          go false q =
              ap (λ (b : Bool). s.written ++ cond b [] (stream_bytes calendar tables s.book s.balances (s.pending ++ (x.bytes ++ more)))) q
              ∙ ap (λ (l : List ℕ). s.written ++ stream_bytes calendar tables s.book s.balances l) (sym (append_assoc s.pending x.bytes more))
              ∙ ap (λ (l : List ℕ). s.written ++ l) run_begun.same
              ∙ sym (append_assoc s.written served.bytes _)
              ∙ ap (total more) (sym (stepped_on q))

      pub step_sound : Sound s → Sound (stepped calendar tables ended s x)
      unfolding Sound advanced
      step_sound z = go s.over refl
        where
          go : (b : Bool) → s.over ≡ b → Sound (stepped calendar tables ended s x)
          go true q = subst Sound (sym (stepped_over q)) z
          go false q = subst Sound (sym (stepped_on q)) (run_begun.sound z)

  -- ---- runs while input arrives, and after it has ended

  module _ (book : Book) (balances : List ℕ) where
    Holds : List ℕ → List ℕ → Session → Type 0
    Holds input more s = stream_bytes calendar tables book balances (input ++ more) ≡ total more s

    arrived_holds : (steps : List Step) (input : List ℕ) (s : Session) → ((more : List ℕ) → Holds input more s)
        → (more : List ℕ) → Holds (input ++ input_of steps) more (arrived calendar tables s steps)
    unfolding Holds arrived input_of
    arrived_holds [] input s h more = rw (append-nil input) (h more)
    arrived_holds (x ∷ xs) input s h more =
        ap (λ (l : List ℕ). stream_bytes calendar tables book balances (l ++ more)) (sym (append_assoc input x.bytes (input_of xs)))
        ∙ arrived_holds xs (input ++ x.bytes) (stepped calendar tables false s x)
        (λ m. ap (stream_bytes calendar tables book balances) (append_assoc input x.bytes m) ∙ h (x.bytes ++ m) ∙ step_total false s x m (λ q. absurd (true≢false (sym q))))
        more

    finished_holds : (rooms input : List ℕ) (s : Session) → Holds input [] s → Holds input [] (finished calendar tables s rooms)
    unfolding Holds finished
    finished_holds [] input s h = h
    finished_holds (room ∷ rooms) input s h =
        finished_holds rooms input (stepped calendar tables true s (record { bytes = []; room = room }))
        (h ∙ step_total true s (record { bytes = []; room = room }) [] (λ q. refl))

  arrived_sound : (steps : List Step) (s : Session) → Sound s → Sound (arrived calendar tables s steps)
  unfolding arrived
  arrived_sound [] s z = z
  arrived_sound (x ∷ xs) s z = arrived_sound xs (stepped calendar tables false s x) (step_sound false s x [] (λ q. refl) z)

  finished_sound : (rooms : List ℕ) (s : Session) → Sound s → Sound (finished calendar tables s rooms)
  unfolding finished
  finished_sound [] s z = z
  finished_sound (room ∷ rooms) s z =
      finished_sound rooms (stepped calendar tables true s (record { bytes = []; room = room }))
      (step_sound true s (record { bytes = []; room = room }) [] (λ q. refl) z)

  -- ---- progress at the end of the input

  module _ (book : Book) (balances input : List ℕ) (room : ℕ) (h : 65542 ≤ room) (n : length input ≡ 0 → ⊥) where
    run_progress : (serving calendar tables true book balances input room).over ≡ false
        → 0 < (serving calendar tables true book balances input room).consumed
    unfolding serving ended_by_five after
    run_progress = go (length input) refl (next true input) refl
      where
        go : (l : ℕ) → length input ≡ l → (x : Next) → x ≡ next true input
            → (serve_up_to l calendar tables true book balances input room).over ≡ false
            → 0 < (serve_up_to l calendar tables true book balances input room).consumed
        go zero z x e q = absurd (n z)
        go (suc l) z Waiting e q = absurd (n (waiting_end input e))
        go (suc l) z Wrong e q =
            absurd (true≢false (sym (ap (λ (r : Serving). r.over) (wrong_served l calendar tables true book balances input room h e)) ∙ q))
        go (suc l) z (Record k) e q =
            omega (arith, ap (λ (r : Serving). r.consumed) (record_served l calendar tables true book balances input room k h e), (next_size true input k e).0)

  progress : (s : Session) (room : ℕ) → 65542 ≤ room → s.over ≡ false → (length s.pending ≡ 0 → ⊥)
      → (stepped calendar tables true s (record { bytes = []; room = room })).over ≡ false
      → length (stepped calendar tables true s (record { bytes = []; room = room })).pending < length s.pending
  unfolding advanced served
  progress s room h o n q =
      let x : Step = record { bytes = []; room = room } in
      let input = s.pending ++ [] in
      let e = stepped_on true s x o in
      let l : length input ≡ length s.pending = ap length (append-nil s.pending) in
      let k = run_progress s.book s.balances input room h (λ z. n (sym l ∙ z)) (sym (ap (λ (t : Session). t.over) e) ∙ q) in
      let m = ap (λ (t : Session). length t.pending) e ∙ length-drop (served true s x).consumed input in
      let p : 0 < length s.pending = positive (length s.pending) n in
      omega (arith, k, l, m, p)

  -- ---- a run that stops with room left

  stops : (s : Session) (ended : Bool) (x : Step) → s.over ≡ false → (stepped calendar tables ended s x).over ≡ false
      → length (stepped calendar tables ended s x).written + 65542 ≤ length s.written + x.room
      → Waiting ≡ next ended (stepped calendar tables ended s x).pending
  unfolding advanced served
  stops s ended x o q h =
      let e = stepped_on ended s x o in
      let w = ap (λ (t : Session). length t.written) e ∙ length-append s.written (served ended s x).bytes in
      serving_stops calendar tables ended s.book s.balances (s.pending ++ x.bytes) x.room (sym (ap (λ (t : Session). t.over) e) ∙ q)
      (omega (arith, w, h))
      ∙ ap (λ (t : Session). next ended t.pending) (sym e)

-- ---- the theorem

module _ (calendar tables balances : List ℕ) (day : ℕ) (e : (opened calendar tables balances day).number ≡ 0) where
  accepted : opening_number calendar tables balances day ≡ 0
  accepted = sym (opened_number calendar tables balances day) ∙ e

  pub opening_sound : Sound calendar tables (begun (opened calendar tables balances day))
  unfolding Sound begun
  opening_sound = opened_sound calendar tables balances day accepted

  pub answered : (input : List ℕ)
      → stream_bytes calendar tables (opened calendar tables balances day).book (opened calendar tables balances day).balances input
      ≡ ledger_bytes calendar tables day input
  unfolding stream_bytes ledger_bytes run_from
  answered input = ap (λ (list : List Answer). emitted_all list ++ ending input) (every_history calendar tables balances day e (calls_of input)).answers

  module _ (input : List ℕ) (s : Session)
      (h : stream_bytes calendar tables (opened calendar tables balances day).book (opened calendar tables balances day).balances (input ++ []) ≡ total calendar tables [] s)
      (z : Sound calendar tables s) where
    all_written : s.written ++ still calendar tables s ≡ ledger_bytes calendar tables day input
    unfolding total still
    all_written =
        ap (λ (l : List ℕ). s.written ++ cond s.over [] (stream_bytes calendar tables s.book s.balances l)) (sym (append-nil s.pending))
        ∙ sym h
        ∙ ap (stream_bytes calendar tables (opened calendar tables balances day).book (opened calendar tables balances day).balances) (append-nil input)
        ∙ answered input

    nothing_still : still calendar tables s ≡ [] → s.written ≡ ledger_bytes calendar tables day input
    nothing_still q = sym (append-nil s.written) ∙ ap (λ (l : List ℕ). s.written ++ l) (sym q) ∙ all_written

    answers : AnswersStream calendar tables day input s
    unfolding still Sound
    answers =
        record {
          written = all_written;
          whole = λ o n. nothing_still (cond_false _ _ o ∙ cuts.stream_empty calendar tables s.book s.balances s.pending n);
          ended = λ o. nothing_still (cond_true _ _ o);
          sound = z;
          progress = progress calendar tables s;
          stops = stops calendar tables s;
        }

pub every_stream : EveryStream
unfolding Holds begun total Sound
every_stream calendar tables balances day e steps rooms =
    let o = opened calendar tables balances day in
    answers calendar tables balances day e (input_of steps) (finished calendar tables (arrived calendar tables (begun o) steps) rooms)
    (finished_holds calendar tables o.book o.balances rooms (input_of steps) (arrived calendar tables (begun o) steps)
    (arrived_holds calendar tables o.book o.balances steps [] (begun o) (λ more. refl) []))
    (finished_sound calendar tables rooms (arrived calendar tables (begun o) steps)
    (arrived_sound calendar tables steps (begun o) (opening_sound calendar tables balances day e)))
