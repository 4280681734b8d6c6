-- What one step keeps: the bytes written and those still to be written are the stream's, whatever follows.
use mathlib.Core.Path.{◌≡◌, refl, sym, ap, ◌∙◌, subst}
use mathlib.Core.Bool.{Bool, true, false, cond, not, ◌&&◌, ◌||◌, true≢false}
use mathlib.Core.List.{List, [], ◌++◌, append_assoc, append-nil}
use Prim.Native.Nat.{ℕ, ◌+◌, ◌-◌, ◌≤◌, ◌<◌}
use native.Mathlib.Omega.{arith}
use lib.ListN.{length, take, drop, length-drop}
use lib.Seq.{length-take-le}
use borrow.Author.Tests.{ltb-false, ltb-true}
use Rattle.lists.specs.Tests.{cond_true, cond_false}
use Rattle.lists.specs.First.{first_of}
use Rattle.lists.specs.Put.{put}
use Rattle.book.specs.Soundness.{book_causes}
use Rattle.stream.specs.declared.Next.TheVariants.{Waiting}
use Rattle.stream.specs.Stream.{next, stream_bytes}
use Rattle.stream.specs.Serving.{Serving, serving, is_full, leaves_for, leaves}
use Rattle.stream.proofs.Headers.{waiting_end}
use Rattle.stream.proofs.Cuts as cuts
use Rattle.stream.proofs.Stops.{serving_stops, serving_works}
use Rattle.stream.proofs.ServedRuns.{leaves_sound, written_bytes}
use Rattle.program.specs.Steps.{Holding, holding, pending, to_write, has_ended, is_over, held_after, served_in, after_serving, resting, stepped}
use Rattle.program.specs.Statement.{Taken, Keeps, still}
use Rattle.program.proofs.Flags.{not_over, not_ended, asks_open, rests_full, over_ended, is_false}

-- ---- what a state keeps

-- all gives, for all bytes of the input, what is written in all
pub record Good (calendar tables : List ℕ) (all : List ℕ → List ℕ) (input written : List ℕ) (h : Holding) : Type 0 where
  pub so_far : (more : List ℕ) → (h.held.ended ≡ true → more ≡ []) → written ++ still calendar tables h more ≡ all (input ++ more)
  pub sound : h.held.over ≡ false → first_of (book_causes calendar tables h.held.book.day h.balances) ≡ 0
  pub answered : h.held.asks ≡ true → Waiting ≡ next false (pending h)
  pub finished : h.held.ended ≡ true → h.held.asks ≡ false
  pub over_rests : h.held.over ≡ true → h.held.asks ≡ false

module _ {calendar tables : List ℕ} {all : List ℕ → List ℕ} {input written : List ℕ} {h : Holding} {x : Taken}
    (g : Good calendar tables all input written h) (k : Keeps calendar tables h x) where
  abbrev before : Holding
  before = holding h.held h.balances x.input x.output

  abbrev ends : Bool
  ends = has_ended h.held (length x.read)

  abbrev have : ℕ
  have = h.held.left + length x.read

  -- ---- a run that is over

  module _ (o : h.held.over ≡ true) where
    rested : x.after ≡ holding (resting h.held) h.balances x.input x.output
    unfolding stepped holding
    rested = k.kept ∙ cond_true _ _ o

    rest_good : Good calendar tables all (input ++ x.read) (written ++ to_write x.after) x.after
    unfolding holding resting to_write still pending
    rest_good =
        let none : x.read ≡ [] = k.asked (g.over_rests o) in
        subst (λ (t : Holding). Good calendar tables all (input ++ x.read) (written ++ to_write t) t) (sym rested)
        record {
          so_far = λ more e. rw (append-nil written, none, append-nil input)
              (ap (λ (b : Bool). written ++ cond b [] (stream_bytes calendar tables h.held.book h.balances (pending h ++ more))) (sym o) ∙ g.so_far more e);
          sound = λ q. absurd (true≢false q);
          answered = λ q. absurd (true≢false (sym q));
          finished = λ q. refl;
          over_rests = λ q. refl;
        }

  -- ---- a run that goes on

  module _ (o : h.held.over ≡ false) where
    abbrev r : Serving
    r = serving calendar tables ends h.held.book h.balances (pending h ++ x.read) (length x.output)

    abbrev full : Bool
    full = is_full (length x.output) (length r.bytes)

    abbrev over : Bool
    over = r.over || (ends && not full)

    abbrev rest : List ℕ
    rest = drop r.consumed (pending h ++ x.read)

    -- what the step left, in the run's words
    ran : x.after
        ≡ record {
          held = record {
            book = r.book;
            left = have - r.consumed;
            written = length r.bytes;
            ended = ends;
            over = over;
            asks = not over && not full;
          };
          balances = r.balances;
          input = put x.input 0 rest;
          output = put x.output 0 r.bytes;
        }
    unfolding stepped holding after_serving held_after is_over served_in leaves_for
    ran =
        k.kept
        ∙ cond_false _ _ o
        ∙ ap (λ (l : List ℕ). after_serving before ends have (leaves calendar tables ends h.held.book h.balances l x.output)) k.behind
        ∙ ap (after_serving before ends have)
        (leaves_sound calendar tables ends h.held.book h.balances (pending h ++ x.read) x.output (g.sound o))
        ∙ ap (λ (l : List ℕ). record {
          held = record {
            book = r.book;
            left = have - r.consumed;
            written = length r.bytes;
            ended = ends;
            over = over;
            asks = not over && not full;
          };
          balances = r.balances;
          input = put x.input 0 (drop r.consumed l);
          output = put x.output 0 r.bytes;
        }) k.behind

    sized : length (pending h ++ x.read) ≡ have
    sized = ap length (sym k.behind) ∙ length-take-le have x.input k.inside

    rest_length : length rest ≡ have - r.consumed
    rest_length = length-drop r.consumed (pending h ++ x.read) ∙ ap (λ (n : ℕ). n - r.consumed) sized

    left_is : pending x.after ≡ rest
    unfolding pending
    left_is =
        ap pending ran ∙ ap (λ (n : ℕ). take n (put x.input 0 rest)) (sym rest_length) ∙ written_bytes x.input rest

    wrote : to_write x.after ≡ r.bytes
    unfolding to_write
    wrote = ap to_write ran ∙ written_bytes x.output r.bytes

    abbrev begun : (more : List ℕ) → (ends ≡ true → more ≡ [])
        → cuts.Begun calendar tables h.held.book h.balances (pending h ++ x.read) more r
    begun more e = unfold serving in cuts.begun calendar tables ends more e (length (pending h ++ x.read)) h.held.book h.balances (pending h ++ x.read) (length x.output)

    -- with room left and no 5, nothing can be worked
    waits : r.over ≡ false → full ≡ false → Waiting ≡ next ends rest
    unfolding is_full
    waits q f =
        serving_stops calendar tables ends h.held.book h.balances (pending h ++ x.read) (length x.output) q
        (omega (arith, ltb-false (length x.output - length r.bytes) 65542 f))

    -- a run that ends with the input has nothing left
    nothing_left : r.over ≡ false → over ≡ true → length rest ≡ 0
    nothing_left q p =
        let m = over_ended r.over ends full q p in
        waiting_end rest (waits q m.1 ∙ ap (λ (b : Bool). next b rest) m.0)

    module _ (more : List ℕ) (e : ends ≡ true → more ≡ []) where
      -- what the run leaves to be written is what the step leaves
      stays : cond r.over [] (stream_bytes calendar tables r.book r.balances (rest ++ more))
          ≡ cond over [] (stream_bytes calendar tables r.book r.balances (rest ++ more))
      stays = go r.over refl over refl
        where
          go : (a : Bool) → r.over ≡ a → (b : Bool) → over ≡ b
              → cond r.over [] (stream_bytes calendar tables r.book r.balances (rest ++ more))
              ≡ cond over [] (stream_bytes calendar tables r.book r.balances (rest ++ more))
          go true p b q = cond_true _ _ p ∙ sym (cond_true _ _ (ap (λ (c : Bool). c || (ends && not full)) p))
          go false p false q = cond_false _ _ p ∙ sym (cond_false _ _ q)
          go false p true q =
              let m = over_ended r.over ends full p q in
              cond_false _ _ p
              ∙ cuts.stream_empty calendar tables r.book r.balances (rest ++ more)
              (ap (λ (l : List ℕ). length (rest ++ l)) (e m.0) ∙ ap length (append-nil rest) ∙ nothing_left p q)
              ∙ sym (cond_true _ _ q)

      -- before the step nothing more had been read where the input had ended
      had_ended : h.held.ended ≡ true → x.read ++ more ≡ []
      unfolding has_ended
      had_ended q = rw (k.asked (g.finished q)) (e (rw q refl))

      step_so_far : (written ++ to_write x.after) ++ still calendar tables x.after more ≡ all ((input ++ x.read) ++ more)
      unfolding still
      step_so_far =
          (λ i. (written ++ wrote i)
          ++ cond (ran i).held.over [] (stream_bytes calendar tables (ran i).held.book (ran i).balances (pending x.after ++ more)))
          ∙ ap (λ (l : List ℕ). (written ++ r.bytes) ++ cond over [] (stream_bytes calendar tables r.book r.balances (l ++ more))) left_is
          ∙ ap (λ (l : List ℕ). (written ++ r.bytes) ++ l) (sym stays)
          ∙ append_assoc written r.bytes _
          ∙ ap (λ (l : List ℕ). written ++ l) (sym (begun more e).same)
          ∙ ap (λ (l : List ℕ). written ++ stream_bytes calendar tables h.held.book h.balances l) (append_assoc (pending h) x.read more)
          ∙ ap (λ (l : List ℕ). written ++ l) (sym (cond_false _ _ o))
          ∙ g.so_far (x.read ++ more) had_ended
          ∙ ap all (sym (append_assoc input x.read more))

    asks_is : x.after.held.asks ≡ not over && not full
    asks_is = ap (λ (t : Holding). t.held.asks) ran

    over_is : x.after.held.over ≡ over
    over_is = ap (λ (t : Holding). t.held.over) ran

    ended_is : x.after.held.ended ≡ ends
    ended_is = ap (λ (t : Holding). t.held.ended) ran

    -- where input is asked for, it goes on
    goes_on : x.after.held.asks ≡ true → (r.over ≡ false) × (full ≡ false) × (ends ≡ false)
    goes_on q =
        let m = asks_open over full (sym asks_is ∙ q) in
        (not_over r.over ends full m.0, m.1, not_ended r.over ends full m.0 m.1)

    run_good : Good calendar tables all (input ++ x.read) (written ++ to_write x.after) x.after
    run_good =
        record {
          so_far = λ more e. step_so_far more (λ q. e (ended_is ∙ q));
          sound = λ q. (λ i. first_of (book_causes calendar tables (ran i).held.book.day (ran i).balances)) ∙ (begun [] (λ p. refl)).sound (g.sound o);
          answered = λ q.
              let m = goes_on q in
              waits m.0 m.1 ∙ (λ i. next (m.2 i) (sym left_is i));
          finished = λ q. is_false _ (λ p. true≢false (sym q ∙ ended_is ∙ (goes_on p).2));
          over_rests = λ q. is_false _ (λ p. true≢false (sym q ∙ over_is ∙ (asks_open over full (sym asks_is ∙ p)).0));
        }

    -- neither over nor asking: a record was worked
    run_works : 65542 ≤ length x.output → x.after.held.over ≡ false → x.after.held.asks ≡ false → x.after.held.left < have
    unfolding is_full
    run_works m p q =
        let v : over ≡ false = sym over_is ∙ p in
        let f : full ≡ true = rests_full over full v (sym asks_is ∙ q) in
        let c = serving_works calendar tables ends h.held.book h.balances (pending h ++ x.read) (length x.output) m (not_over r.over ends full v)
        (ltb-true (length x.output - length r.bytes) 65542 f) in
        omega (arith, c, ap (λ (t : Holding). t.held.left) ran, (begun [] (λ z. refl)).inside, sized)

  pub step_good : Good calendar tables all (input ++ x.read) (written ++ to_write x.after) x.after
  step_good = go h.held.over refl
    where
      go : (b : Bool) → h.held.over ≡ b → Good calendar tables all (input ++ x.read) (written ++ to_write x.after) x.after
      go true o = rest_good o
      go false o = run_good o

  pub step_works : 65542 ≤ length x.output → h.held.over ≡ false → x.after.held.over ≡ false → x.after.held.asks ≡ false
      → x.after.held.left < h.held.left + length x.read
  step_works m o = run_works o m
