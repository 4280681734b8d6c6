-- What calls of serve answered and left is what the runs of the definition give, so the theorem about every stream is about them too.
use mathlib.Core.Path.{◌≡◌, refl, sym, ap, ◌∙◌, subst}
use mathlib.Core.Bool.{Bool, true, false}
use mathlib.Core.List.{List, [], ◌∷◌, ◌++◌}
use Prim.Native.Nat.{ℕ, ◌-◌}
use native.Mathlib.Omega.{arith}
use lib.ListN.{length, take, drop}
use lib.Seq.{take_at}
use borrow.Author.Tests.{ltb-false}
use Rattle.lists.specs.First.{first_of}
use Rattle.lists.specs.Put.{put, put_start}
use Rattle.book.specs.declared.Book.{Book}
use Rattle.book.specs.Soundness.{book_causes}
use Rattle.history.specs.Results.{opened}
use Rattle.stream.specs.Stream.{next}
use Rattle.stream.specs.Serving.{Serving, serving, is_full, Leaves, leaves_for, left_served, leaves}
use Rattle.stream.specs.Statement.{Step, Session, begun, advanced, stepped, arrived, finished, input_of, AnswersStream}
use Rattle.stream.specs.ServedRuns.{ServedRun, Keeps, after_run, after_runs, AllKeep, NoneArrives, steps_of, EveryServedStream, FullTells}
use Rattle.stream.proofs.Stops.{serving_stops}
use Rattle.stream.proofs.Theorem.{Sound, served, stepped_on, step_sound, opening_sound, every_stream}

-- what a sound book leaves
pub leaves_sound : (calendar tables : List ℕ) (ended : Bool) (book : Book) (balances input output : List ℕ)
    → first_of (book_causes calendar tables book.day balances) ≡ 0
    → leaves calendar tables ended book balances input output
    ≡ leaves_for 0 book balances output (serving calendar tables ended book balances input (length output))
unfolding leaves
leaves_sound calendar tables ended book balances input output z =
    ap (λ (n : ℕ). leaves_for n book balances output (serving calendar tables ended book balances input (length output))) z

-- the bytes that a run wrote, read from the output
pub written_bytes : (output bytes : List ℕ) → take (length bytes) (put output 0 bytes) ≡ bytes
written_bytes output bytes =
    ap (take (length bytes)) (put_start output bytes) ∙ take_at bytes (drop (length bytes) output) (length bytes) refl

module _ (calendar tables : List ℕ) (ended : Bool) (s : Session) (x : ServedRun) (o : s.over ≡ false) (z : Sound calendar tables s)
    (k : Keeps calendar tables ended s x) where
  abbrev step : Step
  step = record { bytes = x.arrived; room = length x.found }

  abbrev r : Serving
  r = serving calendar tables ended s.book s.balances (s.pending ++ x.arrived) (length x.found)

  left : left_served x.answer x.balances x.output ≡ leaves_for 0 s.book s.balances x.found r
  unfolding Sound
  left = k ∙ leaves_sound calendar tables ended s.book s.balances (s.pending ++ x.arrived) x.found z

  run_stepped : after_run s x ≡ stepped calendar tables ended s step
  unfolding after_run advanced leaves_for left_served served
  run_stepped =
      let bytes : take x.answer.written x.output ≡ r.bytes =
      (λ i. take (left i).written (left i).output) ∙ written_bytes x.found r.bytes in
      (λ i. record {
        pending = drop (left i).consumed (s.pending ++ x.arrived);
        book = (left i).book;
        balances = (left i).balances;
        written = s.written ++ bytes i;
        over = (left i).over;
      })
      ∙ sym (stepped_on calendar tables ended s step o)

module _ (calendar tables : List ℕ) where
  -- after each call the book is sound
  after_sound : (ended : Bool) (s : Session) (x : ServedRun) → s.over ≡ false → Sound calendar tables s → Keeps calendar tables ended s x
      → Sound calendar tables (after_run s x)
  after_sound ended s x o z k =
      subst (Sound calendar tables) (sym (run_stepped calendar tables ended s x o z k))
      (step_sound calendar tables ended s (step calendar tables ended s x o z k) [] (λ q. refl) z)

  runs_arrived : (xs : List ServedRun) (s : Session) → Sound calendar tables s → AllKeep calendar tables false s xs
      → (after_runs s xs ≡ arrived calendar tables s (steps_of xs)) × Sound calendar tables (after_runs s xs)
  unfolding after_runs arrived steps_of
  runs_arrived [] s z k = (refl, z)
  runs_arrived (x ∷ xs) s z (o, h, rest) =
      let m = runs_arrived xs (after_run s x) (after_sound false s x o z h) rest in
      (m.0 ∙ ap (λ (t : Session). arrived calendar tables t (steps_of xs)) (run_stepped calendar tables false s x o z h), m.1)

  rooms_of : List ServedRun → List ℕ
  rooms_of [] = []
  rooms_of (x ∷ xs) = length x.found ∷ rooms_of xs

  runs_finished : (xs : List ServedRun) (s : Session) → Sound calendar tables s → NoneArrives xs → AllKeep calendar tables true s xs
      → after_runs s xs ≡ finished calendar tables s (rooms_of xs)
  unfolding after_runs finished rooms_of
  runs_finished [] s z n k = refl
  runs_finished (x ∷ xs) s z (a, n) (o, h, rest) =
      runs_finished xs (after_run s x) (after_sound true s x o z h) n rest
      ∙ ap (λ (t : Session). finished calendar tables t (rooms_of xs))
      (run_stepped calendar tables true s x o z h
      ∙ ap (λ (l : List ℕ). stepped calendar tables true s (record { bytes = l; room = length x.found })) a)

pub every_served_stream : EveryServedStream
every_served_stream calendar tables balances day e runs last k n l =
    let o = begun (opened calendar tables balances day) in
    let a = runs_arrived calendar tables runs o (opening_sound calendar tables balances day e) k in
    let f = runs_finished calendar tables last (after_runs o runs) a.1 n l in
    subst (AnswersStream calendar tables day (input_of (steps_of runs)))
    (sym (f ∙ ap (λ (t : Session). finished calendar tables t (rooms_of calendar tables last)) a.0))
    (every_stream calendar tables balances day e (steps_of runs) (rooms_of calendar tables last))

pub full_tells : FullTells
unfolding after_run leaves_for left_served is_full
full_tells calendar tables ended s x z o k v f =
    let r : Serving = serving calendar tables ended s.book s.balances (s.pending ++ x.arrived) (length x.found) in
    let e : left_served x.answer x.balances x.output ≡ leaves_for 0 s.book s.balances x.found r =
    k ∙ leaves_sound calendar tables ended s.book s.balances (s.pending ++ x.arrived) x.found z in
    let room = ltb-false (length x.found - length r.bytes) 65542 (sym (ap (λ (l : Leaves). l.full) e) ∙ f) in
    serving_stops calendar tables ended s.book s.balances (s.pending ++ x.arrived) (length x.found) (sym (ap (λ (l : Leaves). l.over) e) ∙ v)
    (omega (arith, room))
    ∙ ap (λ (l : Leaves). next ended (drop l.consumed (s.pending ++ x.arrived))) (sym e)
