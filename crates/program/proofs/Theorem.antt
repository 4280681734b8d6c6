-- Every run of claimrun writes what claimrun_bytes says (specs/Statement.antt).
use mathlib.Core.Path.{◌≡◌, refl, sym, ap, ◌∙◌, subst}
use mathlib.Core.Bool.{Bool, true, false, cond, true≢false}
use mathlib.Core.List.{List, [], ◌∷◌, ◌++◌, append_assoc, append-nil}
use Prim.Native.Nat.{ℕ, zero, suc}
use native.Mathlib.Omega.{arith}
use lib.Dec.{eqb}
use lib.ListN.{length, take, length-take}
use lib.Seq.{take_all}
use borrow.Author.Tests.{eqb-true, eqb-false, eq-eqb, ne_eqb}
use Rattle.lists.specs.Tests.{cond_true, cond_false}
use Rattle.lists.specs.Put.{put}
use Rattle.history.specs.Causes.{opening_number}
use Rattle.history.specs.Results.{opened}
use Rattle.history.proofs.Answers.{opened_number}
use Rattle.stream.specs.Stream.{answer_bytes}
use Rattle.stream.specs.Statement.{begun, ledger_bytes}
use Rattle.stream.proofs.Headers.{next_empty, waiting_short}
use Rattle.stream.proofs.Records.{answer_length}
use Rattle.stream.proofs.ServedRuns.{written_bytes}
use Rattle.stream.proofs.Theorem.{Sound, opening_sound, answered}
use Rattle.book_file.specs.BookFile.{calendar_in, tables_in, day_in}
use Rattle.program.specs.Claimrun.{BookDat, missing, holds, no_balances, file_number, written_for, claimrun_bytes}
use Rattle.program.specs.Steps.{Beginning, refused_held, open_held, opening_for, opening, begins, Holding, holding, pending, to_write}
use Rattle.program.specs.Statement.{handed, at_first, Taken, AllKeep, read_by, written_by, at_last, still, Writes, EveryClaimrun, EveryLoop}
use Rattle.program.proofs.Steps.{Good, step_good, step_works}

-- ---- the beginning

module _ (all : List ℕ → List ℕ) (input : List ℕ) where
  abbrev Starts : Beginning → Type 0
  Starts b = Good b.calendar b.tables all [] (to_write (at_first b input)) (at_first b input)

  refused_good : (n : ℕ) (calendar tables balances output : List ℕ) → ((more : List ℕ) → all more ≡ answer_bytes n)
      → Starts (record { held = refused_held; calendar = calendar; tables = tables; balances = balances; output = put output 0 (answer_bytes n) })
  unfolding at_first holding to_write refused_held still
  refused_good n calendar tables balances output e =
      let w : take 6 (put output 0 (answer_bytes n)) ≡ answer_bytes n =
      ap (λ (k : ℕ). take k (put output 0 (answer_bytes n))) (sym (answer_length n)) ∙ written_bytes output (answer_bytes n) in
      record {
        so_far = λ more q. append-nil _ ∙ w ∙ sym (e more);
        sound = λ q. absurd (true≢false q);
        answered = λ q. absurd (true≢false (sym q));
        finished = λ q. refl;
        over_rests = λ q. refl;
      }

  module _ (file balances output : List ℕ) where
    opened_good : (opened (calendar_in file) (tables_in file) balances (day_in file)).number ≡ 0
        → ((more : List ℕ) → all more ≡ ledger_bytes (calendar_in file) (tables_in file) (day_in file) more)
        → Starts (opening_for 0 file (opened (calendar_in file) (tables_in file) balances (day_in file)) output)
    unfolding at_first holding to_write open_held opening_for still pending begun Sound
    opened_good z e =
        record {
          so_far = λ more q. answered (calendar_in file) (tables_in file) balances (day_in file) z more ∙ sym (e more);
          sound = λ q. opening_sound (calendar_in file) (tables_in file) balances (day_in file) z;
          answered = λ q. next_empty [] false refl;
          finished = λ q. absurd (true≢false (sym q));
          over_rests = λ q. absurd (true≢false (sym q));
        }

    opening_good : ((more : List ℕ) → all more ≡ written_for (opened (calendar_in file) (tables_in file) balances (day_in file)).number file more)
        → Starts (opening file balances output)
    unfolding opening written_for
    opening_good = go (opened (calendar_in file) (tables_in file) balances (day_in file)).number refl
      where
        go : (n : ℕ) → (opened (calendar_in file) (tables_in file) balances (day_in file)).number ≡ n → ((more : List ℕ) → all more ≡ written_for n file more)
            → Starts (opening_for n file (opened (calendar_in file) (tables_in file) balances (day_in file)) output)
        go zero z e = opened_good z e
        go (suc n) z e = unfold opening_for in refused_good (suc n) _ _ _ output e

-- ---- book.dat

right_size : (file : List ℕ) → length file ≡ 9220 → file_number file ≡ opening_number (calendar_in file) (tables_in file) no_balances (day_in file)
unfolding file_number
right_size file q = cond_true _ _ (eq-eqb (length file) 9220 q)

wrong_size : (file more : List ℕ) → (length file ≡ 9220 → ⊥) → written_for (file_number file) file more ≡ answer_bytes 1
unfolding file_number written_for
wrong_size file more n = ap (λ (k : ℕ). written_for k file more) (cond_false _ _ (ne_eqb (length file) 9220 n))

module _ (input calendar tables output : List ℕ) where
  first_good : (file : BookDat) → Starts (claimrun_bytes file) input (begins (handed file) calendar tables no_balances output)
  unfolding handed begins claimrun_bytes
  first_good missing = refused_good (claimrun_bytes missing) input 1 calendar tables no_balances output (λ more. refl)
  first_good (holds file) = go (eqb (length (take 9221 file)) 9220) refl
    where
      size : length (take 9221 file) ≡ 9220 → length file ≡ 9220
      size q = omega (arith, q, length-take 9221 file)

      other : (length (take 9221 file) ≡ 9220 → ⊥) → length file ≡ 9220 → ⊥
      other n q = n (omega (arith, q, length-take 9221 file))

      right : length file ≡ 9220 → (more : List ℕ)
          → written_for (file_number file) file more
          ≡ written_for (opened (calendar_in file) (tables_in file) no_balances (day_in file)).number file more
      right q more =
          ap (λ (n : ℕ). written_for n file more)
          (right_size file q ∙ sym (opened_number (calendar_in file) (tables_in file) no_balances (day_in file)))

      go : (b : Bool) → eqb (length (take 9221 file)) 9220 ≡ b
          → Starts (claimrun_bytes (holds file)) input
          (cond b (opening (take 9221 file) no_balances output)
          (record { held = refused_held; calendar = calendar; tables = tables; balances = no_balances; output = put output 0 (answer_bytes 1) }))
      go true q =
          let m = size (eqb-true (length (take 9221 file)) 9220 q) in
          subst (λ (l : List ℕ). Starts (claimrun_bytes (holds file)) input (opening l no_balances output)) (sym (take_all 9221 file (omega (arith, m))))
          (opening_good (claimrun_bytes (holds file)) input file no_balances output (right m))
      go false q =
          refused_good (claimrun_bytes (holds file)) input 1 calendar tables no_balances output
          (λ more. wrong_size file more (other (eqb-false (length (take 9221 file)) 9220 q)))

-- ---- the steps

module _ (calendar tables : List ℕ) (all : List ℕ → List ℕ) where
  steps_good : (xs : List Taken) (input written : List ℕ) (h : Holding) → Good calendar tables all input written h → AllKeep calendar tables h xs
      → (w : List ℕ) → written ≡ w ++ to_write h
      → Good calendar tables all (input ++ read_by xs) (w ++ written_by h xs) (at_last h xs)
  unfolding read_by written_by at_last
  steps_good [] input written h g k w e =
      subst (λ (l : List ℕ). Good calendar tables all l (w ++ to_write h) h) (sym (append-nil input))
      (subst (λ (l : List ℕ). Good calendar tables all input l h) e g)
  steps_good (x ∷ xs) input written h g (k, ks) w e =
      let m = steps_good xs (input ++ x.read) (written ++ to_write x.after) x.after (step_good g k) ks written refl in
      subst (λ (l : List ℕ). Good calendar tables all l (w ++ (to_write h ++ written_by x.after xs)) (at_last x.after xs))
      (append_assoc input x.read (read_by xs))
      (subst (λ (l : List ℕ). Good calendar tables all ((input ++ x.read) ++ read_by xs) l (at_last x.after xs))
      (ap (λ (l : List ℕ). l ++ written_by x.after xs) e ∙ append_assoc w (to_write h) (written_by x.after xs)) m)

  writes : (file : BookDat) (input written : List ℕ) (h : Holding) → all ≡ claimrun_bytes file → Good calendar tables all input written h
      → Writes file calendar tables input written h
  unfolding still
  writes file input written h e g =
      let so_far : (more : List ℕ) → (h.held.ended ≡ true → more ≡ []) → written ++ still calendar tables h more ≡ claimrun_bytes file (input ++ more) =
      λ more q. g.so_far more q ∙ ap (λ (f : List ℕ → List ℕ). f (input ++ more)) e in
      record {
        so_far = so_far;
        in_all = λ o more q. sym (append-nil written) ∙ ap (λ (l : List ℕ). written ++ l) (sym (cond_true _ _ o)) ∙ so_far more q;
        answered = g.answered;
        room = λ q. waiting_short (pending h) (g.answered q);
        finished = g.finished;
        works = λ x k m o. step_works g k m o;
      }

pub every_claimrun : EveryClaimrun
every_claimrun file calendar tables output input b e steps k =
    writes b.calendar b.tables (claimrun_bytes file) file (read_by steps) (written_by (at_first b input) steps) (at_last (at_first b input) steps) refl
    (steps_good b.calendar b.tables (claimrun_bytes file) steps [] (to_write (at_first b input)) (at_first b input)
    (subst (Starts (claimrun_bytes file) input) (sym e) (first_good input calendar tables output file)) k [] refl)

pub every_loop : EveryLoop
every_loop file calendar tables output input held balances input' r =
    every_claimrun file calendar tables output input (begins (handed file) calendar tables no_balances output) refl r.steps r.keep
