-- The definitions of a step by the cases that code goes through, one after the other.
use mathlib.Core.Path.{◌≡◌, refl, sym, ap, ◌∙◌}
use mathlib.Core.Bool.{Bool, true, false, not, ◌&&◌, ◌||◌}
use mathlib.Core.List.{List}
use Prim.Native.Nat.{ℕ, zero, suc, ◌+◌, ◌-◌, ◌≤◌}
use native.Mathlib.Nat.{sub-zero}
use native.Mathlib.Omega.{arith}
use lib.Dec.{eqb}
use lib.ListN.{length, take, drop, length-take}
use borrow.Author.Tests.{eq-eqb, ne_eqb}
use Rattle.lists.specs.Tests.{cond_true, cond_false}
use Rattle.lists.specs.Put.{put}
use Rattle.lists.specs.Parts.{drop_take}
use Rattle.book.specs.declared.Book.{Book}
use Rattle.book.specs.declared.Done.{Done}
use Rattle.history.specs.Results.{Opened, left_open, opened}
use Rattle.stream.specs.declared.Served.{Served}
use Rattle.stream.specs.Stream.{answer_bytes}
use Rattle.stream.specs.Serving.{Leaves, left_served, leaves}
use Rattle.stream.proofs.Bounds.{served_inside}
use Rattle.book_file.specs.BookFile.{calendar_in, tables_in, day_in}
use Rattle.program.specs.declared.Held.{Held}
use Rattle.program.specs.Steps.{Beginning, refused_held, open_held, opening_for, opening, begins, left_beginning, Holding, holding, has_ended, is_over, held_after, served_in, after_serving, resting, stepped}

-- ---- the end of the input

module _ (held : Held) (got : ℕ) where
  pub ended_before : held.ended ≡ true → true ≡ has_ended held got
  unfolding has_ended
  ended_before e = ap (λ (b : Bool). b || (held.asks && eqb got 0)) (sym e)

  pub ended_now : held.ended ≡ false → (b : Bool) → held.asks ≡ b → b && eqb got 0 ≡ has_ended held got
  unfolding has_ended
  ended_now e b a = λ i. sym e i || (sym a i && eqb got 0)

-- ---- the end of a run

module _ (s : Served) (ended : Bool) where
  pub over_unsound : (s.number ≡ 0 → ⊥) → true ≡ is_over s ended
  unfolding is_over
  over_unsound n = ap (λ (b : Bool). not b || (s.over || (ended && not s.full))) (sym (ne_eqb s.number 0 n))

  pub over_five : s.number ≡ 0 → (b : Bool) → s.over ≡ b → b || (ended && not s.full) ≡ is_over s ended
  unfolding is_over
  over_five z b o = λ i. not (sym (eq-eqb s.number 0 z) i) || (sym o i || (ended && not s.full))

  pub over_room : s.number ≡ 0 → s.over ≡ false → (b : Bool) → ended ≡ b → b && not s.full ≡ is_over s ended
  over_room z o b e = ap (λ (c : Bool). c && not s.full) (sym e) ∙ over_five z false o

pub held_is : (s : Served) (ended : Bool) (have : ℕ) (over asks : Bool) → over ≡ is_over s ended → asks ≡ not over && not s.full
    → record { book = s.book; left = have - s.consumed; written = s.written; ended = ended; over = over; asks = asks } ≡ held_after s ended have
unfolding held_after
held_is s ended have over asks o a =
    λ i. record {
      book = s.book;
      left = have - s.consumed;
      written = s.written;
      ended = ended;
      over = o i;
      asks = (a ∙ ap (λ (b : Bool). not b && not s.full) o) i;
    }

-- ---- the beginning

module _ (file calendar₀ tables₀ balances₀ output₀ : List ℕ) where
  pub begins_refused : (length file ≡ 9220 → ⊥) → (held : Held) (output : List ℕ) → (held ≡ refused_held) × (output ≡ put output₀ 0 (answer_bytes 1))
      → left_beginning held calendar₀ tables₀ balances₀ output ≡ begins file calendar₀ tables₀ balances₀ output₀
  unfolding begins left_beginning
  begins_refused n held output (h, o) =
      (λ i. record { held = h i; calendar = calendar₀; tables = tables₀; balances = balances₀; output = o i })
      ∙ sym (cond_false _ _ (ne_eqb (length file) 9220 n))

  module _ (q : length file ≡ 9220) (calendar tables balances : List ℕ) (day : ℕ) (done : Done) (c : calendar ≡ calendar_in file)
      (t : tables ≡ tables_in file) (d : day ≡ day_in file) (e : left_open done balances ≡ opened calendar tables balances₀ day) where
    o : Opened
    o = opened (calendar_in file) (tables_in file) balances₀ (day_in file)

    opens : left_open done balances ≡ o
    unfolding o
    opens = e ∙ (λ i. opened (c i) (t i) balances₀ (d i))

    number_is : done.number ≡ o.number
    unfolding left_open
    number_is = ap (λ (x : Opened). x.number) opens

    begins_for : (n : ℕ) → done.number ≡ n → opening_for n file o output₀ ≡ begins file calendar₀ tables₀ balances₀ output₀
    unfolding begins opening o
    begins_for n z = ap (λ (k : ℕ). opening_for k file o output₀) (sym z ∙ number_is) ∙ sym (cond_true _ _ (eq-eqb (length file) 9220 q))

    pub begins_opened : done.number ≡ 0
        → left_beginning (record { book = done.book; left = 0; written = 0; ended = false; over = false; asks = true }) calendar tables balances output₀
        ≡ begins file calendar₀ tables₀ balances₀ output₀
    unfolding left_beginning left_open opening_for open_held
    begins_opened z =
        (λ i. record {
          held = record { book = (opens i).book; left = 0; written = 0; ended = false; over = false; asks = true };
          calendar = c i;
          tables = t i;
          balances = (opens i).balances;
          output = output₀;
        })
        ∙ begins_for 0 z

    pub begins_number : (done.number ≡ 0 → ⊥) → (held : Held) (output : List ℕ)
        → (held ≡ refused_held) × (output ≡ put output₀ 0 (answer_bytes done.number))
        → left_beginning held calendar tables balances output ≡ begins file calendar₀ tables₀ balances₀ output₀
    unfolding left_beginning left_open opening_for
    begins_number n held output (h, w) = go done.number refl n w
      where
        go : (k : ℕ) → done.number ≡ k → (k ≡ 0 → ⊥) → output ≡ put output₀ 0 (answer_bytes k)
            → left_beginning held calendar tables balances output ≡ begins file calendar₀ tables₀ balances₀ output₀
        go zero z m v = absurd (m refl)
        go (suc k) z m v =
            (λ i. record { held = h i; calendar = c i; tables = t i; balances = (opens i).balances; output = v i }) ∙ begins_for (suc k) z

-- ---- a step

-- a run works no more than it is handed and writes no more than its output
module _ (calendar tables : List ℕ) (ended : Bool) (book : Book) (balances₀ input₀ output₀ : List ℕ) (have : ℕ) (s : Served)
    (balances output : List ℕ)
    (l : left_served s balances output ≡ leaves calendar tables ended book balances₀ (take (have - 0) (drop 0 input₀)) output₀) where
  inside : (s.consumed ≤ length (take (have - 0) input₀)) × (s.written ≤ length output₀)
  inside = served_inside calendar tables ended book balances₀ (take (have - 0) input₀) output₀ balances output s l

  pub consumed_inside : s.consumed ≤ have
  consumed_inside = omega (arith, inside.0, length-take (have - 0) input₀)

  pub rest_inside : have ≤ length input₀ → s.consumed + (have - s.consumed) ≤ length input₀
  rest_inside h = omega (arith, consumed_inside)

module _ (calendar tables : List ℕ) (held : Held) (balances₀ input₀ output₀ : List ℕ) (got : ℕ) where
  pub steps_rest : held.over ≡ true → (r : Held) → r ≡ resting held
      → holding r balances₀ input₀ output₀ ≡ stepped calendar tables (holding held balances₀ input₀ output₀) got
  unfolding stepped holding
  steps_rest o r e = ap (λ (x : Held). holding x balances₀ input₀ output₀) e ∙ sym (cond_true _ _ o)

  left_is : (ended : Bool) (s : Served) (balances output input : List ℕ) (r : Held) → r ≡ held_after s ended (held.left + got)
      → input ≡ put input₀ 0 (drop s.consumed (take (held.left + got) input₀))
      → holding r balances input output
      ≡ after_serving (holding held balances₀ input₀ output₀) ended (held.left + got) (left_served s balances output)
  unfolding holding after_serving left_served served_in
  left_is ended s balances output input r q m = λ i. record { held = q i; balances = balances; input = m i; output = output }

  pub steps_on : held.over ≡ false → (ended : Bool) → ended ≡ has_ended held got → (s : Served) (balances output : List ℕ)
      → left_served s balances output
      ≡ leaves calendar tables ended held.book balances₀ (take (held.left + got - 0) (drop 0 input₀)) output₀
      → (input : List ℕ) → input ≡ put input₀ 0 (take (held.left + got - s.consumed) (drop s.consumed input₀))
      → (r : Held) → r ≡ held_after s ended (held.left + got)
      → holding r balances input output ≡ stepped calendar tables (holding held balances₀ input₀ output₀) got
  unfolding stepped holding
  steps_on o ended e s balances output l input m r q =
      let h : Holding = holding held balances₀ input₀ output₀ in
      let have = held.left + got in
      left_is ended s balances output input r q (m ∙ ap (put input₀ 0) (sym (drop_take s.consumed have input₀)))
      ∙ ap (after_serving h ended have)
      (l ∙ ap (λ (n : ℕ). leaves calendar tables ended held.book balances₀ (take n input₀) output₀) (sub-zero have))
      ∙ ap (λ (b : Bool). after_serving h b have (leaves calendar tables b held.book balances₀ (take have input₀) output₀)) e
      ∙ sym (cond_false _ _ o)

-- ---- where the counts lie

module _ (calendar tables : List ℕ) (held : Held) (balances₀ input₀ output₀ : List ℕ) (got : ℕ) where
  abbrev run : Leaves
  run = leaves calendar tables (has_ended held got) held.book balances₀ (take (held.left + got) input₀) output₀

  run_written : run.written ≤ length output₀
  unfolding served_in left_served
  run_written =
      (served_inside calendar tables (has_ended held got) held.book balances₀ (take (held.left + got) input₀) output₀ run.balances run.output (served_in run)
      refl).1

  -- the counts of what a step leaves
  counts : (b : Bool) → held.over ≡ b
      → ((stepped calendar tables (holding held balances₀ input₀ output₀) got).held.left ≤ held.left + got)
      × ((stepped calendar tables (holding held balances₀ input₀ output₀) got).held.written ≤ length output₀)
  unfolding stepped holding resting after_serving held_after served_in has_ended
  counts true q = rw q (omega arith, omega arith)
  counts false q = rw q (omega arith, run_written)

  pub step_bounds : (r : Held) (balances input output : List ℕ)
      → holding r balances input output ≡ stepped calendar tables (holding held balances₀ input₀ output₀) got
      → held.left + got ≤ length input₀ → length input ≡ length input₀ → length output ≡ length output₀
      → (r.left ≤ length input) × (r.written ≤ length output)
  unfolding holding
  step_bounds r balances input output e h i w =
      let k = counts held.over refl in
      (omega (arith, k.0, ap (λ (x : Holding). x.held.left) e), omega (arith, k.1, ap (λ (x : Holding). x.held.written) e))

module _ (file calendar₀ tables₀ balances₀ output₀ : List ℕ) where
  begin_counts : (b : Bool) → eqb (length file) 9220 ≡ b → (n : ℕ) → (opened (calendar_in file) (tables_in file) balances₀ (day_in file)).number ≡ n
      → ((begins file calendar₀ tables₀ balances₀ output₀).held.left ≡ 0) × ((begins file calendar₀ tables₀ balances₀ output₀).held.written ≤ 6)
  unfolding begins opening opening_for refused_held open_held
  begin_counts true q zero z = rw (q, z) (refl, omega arith)
  begin_counts true q (suc n) z = rw (q, z) (refl, omega arith)
  begin_counts false q n z = rw q (refl, omega arith)

  pub begin_bounds : (r : Held) (calendar tables balances output : List ℕ)
      → left_beginning r calendar tables balances output ≡ begins file calendar₀ tables₀ balances₀ output₀ → 6 ≤ length output₀
      → length output ≡ length output₀ → (n : ℕ) → (r.left ≤ n) × (r.written ≤ length output)
  unfolding left_beginning
  begin_bounds r calendar tables balances output e h o n =
      let k = begin_counts (eqb (length file) 9220) refl (opened (calendar_in file) (tables_in file) balances₀ (day_in file)).number refl in
      (omega (arith, k.0, ap (λ (x : Beginning). x.held.left) e), omega (arith, k.1, ap (λ (x : Beginning). x.held.written) e))
