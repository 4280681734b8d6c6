-- What each turn of a trial keeps: the book is at the history that runs beside the trial, and the store holds the histories that ended at the
-- marks.
use mathlib.Core.Path.{◌≡◌, refl, sym, ap, ◌∙◌, subst}
use mathlib.Core.Bool.{Bool, true, false, cond, not, ◌||◌, true≢false}
use mathlib.Core.List.{List, [], ◌∷◌, ◌++◌}
use Prim.Native.Nat.{ℕ, suc}
use native.Mathlib.Omega.{arith}
use lib.Dec.{eqb}
use lib.ListN.{length}
use borrow.Author.Tests.{eqb-true, eqb-false, ne_eqb}
use Rattle.lists.specs.Put.{put}
use Rattle.book.specs.declared.Done.{Done}
use Rattle.history.specs.Calls.{Call}
use Rattle.history.specs.Results.{Result, Run, Gives, left, result, Opened, left_open, run_by, run, followed_by, run_from}
use Rattle.history.proofs.Runs.{run_append}
use Rattle.marks.specs.Marks.{is_mark, place_of, mark_in, is_set, day_in, count_in, balances_in, words_for, Marked, left_mark, marked_for, marked, held_by, return_number, returned_for, returned, bad_mark}
use Rattle.marks.specs.Trials.{State, Turn, worked, mark_set, went_back, after, Keeps, Past, Kept, unset, ended, Histories, went_on, kept_at, taken_up, followed, is_ended, may_return, Spoken, set_answer, return_answer, Answers, along, Holds, AtHistory}
use Rattle.marks.proofs.Words.{written_length, written_mark, other_mark}
use Rattle.marks.proofs.Sound.{Good, good_run, good_balances, set_number_lem, return_outside, return_mark, words_good, unset_bad}

-- ---- what every turn keeps

module _ (calendar tables : List ℕ) (start : Opened) (first : List ℕ) (good : Good calendar tables start.book start.balances) where
  abbrev run_of : Past → Run
  run_of p = run_from calendar tables start p.calls

  pub record Stands (s : State) (h : Histories) : Type 0 where
    pub at : AtHistory calendar tables start first s h
    pub outside : (k : ℕ) → is_mark k ≡ false → h.marks k ≡ unset

  good_past : (p : Past) → Good calendar tables (run_of p).book (run_of p).balances
  unfolding run_from
  good_past p = good_run calendar tables p.calls start.book start.balances good

  good_stands : (s : State) (h : Histories) → Stands s h → Good calendar tables s.book s.balances
  unfolding along
  good_stands s h k = subst (λ (r : Run). Good calendar tables r.book r.balances) (sym k.at.run) (good_past h.current)

  -- ---- a transfer or a close

  step_run : (p : Past) (s : State) (call : Call) (done : Done) (buffer balances : List ℕ) → along p s ≡ run_of p
      → Gives calendar tables s.book s.balances call done buffer balances
      → along (went_on p call (left done buffer balances).answer) (after s (worked call done buffer balances))
      ≡ run_of (went_on p call (left done buffer balances).answer)
  unfolding along went_on after run_from run_by followed_by left
  step_run p s call done buffer balances r g =
      ap (λ (x : Result). record { answers = p.answers ++ (x.answer ∷ []); book = x.answer.book; balances = x.balances }) g
      ∙ ap (λ (r : Run). followed_by r (run calendar tables r.book r.balances (call ∷ []))) r
      ∙ sym (run_append (result calendar tables) start.book start.balances p.calls (call ∷ []))

  step_work : (s : State) (h : Histories) (call : Call) (done : Done) (buffer balances : List ℕ) → Stands s h
      → Gives calendar tables s.book s.balances call done buffer balances
      → (let t = worked call done buffer balances in Stands (after s t) (followed h t))
  unfolding after followed
  step_work s h call done buffer balances k g =
      record {
        at = record { run = step_run h.current s call done buffer balances k.at.run g; words = k.at.words; marks = k.at.marks };
        outside = k.outside;
      }

  -- ---- setting a mark

  step_set : (s : State) (h : Histories) (k : ℕ) (b : Bool) → is_mark k ≡ b → Stands s h → (number : ℕ) (store : List ℕ)
      → left_mark number store ≡ marked_for (cond b 0 16) s.book s.balances s.store k
      → (number ≡ cond b 0 16) × Stands (record { book = s.book; balances = s.balances; store = store }) (cond b (kept_at k h) h)
  unfolding marked_for along
  step_set s h k false m a number store e = (
    ap (λ (x : Marked). x.number) e,
    record {
      at = record {
        run = a.at.run;
        words = ap length (ap (λ (x : Marked). x.store) e) ∙ a.at.words;
        marks = λ j n. subst (λ (l : List ℕ). Holds calendar tables start (mark_in first j) (h.marks j) (mark_in l j)) (sym (ap (λ (x : Marked). x.store) e)) (a.at.marks j n);
      };
      outside = a.outside;
    },
  )
  step_set s h k true m a number store e = (ap (λ (x : Marked). x.number) e, subst (λ (l : List ℕ). Stands (record { book = s.book; balances = s.balances; store = l }) (kept_at k h)) (sym (ap (λ (x : Marked). x.store) e)) set_stands)
    where
      words : List ℕ
      words = words_for s.book s.balances

      long : length words ≡ 8195
      long = unfold words_for in omega (arith, good_balances calendar tables s.book s.balances (good_stands s h a))

      held : (j : ℕ) → is_mark j ≡ true → (b : Bool) → eqb j k ≡ b
          → Holds calendar tables start (mark_in first j) (cond b (ended h.current) (h.marks j)) (mark_in (put s.store (place_of k) words) j)
      held j n true q = unfold along in (
        ap (mark_in (put s.store (place_of k) words)) (eqb-true j k q) ∙ written_mark s.store words a.at.words long k m
            ∙ ap (λ (r : Run). words_for r.book r.balances) a.at.run,
        ap (λ (r : Run). r.answers) a.at.run,
      )
      held j n false q =
          subst (λ (l : List ℕ). Holds calendar tables start (mark_in first j) (h.marks j) l)
          (sym (other_mark s.store words a.at.words long k m j n (eqb-false j k q))) (a.at.marks j n)

      set_stands : Stands (record { book = s.book; balances = s.balances; store = put s.store (place_of k) words }) (kept_at k h)
      set_stands = unfold kept_at along in record {
        at = record {
          run = a.at.run;
          words = written_length s.store words a.at.words long k m;
          marks = λ j n. held j n (eqb j k) refl;
        };
        outside = λ j o. rw (ne_eqb j k (λ q. true≢false (sym (ap is_mark q ∙ m) ∙ o))) (a.outside j o);
      }

  -- ---- going back

  abbrev Resumes : State → Histories → ℕ → Done → List ℕ → Type 0
  Resumes s h k done balances =
      (done.number ≡ return_answer h k)
      × Stands (record { book = done.book; balances = balances; store = s.store }) (taken_up (h.marks k) h)

  -- refused
  stays : (s : State) (h : Histories) (n : ℕ) (words : List ℕ) → Stands s h → (done : Done) (balances : List ℕ)
      → left_open done balances ≡ returned_for (suc n) s.book s.balances words
      → (done.number ≡ suc n) × Stands (record { book = done.book; balances = balances; store = s.store }) h
  unfolding returned_for left_open
  stays s h n words a done balances e = (
    ap (λ (o : Opened). o.number) e,
    subst (λ (o : Opened). Stands (record { book = o.book; balances = o.balances; store = s.store }) h) (sym e) a,
  )

  -- accepted: the history that the mark keeps
  resumes : (s : State) (h : Histories) (k : ℕ) (p : Past) → is_mark k ≡ true → Stands s h → h.marks k ≡ ended p → (done : Done) (balances : List ℕ)
      → left_open done balances ≡ returned calendar s.book s.balances s.store k → Resumes s h k done balances
  unfolding left_open returned return_answer taken_up is_ended
  resumes s h k p m a q done balances e = rw (m, q) (ap (λ (o : Opened). o.number) is, stands)
    where
      w : (mark_in s.store k ≡ words_for (run_of p).book (run_of p).balances) × (p.answers ≡ (run_of p).answers)
      w = subst (λ (t : Kept). Holds calendar tables start (mark_in first k) t (mark_in s.store k)) q (a.at.marks k m)

      number : return_number calendar s.book s.balances s.store k ≡ 0
      number =
          return_mark calendar tables s.book s.balances (good_stands s h a) s.store k a.at.words m
          ∙ ap (λ (l : List ℕ). cond (bad_mark calendar l) 17 0) w.0 ∙ rw (words_good calendar tables (run_of p).book (run_of p).balances (good_past p))

      is : left_open done balances ≡ record { number = 0; book = (run_of p).book; balances = (run_of p).balances }
      is = unfold left_open returned returned_for held_by words_for day_in count_in balances_in in
          (e ∙ ap (λ (n : ℕ). returned_for n s.book s.balances (mark_in s.store k)) number ∙ ap held_by w.0)

      stands : Stands (record { book = done.book; balances = balances; store = s.store }) (record { current = p; marks = h.marks })
      stands = unfold left_open along in record {
        at = record {
          run = (λ i. record { answers = w.1 i; book = (is i).book; balances = (is i).balances });
          words = a.at.words;
          marks = a.at.marks;
        };
        outside = a.outside;
      }

  -- an unset mark
  refuses : (s : State) (h : Histories) (k : ℕ) → is_mark k ≡ true → Stands s h → h.marks k ≡ unset → may_return first h k ≡ true
      → (done : Done) (balances : List ℕ) → left_open done balances ≡ returned calendar s.book s.balances s.store k → Resumes s h k done balances
  unfolding returned return_answer taken_up is_ended may_return
  refuses s h k m a q y done balances e =
      rw (m, q) (stays s h 16 (mark_in s.store k) a done balances (e ∙ ap (λ (n : ℕ). returned_for n s.book s.balances (mark_in s.store k)) number))
    where
      unset_first : (b : Bool) → (false || not b) || not true ≡ true → b ≡ false
      unset_first false z = refl
      unset_first true z = cc

      number : return_number calendar s.book s.balances s.store k ≡ 17
      number =
          let w : mark_in s.store k ≡ mark_in first k = subst (λ (t : Kept). Holds calendar tables start (mark_in first k) t (mark_in s.store k)) q (a.at.marks k m) in
          let z : is_set (mark_in first k) ≡ false = unset_first (is_set (mark_in first k)) (sym (unfold may_return is_ended in rw (m, q)) ∙ y) in
          return_mark calendar tables s.book s.balances (good_stands s h a) s.store k a.at.words m
          ∙ rw (unset_bad calendar (mark_in s.store k) (ap is_set w ∙ z))

  -- ---- every turn

  step_mark : (s : State) (h : Histories) (k number : ℕ) (store : List ℕ) → Stands s h → Keeps calendar tables s (mark_set k number store)
      → (let t = mark_set k number store in Answers h t × Stands (after s t) (followed h t))
  unfolding marked set_answer after followed
  step_mark s h k number store a e =
      step_set s h k (is_mark k) refl a number store
      (e ∙ ap (λ (n : ℕ). marked_for n s.book s.balances s.store k)
      (set_number_lem calendar tables s.book s.balances (good_stands s h a) s.store k a.at.words))

  step_back : (s : State) (h : Histories) (k : ℕ) (b : Bool) (t : Kept) → is_mark k ≡ b → h.marks k ≡ t → may_return first h k ≡ true → Stands s h
      → (done : Done) (balances : List ℕ) → left_open done balances ≡ returned calendar s.book s.balances s.store k → Resumes s h k done balances
  unfolding returned return_answer taken_up
  step_back s h k false t m q y a done balances e =
      let number = return_outside calendar tables s.book s.balances (good_stands s h a) s.store k a.at.words m in
      rw (m, a.outside k m)
      (stays s h 15 (mark_in s.store k) a done balances (e ∙ ap (λ (n : ℕ). returned_for n s.book s.balances (mark_in s.store k)) number))
  step_back s h k true unset m q y a done balances e = refuses s h k m a q y done balances e
  step_back s h k true (ended p) m q y a done balances e = resumes s h k p m a q done balances e

  pub step : (s : State) (h : Histories) (t : Turn) → Stands s h → Keeps calendar tables s t → Spoken first h t
      → Answers h t × Stands (after s t) (followed h t)
  unfolding after followed
  step s h (worked call done buffer balances) a e y = (tt, step_work s h call done buffer balances a e)
  step s h (mark_set k number store) a e y = step_mark s h k number store a e
  step s h (went_back k done balances) a e y = step_back s h k (is_mark k) (h.marks k) refl refl y a done balances e
