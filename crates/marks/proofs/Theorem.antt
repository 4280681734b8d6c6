-- Every trial is at the history that runs beside it. A return brings back what the book was when its mark was set. Every list of steps is a
-- trial, and on a store without a set mark any return may be asked for.
use mathlib.Core.Path.{◌≡◌, refl, sym, ap, ◌∙◌, subst}
use mathlib.Core.Bool.{Bool, true, false, cond, not, ◌||◌}
use mathlib.Core.List.{List, [], ◌∷◌, ◌++◌}
use Prim.Native.Nat.{ℕ, zero, suc, ◌≤◌}
use native.Mathlib.Omega.{arith}
use lib.ListN.{length}
use borrow.Author.Tests.{eq-eqb}
use Rattle.book.specs.declared.Done.{Done}
use Rattle.history.specs.Causes.{opening_number}
use Rattle.history.specs.Results.{Run, left, Opened, left_open, opened_for, opened, run_by, run_from}
use Rattle.history.specs.Ledger.{started, book_of, balances_of, judged}
use Rattle.history.specs.Statement.{AgreesWithLedger}
use Rattle.history.specs.Continuation.{GoesOn}
use Rattle.history.proofs.Answers.{opened_number}
use Rattle.history.proofs.StaysSound.{opened_sound}
use Rattle.history.proofs.Theorem.{every_history}
use Rattle.history.proofs.Continuation.{every_continuation}
use Rattle.marks.specs.Marks.{is_mark, mark_in, is_set}
use Rattle.marks.specs.Trials.{State, Turn, worked, mark_set, went_back, after, after_all, AllKeep, Past, Kept, unset, ended, Histories, begun, kept_at, taken_up, followed, followed_all, is_ended, may_return, AllSpoken, NoneSet, EveryUnsetStore, return_answer, AllAnswer, along, EveryTrial, EveryLaterTrial, Leaves, BringsBack, EveryReturn, work, mark, back, turn_of, turns_of, EveryListIsATrial}
use Rattle.marks.proofs.Sound.{Good}
use Rattle.marks.proofs.Turns.{Stands, step}

-- ---- a list of turns

module _ (calendar tables : List ℕ) (start : Opened) (first : List ℕ) (good : Good calendar tables start.book start.balances) where
  abbrev At : State → Histories → Type 0
  At s h = Stands calendar tables start first good s h

  steps : (turns : List Turn) (s : State) (h : Histories) → At s h → AllKeep calendar tables s turns → AllSpoken first h turns
      → AllAnswer h turns × At (after_all s turns) (followed_all h turns)
  unfolding after_all followed_all
  steps [] s h a e y = (tt, a)
  steps (t ∷ turns) s h a e y =
      let n = step calendar tables start first good s h t a e.0 y.0 in
      let r = steps turns (after s t) (followed h t) n.1 e.1 y.1 in
      ((n.0, r.0), r.1)

  -- ---- a mark and a return to it

  -- where book and balances are those of a history
  abbrev Is : Past → State → Type 0
  Is p s = along p s ≡ run_from calendar tables start p.calls

  -- the return, at last
  module _ (k : ℕ) (m : is_mark k ≡ true) (p : Past) (done : Done) (taken : List ℕ) where
    abbrev last : List Turn
    last = went_back k done taken ∷ []

    returned_at : (s : State) (h : Histories) → At s h → h.marks k ≡ ended p → AllKeep calendar tables s last → AllSpoken first h last
        → (done.number ≡ 0) × Is p (after s (went_back k done taken)) × ((followed_all h last).current ≡ p)
    unfolding followed_all followed taken_up return_answer is_ended
    returned_at s h a q e y =
        let n = step calendar tables start first good s h (went_back k done taken) a e.0 y.0 in
        let c : (taken_up (h.marks k) h).current ≡ p = rw q in
        (n.0 ∙ rw (m, q), subst (λ (p : Past). Is p (after s (went_back k done taken))) c n.1.at.run, c)

    between_turns : (between : List Turn) (s : State) (h : Histories) → At s h → h.marks k ≡ ended p → Leaves k between
        → AllKeep calendar tables s (between ++ last) → AllSpoken first h (between ++ last)
        → (done.number ≡ 0) × Is p (record { book = done.book; balances = taken; store = (after_all s between).store })
        × ((followed_all h (between ++ last)).current ≡ p)
    unfolding after_all followed_all after followed
    between_turns [] s h a q l e y = returned_at s h a q e y
    between_turns (worked call d buffer balances ∷ between) s h a q l e y =
        let t = worked call d buffer balances in
        between_turns between (after s t) (followed h t) (step calendar tables start first good s h t a e.0 y.0).1 q l e.1 y.1
    between_turns (mark_set j number store ∷ between) s h a q l e y =
        let t = mark_set j number store in
        between_turns between (after s t) (followed h t) (step calendar tables start first good s h t a e.0 y.0).1 (go (is_mark j)) l.1 e.1 y.1
      where
        go : (b : Bool) → (cond b (kept_at j h) h).marks k ≡ ended p
        go false = q
        go true = unfold kept_at in rw l.0 q
    between_turns (went_back j d balances ∷ between) s h a q l e y =
        let t = went_back j d balances in
        between_turns between (after s t) (followed h t) (step calendar tables start first good s h t a e.0 y.0).1 (go (h.marks j)) l e.1 y.1
      where
        go : (x : Kept) → (taken_up x h).marks k ≡ ended p
        go unset = unfold taken_up in q
        go (ended o) = unfold taken_up in q

  before_turns : (before : List Turn) (k number : ℕ) (marks : List ℕ) (between : List Turn) (done : Done) (taken : List ℕ) → is_mark k ≡ true → Leaves k between
      → (s : State) (h : Histories) → At s h
      → (let whole = before ++ (mark_set k number marks ∷ (between ++ (went_back k done taken ∷ []))) in
      AllKeep calendar tables s whole → AllSpoken first h whole → BringsBack (after_all s before) (followed_all h before) done taken (followed_all h whole))
  unfolding after_all followed_all
  before_turns [] k number marks between done taken m l s h a e y =
      let t = mark_set k number marks in
      let n = (step calendar tables start first good s h t a e.0 y.0).1 in
      let r = between_turns k m h.current done taken between (after s t) (followed h t) n kept l e.1 y.1 in
      let q = r.1 ∙ sym a.at.run in
      record { number = r.0; book = book_of_lem q; balances = balances_of_lem q; history = r.2 }
    where
      kept : (followed h (mark_set k number marks)).marks k ≡ ended h.current
      kept = unfold followed kept_at in rw (m, eq-eqb k k refl)

      book_of_lem : along h.current (record { book = done.book; balances = taken; store = (after_all (after s (mark_set k number marks)) between).store }) ≡ along h.current s
          → done.book ≡ s.book
      book_of_lem q = unfold along in ap (λ (r : Run). r.book) q

      balances_of_lem : along h.current (record { book = done.book; balances = taken; store = (after_all (after s (mark_set k number marks)) between).store }) ≡ along h.current s
          → taken ≡ s.balances
      balances_of_lem q = unfold along in ap (λ (r : Run). r.balances) q
  before_turns (t ∷ before) k number marks between done taken m l s h a e y =
      before_turns before k number marks between done taken m l (after s t) (followed h t) (step calendar tables start first good s h t a e.0 y.0).1 e.1 y.1

-- ---- where a trial begins

begins : (calendar tables : List ℕ) (start : Opened) (store : List ℕ) (good : Good calendar tables start.book start.balances) → length store ≡ 32780
    → Stands calendar tables start store good (record { book = start.book; balances = start.balances; store = store }) begun
unfolding along run_from run_by begun
begins calendar tables start store good l = record { at = record { run = refl; words = l; marks = λ k m. refl }; outside = λ k m. refl }

-- ---- behind an accepted opening

opening_count : (balances : List ℕ) (day n : ℕ) → (opened_for n balances day).book.count ≤ 4294967295
unfolding opened_for
opening_count balances day zero = omega arith
opening_count balances day (suc n) = omega arith

module _ (calendar tables balances : List ℕ) (day : ℕ) (opening : Done) (cleared : List ℕ)
    (e : left_open opening cleared ≡ opened calendar tables balances day) (z : opening.number ≡ 0) (store : List ℕ) (l : length store ≡ 32780) where
  abbrev start : Opened
  start = opened calendar tables balances day

  accepted : start.number ≡ 0
  unfolding left_open
  accepted = sym (ap (λ (o : Opened). o.number) e) ∙ z

  good : Good calendar tables start.book start.balances
  unfolding opened
  good =
      record {
        sound = opened_sound calendar tables balances day (sym (opened_number calendar tables balances day) ∙ accepted);
        counted = opening_count balances day (opening_number calendar tables balances day);
      }

  abbrev first : State
  first = record { book = opening.book; balances = cleared; store = store }

  stands : Stands calendar tables start store good first begun
  unfolding left_open
  stands =
      subst (λ (o : Opened). Stands calendar tables start store good (record { book = o.book; balances = o.balances; store = store }) begun) (sym e)
      (begins calendar tables start store good l)

pub every_trial : EveryTrial
every_trial calendar tables balances day opening cleared e z store l turns all spoken =
    let g = good calendar tables balances day opening cleared e z store l in
    let a = stands calendar tables balances day opening cleared e z store l in
    let s : State = record { book = opening.book; balances = cleared; store = store } in
    let o = opened calendar tables balances day in
    let r = steps calendar tables o store g turns s begun a all spoken in
    let calls = (followed_all begun turns).current.calls in (
      r.0,
      r.1.at,
      subst (λ (x : Run). AgreesWithLedger calendar tables day calls x (judged calendar tables (started day) calls)) (sym r.1.at.run)
          (every_history calendar tables balances day (accepted calendar tables balances day opening cleared e z store l) calls),
    )

pub every_later_trial : EveryLaterTrial
unfolding book_of
every_later_trial calendar tables before k z c store l turns all spoken =
    let o : Opened = record { number = 0; book = book_of before; balances = balances_of before } in
    let g : Good calendar tables o.book o.balances = record { sound = z; counted = c } in
    let s : State = record { book = book_of before; balances = balances_of before; store = store } in
    let a : Stands calendar tables o store g s begun = begins calendar tables o store g l in
    let r = steps calendar tables o store g turns s begun a all spoken in
    let calls = (followed_all begun turns).current.calls in (
      r.0,
      r.1.at,
      subst (λ (x : Run). GoesOn calendar tables before calls x (judged calendar tables before calls)) (sym r.1.at.run)
          (unfold run_from in every_continuation calendar tables before k calls),
    )

pub every_return : EveryReturn
every_return calendar tables s z c l before k number marks between done taken m leaves all spoken =
    let o : Opened = record { number = 0; book = s.book; balances = s.balances } in
    let g : Good calendar tables o.book o.balances = record { sound = z; counted = c } in
    before_turns calendar tables o s.store g before k number marks between done taken m leaves s begun (begins calendar tables o s.store g l) all spoken

-- ---- every list of steps, and stores without a set mark

pub every_list_is_a_trial : EveryListIsATrial
unfolding turns_of
every_list_is_a_trial calendar tables s [] = tt
every_list_is_a_trial calendar tables s (work call ∷ steps) = (unfold turn_of left in refl, every_list_is_a_trial calendar tables (after s (turn_of calendar tables s (work call))) steps)
every_list_is_a_trial calendar tables s (mark k ∷ steps) = (unfold turn_of in refl, every_list_is_a_trial calendar tables (after s (turn_of calendar tables s (mark k))) steps)
every_list_is_a_trial calendar tables s (back k ∷ steps) = (unfold turn_of left_open in refl, every_list_is_a_trial calendar tables (after s (turn_of calendar tables s (back k))) steps)

any_return : (store : List ℕ) → NoneSet store → (h : Histories) (k : ℕ) → may_return store h k ≡ true
unfolding may_return
any_return store n h k = go (is_ended (h.marks k)) (is_mark k) refl
  where
    go : (a b : Bool) → is_mark k ≡ b → (a || not (is_set (mark_in store k))) || not b ≡ true
    go true b m = refl
    go false true m = rw (n k m)
    go false false m = or_last (not (is_set (mark_in store k)))
      where
        or_last : (c : Bool) → (false || c) || true ≡ true
        or_last true = refl
        or_last false = refl

pub every_unset_store : EveryUnsetStore
every_unset_store store n h [] = tt
every_unset_store store n h (worked call done buffer balances ∷ turns) =
    (tt, every_unset_store store n (followed h (worked call done buffer balances)) turns)
every_unset_store store n h (mark_set k number words ∷ turns) = (tt, every_unset_store store n (followed h (mark_set k number words)) turns)
every_unset_store store n h (went_back k done balances ∷ turns) =
    (any_return store n h k, every_unset_store store n (followed h (went_back k done balances)) turns)
