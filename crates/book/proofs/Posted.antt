-- Posting an accepted transfer keeps the balances sound; before it, the laws of the code that gives the numbers 14, 15, 7 and 8 and posts.
use mathlib.Core.Path.{◌≡◌, refl, sym, ap, ◌∙◌, subst}
use mathlib.Core.Logic.{◌↔◌}
use mathlib.Core.Bool.{Bool, true, false, cond, not, ◌||◌}
use mathlib.Core.List.{List, [], ◌∷◌}
use Prim.Native.Nat.{ℕ, zero, suc, ◌+◌, ◌-◌, ◌%◌, ◌≤◌, ◌<◌}
use native.Mathlib.Nat.{add-zero, zero-add, add-suc, suc-add}
use native.Mathlib.Omega.{arith}
use lib.Dec.{eqb, leb, ltb}
use lib.ListN.{length, get_or, set, length-set}
use borrow.Author.Tests.{lt-ltb, le-ltb, ltb-true, ltb-false, le-leb, leb-true, eqb-true, eqb-false, eq-eqb, ne_eqb, not-false}
use Rattle.lists.specs.Tests.{and_left, and_right, and_both, cond_true}
use Rattle.lists.specs.First.{NoneApplies, first_of, numbered, applies_at, cleared_by, first_none, hit, skip, none}
use Rattle.lists.proofs.First.{cleared}
use Rattle.days.specs.MemoDay.{memo_day, before_memo}
use Rattle.records.specs.declared.Transfer.{Transfer}
use Rattle.securities.specs.Lent.{piece_of}
use Rattle.book.specs.declared.Position.{Position}
use Rattle.book.specs.Book.{InRange, word, position, balance_at}
use Rattle.book.specs.declared.Change.{Change}
use Rattle.book.specs.declared.Change.TheVariants.{Unchanged as unchanged, Increase as increase, Decrease as decrease}
use Rattle.book.specs.Loans.{tracking_of, step_of, increasing, decreasing, by_sender, by_receiver, change_of, changed, above_balance, past_limit, loan_causes, clears_balance, off_piece, lends_early, posting_causes}
use Rattle.book.specs.Soundness.{good_balance, good_balances_from, bad_balances}
use Rattle.book.proofs.Words.{position_word, word_bound}
use Rattle.book.proofs.Judged.{sound_balances}

-- ---- the change that a code asks for

-- lending or repo
pub tracking_range : (code : ℕ) → tracking_of code < 2
unfolding tracking_of
tracking_range code = go (ltb 6 code)
  where
    go : (b : Bool) → cond b 1 0 < 2
    go true = omega arith
    go false = omega arith

module _ (t : Transfer) where
  change_increase : increasing (step_of t.code) ≡ true → change_of t ≡ increase (by_sender t)
  unfolding change_of
  change_increase e = cond_true _ _ e

  change_decrease : increasing (step_of t.code) ≡ false → decreasing (step_of t.code) ≡ true → change_of t ≡ decrease (by_receiver t)
  unfolding change_of
  change_decrease e f = rw (e, f)

  change_none : increasing (step_of t.code) ≡ false → decreasing (step_of t.code) ≡ false → change_of t ≡ unchanged
  unfolding change_of
  change_none e f = rw (e, f)

-- a code that decreases does not increase
decreases_only : (n : ℕ) → decreasing n ≡ true → increasing n ≡ false
unfolding increasing decreasing
decreases_only n e = go (eqb n 2) refl (eqb n 3) refl e
  where
    go : (a : Bool) → eqb n 2 ≡ a → (b : Bool) → eqb n 3 ≡ b → (a || b || eqb n 6) ≡ true → (eqb n 1 || eqb n 4 || eqb n 5) ≡ false
    go true p b q e = rw (eqb-true n 2 p)
    go false p true q e = rw (eqb-true n 3 q)
    go false p false q e = rw (eqb-true n 6 e)

-- the codes by their numbers
module _ {n : ℕ} where
  pub adds_first : n ≡ 1 → increasing n ≡ true
  unfolding increasing
  adds_first e = rw e

  pub adds : 4 ≤ n → n ≤ 5 → increasing n ≡ true
  unfolding increasing
  adds a b = go (eqb n 4) refl
    where
      go : (b : Bool) → eqb n 4 ≡ b → (eqb n 1 || eqb n 4 || eqb n 5) ≡ true
      go true q = rw (eqb-true n 4 q)
      go false q = let d = eqb-false n 4 q in let e : n ≡ 5 = omega arith in rw e

  pub takes : 2 ≤ n → n ≤ 3 → decreasing n ≡ true
  unfolding decreasing
  takes a b = go (eqb n 2) refl
    where
      go : (b : Bool) → eqb n 2 ≡ b → (eqb n 2 || eqb n 3 || eqb n 6) ≡ true
      go true q = rw (eqb-true n 2 q)
      go false q = let d = eqb-false n 2 q in let e : n ≡ 3 = omega arith in rw e

  pub takes_last : n ≡ 6 → decreasing n ≡ true
  unfolding decreasing
  takes_last e = rw e

-- the change that is asked for, by the tracking of the code and its place there
module _ (t : Transfer) (tracking step : ℕ) (k : tracking ≡ tracking_of t.code) (n : step ≡ step_of t.code) where
  pub asks_increase : increasing step ≡ true
      → increase (record { tracking = tracking; security = t.security; lender = t.sender; borrower = t.receiver }) ≡ change_of t
  unfolding by_sender
  asks_increase e = rw k (sym (change_increase t (sym (ap increasing n) ∙ e)))

  pub asks_decrease : decreasing step ≡ true
      → decrease (record { tracking = tracking; security = t.security; lender = t.receiver; borrower = t.sender }) ≡ change_of t
  unfolding by_receiver
  asks_decrease e =
      rw k (sym (change_decrease t (sym (ap increasing n) ∙ decreases_only step e) (sym (ap decreasing n) ∙ e)))

  pub asks_nothing : ((m : ℕ) → 1 ≤ m → m ≤ 6 → step ≡ m → ⊥) → unchanged ≡ change_of t
  unfolding increasing decreasing
  asks_nothing o =
      let away : (m : ℕ) → 1 ≤ m → m ≤ 6 → eqb (step_of t.code) m ≡ false = λ m a b. ne_eqb _ m (λ e. o m a b (n ∙ e)) in
      sym
      (change_none t
      (rw (away 1 (omega arith) (omega arith), away 4 (omega arith) (omega arith), away 5 (omega arith) (omega arith)) refl)
      (rw (away 2 (omega arith) (omega arith), away 3 (omega arith) (omega arith), away 6 (omega arith) (omega arith)) refl))

-- ---- numbers 7 and 8

module _ (balances : List ℕ) (t : Transfer) where
  module _ {p : Position} {v : ℕ} (e : change_of t ≡ increase p) (k : v ≡ balance_at balances p) where
    not_above : above_balance balances (change_of t) t.par ≡ false
    unfolding above_balance
    not_above = rw e

    pub increase_past : 9000000000 - t.par < v → 8 ≡ first_of (loan_causes balances t)
    unfolding loan_causes past_limit
    increase_past h = skip 7 _ not_above (hit 8 _ (rw (e, ← k) (lt-ltb 9000000000 (v + t.par) (omega arith))))

    pub increase_within : t.par ≤ 9000000000 → v ≤ 9000000000 - t.par → ◌≡◌ {A = ℕ} 0 (first_of (loan_causes balances t))
    unfolding loan_causes past_limit
    increase_within s h = skip 7 _ not_above (skip 8 _ (rw (e, ← k) (le-ltb 9000000000 (v + t.par) (omega arith))) none)

  module _ {p : Position} {v : ℕ} (e : change_of t ≡ decrease p) (k : v ≡ balance_at balances p) where
    pub decrease_above : v < t.par → 7 ≡ first_of (loan_causes balances t)
    unfolding loan_causes above_balance
    decrease_above h = hit 7 _ (rw (e, ← k) (lt-ltb v t.par h))

    pub decrease_within : t.par ≤ v → ◌≡◌ {A = ℕ} 0 (first_of (loan_causes balances t))
    unfolding loan_causes above_balance past_limit
    decrease_within h = skip 7 _ (rw (e, ← k) (le-ltb v t.par h)) (skip 8 _ (rw e refl) none)

  pub unchanged_accepted : change_of t ≡ unchanged → ◌≡◌ {A = ℕ} 0 (first_of (loan_causes balances t))
  unfolding loan_causes above_balance past_limit
  unchanged_accepted e = rw e (skip 7 _ refl (skip 8 _ refl none))

-- ---- number 14

-- only a decrease clears a balance
pub no_decrease : (balances : List ℕ) (par : ℕ) (c : Change) → ((p : Position) → c ≡ decrease p → ⊥) → false ≡ clears_balance balances c par
unfolding clears_balance
no_decrease balances par unchanged n = refl
no_decrease balances par (increase p) n = refl
no_decrease balances par (decrease p) n = absurd (n p refl)

module _ (pieces balances : List ℕ) (t : Transfer) where
  pub on_piece : t.par % piece_of pieces t.security ≡ 0 → false ≡ off_piece pieces balances t
  unfolding off_piece
  on_piece e = rw (eq-eqb (t.par % piece_of pieces t.security) 0 e)

  module _ (o : t.par % piece_of pieces t.security ≡ 0 → ⊥) where
    by_balance : not (clears_balance balances (change_of t) t.par) ≡ off_piece pieces balances t
    unfolding off_piece
    by_balance = rw (ne_eqb (t.par % piece_of pieces t.security) 0 o)

    -- a decrease: its balance decides
    pub off_decrease : (w : ℕ) → decreasing (step_of t.code) ≡ true → w ≡ word (by_receiver t)
        → not (eqb (get_or balances w 0) t.par) ≡ off_piece pieces balances t
    unfolding clears_balance balance_at
    off_decrease w f k = rw (k) (subst (λ (c : Change). not (clears_balance balances c t.par) ≡ off_piece pieces balances t) (change_decrease t (decreases_only _ f) f) by_balance)

    -- any other transfer
    pub off_other : decreasing (step_of t.code) ≡ false → true ≡ off_piece pieces balances t
    unfolding clears_balance
    off_other f = go (increasing (step_of t.code)) refl
      where
        go : (b : Bool) → increasing (step_of t.code) ≡ b → true ≡ off_piece pieces balances t
        go true e = subst (λ (c : Change). not (clears_balance balances c t.par) ≡ off_piece pieces balances t) (change_increase t e) by_balance
        go false e = subst (λ (c : Change). not (clears_balance balances c t.par) ≡ off_piece pieces balances t) (change_none t e f) by_balance

  -- where none of 14, 15, 7 and 8 applies, neither of 7 and 8 does
  pub posting_clear : (day : ℕ) → NoneApplies (posting_causes pieces day balances t) → first_of (loan_causes balances t) ≡ 0
  unfolding posting_causes loan_causes applies_at
  posting_clear day n =
      let cs = posting_causes pieces day balances t in
      first_none (loan_causes balances t) (cleared_by 7 cs n, (cleared_by 8 cs n, tt))

-- ---- number 15

-- in other words: the day is before the memo, and the code is 1 to 6
pub early_words : (day code : ℕ) → (lends_early day code ≡ true) ↔ ((day < memo_day) × (1 ≤ code) × (code ≤ 6))
unfolding lends_early before_memo
early_words day code = (
  λ e. let r = and_right (ltb day memo_day) _ e in (
    ltb-true day memo_day (and_left _ _ e),
    leb-true 1 code (and_left _ _ r),
    leb-true code 6 (and_right (leb 1 code) _ r),
  ),
  λ h. rw (lt-ltb day memo_day h.0, le-leb 1 code h.1, le-leb code 6 h.2),
)

-- ---- an accepted transfer

module _ (balances : List ℕ) (t : Transfer) {p : Position} (n : first_of (loan_causes balances t) ≡ 0) where
  pub increase_fits : change_of t ≡ increase p → balance_at balances p + t.par ≤ 9000000000
  unfolding loan_causes numbered applies_at past_limit
  increase_fits e =
      ltb-false 9000000000 (balance_at balances p + t.par)
      (subst (λ (c : Change). past_limit balances c t.par ≡ false) e (cleared 8 (loan_causes balances t) refl n))

  pub decrease_fits : change_of t ≡ decrease p → t.par ≤ balance_at balances p
  unfolding loan_causes numbered applies_at above_balance
  decrease_fits e =
      ltb-false (balance_at balances p) t.par
      (subst (λ (c : Change). above_balance balances c t.par ≡ false) e (cleared 7 (loan_causes balances t) refl n))

-- ---- the balances after it

module _ (balances : List ℕ) (t : Transfer) where
  module _ {p : Position} {w : ℕ} (k : w ≡ word p) where
    pub posted_increase : change_of t ≡ increase p → set balances w (get_or balances w 0 + t.par) ≡ changed balances (change_of t) t.par
    unfolding changed balance_at
    posted_increase e = rw (e, k)

    pub posted_decrease : change_of t ≡ decrease p → set balances w (get_or balances w 0 - t.par) ≡ changed balances (change_of t) t.par
    unfolding changed balance_at
    posted_decrease e = rw (e, k)

  pub posted_none : change_of t ≡ unchanged → balances ≡ changed balances (change_of t) t.par
  unfolding changed
  posted_none e = rw e

-- ---- the position that it changes

-- a change of nothing, or of a position of the book
abbrev Within : Change → Type 0
Within unchanged = Unit {0}
Within (increase p) = InRange p
Within (decrease p) = InRange p

module _ (t : Transfer) (s : t.sender < 16) (r : t.receiver < 16) (y : t.security < 16) where
  within : Within (change_of t)
  unfolding by_sender by_receiver
  within = go (increasing (step_of t.code)) refl (decreasing (step_of t.code)) refl
    where
      go : (a : Bool) → increasing (step_of t.code) ≡ a → (b : Bool) → decreasing (step_of t.code) ≡ b → Within (change_of t)
      go true e b f = subst Within (sym (change_increase t e)) (record { tracking = tracking_range t.code; security = y; lender = s; borrower = r })
      go false e true f = subst Within (sym (change_decrease t e f)) (record { tracking = tracking_range t.code; security = y; lender = r; borrower = s })
      go false e false f = subst Within (sym (change_none t e f)) tt

  module _ {p : Position} {c : Change} {w : ℕ} (a : c ≡ change_of t) where
    pub increase_word : c ≡ increase p → w ≡ word p → w < 8192
    increase_word e k = let h = word_bound p (subst Within (sym a ∙ e) within) in omega (arith, h, k)

    pub decrease_word : c ≡ decrease p → w ≡ word p → w < 8192
    decrease_word e k = let h = word_bound p (subst Within (sym a ∙ e) within) in omega (arith, h, k)

-- ---- the balances stay sound

good_set : (w : ℕ) (pars : List ℕ) (k v : ℕ) → good_balances_from w pars ≡ true → good_balance (position (w + k)) v ≡ true
    → good_balances_from w (set pars k v) ≡ true
unfolding good_balances_from
good_set w [] k v g e = refl
good_set w (par ∷ pars) zero v g e =
    and_both (subst (λ (n : ℕ). good_balance (position n) v ≡ true) (add-zero w) e) (and_right (good_balance (position w) par) _ g)
good_set w (par ∷ pars) (suc k) v g e =
    and_both (and_left (good_balance (position w) par) (good_balances_from (suc w) pars) g)
    (good_set (suc w) pars k v (and_right (good_balance (position w) par) _ g)
    (subst (λ (n : ℕ). good_balance (position n) v ≡ true) (add-suc w k ∙ sym (suc-add w k)) e))

-- one position of two accounts written with a balance that is not too large
written : (balances : List ℕ) (p : Position) (v : ℕ) → bad_balances balances ≡ false → InRange p → (p.lender ≡ p.borrower → ⊥) → v ≤ 9000000000
    → bad_balances (set balances (word p) v) ≡ false
unfolding bad_balances good_balance
written balances p v g r n h =
    ap not
    (good_set 0 balances (word p) v (not-false _ g)
    (subst (λ (q : Position). good_balance q v ≡ true) (sym (position_word p r) ∙ ap position (sym (zero-add (word p))))
    (and_both (le-leb v 9000000000 h) (rw (ne_eqb p.lender p.borrower n)))))

pub posted_length : (balances : List ℕ) (t : Transfer) → length (changed balances (change_of t) t.par) ≡ length balances
unfolding changed
posted_length balances t = go (change_of t)
  where
    go : (c : Change) → length (changed balances c t.par) ≡ length balances
    go unchanged = refl
    go (increase p) = length-set balances (word p) _
    go (decrease p) = length-set balances (word p) _

module _ (balances : List ℕ) (t : Transfer) (l : length balances ≡ 8192) (g : bad_balances balances ≡ false)
    (n : first_of (loan_causes balances t) ≡ 0) (s : t.sender < 16) (r : t.receiver < 16) (y : t.security < 16)
    (d : t.sender ≡ t.receiver → ⊥) where
  pub posted_sound : bad_balances (changed balances (change_of t) t.par) ≡ false
  unfolding changed by_sender by_receiver
  posted_sound = go (increasing (step_of t.code)) refl (decreasing (step_of t.code)) refl
    where
      after : Change → Type 0
      after c = bad_balances (changed balances c t.par) ≡ false

      go : (a : Bool) → increasing (step_of t.code) ≡ a → (b : Bool) → decreasing (step_of t.code) ≡ b → after (change_of t)
      go true e b f =
          subst after (sym (change_increase t e))
          (written balances (by_sender t) _ g (record { tracking = tracking_range t.code; security = y; lender = s; borrower = r }) d (increase_fits balances t n (change_increase t e)))
      go false e true f =
          let range : InRange (by_receiver t) = record { tracking = tracking_range t.code; security = y; lender = r; borrower = s } in
          let small = (sound_balances balances l g).small (by_receiver t) range in
          subst after (sym (change_decrease t e f)) (written balances (by_receiver t) _ g range (λ q. d (sym q)) (omega arith))
      go false e false f = subst after (sym (change_none t e f)) g
