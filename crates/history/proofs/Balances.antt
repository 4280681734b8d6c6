-- The stored balances stay the layout of the ledger's par: what is posted to a word is what the ledger adds up.
use mathlib.Core.Path.{◌≡◌, refl, sym, ap, ap₂, ◌∙◌, fun_ext}
use mathlib.Core.Logic.{◌⊎◌, inl, inr}
use mathlib.Core.Bool.{Bool, true, false, cond, ◌&&◌, ◌||◌, true≢false}
use Prim.Native.Nat.{ℕ, ◌+◌, ◌-◌, ◌*◌, ◌≤◌, ◌<◌}
use native.Mathlib.Nat.{zero-add}
use native.Mathlib.Omega.{arith}
use native.Mathlib.Decide.{ℕ_discrete}
use lib.Dec.{eqb, ltb}
use borrow.Author.Tests.{ltb-true, ltb-false, eqb-true, eq-eqb, ne_eqb}
use Rattle.lists.specs.Tests.{and_left, and_right}
use Rattle.records.specs.declared.Transfer.{Transfer}
use Rattle.book.specs.declared.Position.{Position}
use Rattle.book.specs.Book.{InRange, same, balance_at, layout}
use Rattle.book.specs.declared.Change.{Change}
use Rattle.book.specs.declared.Change.TheVariants.{Unchanged as unchanged, Increase as increase, Decrease as decrease}
use Rattle.book.specs.Loans.{tracking_of, step_of, increasing, decreasing, by_sender, by_receiver, change_of, changed, above_balance}
use Rattle.book.proofs.Posted.{tracking_range}
use Rattle.book.proofs.Words.{three, read, layout_write, same_refl, sameness}
use Rattle.history.specs.Ledger.{is_increase, is_decrease}
use Rattle.history.proofs.Accepted.{Fields, Within}

-- ---- what a change adds to a position, and what it takes from it

added : Change → ℕ → Position → ℕ
added unchanged v p = 0
added (increase q) v p = cond (same q p) v 0
added (decrease q) v p = 0

removed : Change → ℕ → Position → ℕ
removed unchanged v p = 0
removed (increase q) v p = 0
removed (decrease q) v p = cond (same q p) v 0

-- the codes that increase and that decrease
increasing_codes : (c : ℕ) → increasing c ≡ (eqb c 1 || eqb c 4 || eqb c 5)
unfolding increasing
increasing_codes c = refl

decreasing_codes : (c : ℕ) → decreasing c ≡ (eqb c 2 || eqb c 3 || eqb c 6)
unfolding decreasing
decreasing_codes c = refl

-- no code does both
one_way : (c : ℕ) → increasing c ≡ true → decreasing c ≡ false
one_way c e = decreasing_codes c ∙ go (eqb c 1) (eqb c 4) (eqb c 5) refl refl refl (sym (increasing_codes c) ∙ e)
  where
    go : (x y z : Bool) → eqb c 1 ≡ x → eqb c 4 ≡ y → eqb c 5 ≡ z → (x || y || z) ≡ true → (eqb c 2 || eqb c 3 || eqb c 6) ≡ false
    go true y z i j k h = rw (eqb-true c 1 i)
    go false true z i j k h = rw (eqb-true c 4 j)
    go false false true i j k h = rw (eqb-true c 5 k)
    go false false false i j k h = absurd (true≢false (sym h))

-- ---- a code by its tracking and its place in it

pub code_parts : (c : ℕ) → 6 * tracking_of c + step_of c ≡ c
unfolding tracking_of step_of
code_parts c = go (ltb 6 c) refl
  where
    go : (b : Bool) → ltb 6 c ≡ b → 6 * cond b 1 0 + cond b (c - 6) c ≡ c
    go true e = omega (arith, ltb-true 6 c e)
    go false e = omega arith

-- codes to 12: places 0 to 6
pub step_bound : (c : ℕ) → c ≤ 12 → step_of c ≤ 6
unfolding step_of
step_bound c h = go (ltb 6 c) refl
  where
    go : (b : Bool) → ltb 6 c ≡ b → cond b (c - 6) c ≤ 6
    go true e = omega arith
    go false e = omega (arith, ltb-false 6 c e)

-- a code above 0 has a place above 0
step_above : (c : ℕ) → 0 < c → 0 < step_of c
unfolding step_of
step_above c h = go (ltb 6 c) refl
  where
    go : (b : Bool) → ltb 6 c ≡ b → 0 < cond b (c - 6) c
    go true e = omega (arith, ltb-true 6 c e)
    go false e = h

-- the code with a place in a tracking
code_test : (c k n : ℕ) → c ≤ 12 → 0 < n → n ≤ 6 → eqb c (6 * k + n) ≡ (eqb (tracking_of c) k && eqb (step_of c) n)
code_test c k n h l m = go (ℕ_discrete (tracking_of c) k) (ℕ_discrete (step_of c) n)
  where
    go : Dec (tracking_of c ≡ k) → Dec (step_of c ≡ n) → eqb c (6 * k + n) ≡ (eqb (tracking_of c) k && eqb (step_of c) n)
    go (yes p) (yes q) = rw (eq-eqb c (6 * k + n) (omega (arith, code_parts c, p, q)), eq-eqb (tracking_of c) k p, eq-eqb (step_of c) n q)
    go (yes p) (no d) = rw (ne_eqb c (6 * k + n) (λ e. d (omega (arith, code_parts c, p, e))), eq-eqb (tracking_of c) k p, ne_eqb (step_of c) n d)
    go (no d) q =
        rw (ne_eqb c (6 * k + n) (λ e. d (omega (arith, code_parts c, step_bound c h, step_above c (omega (arith, e)), e))), ne_eqb (tracking_of c) k d)

and_or : (a x y z : Bool) → ((a && x) || (a && y) || (a && z)) ≡ (a && (x || y || z))
and_or true x y z = refl
and_or false x y z = refl

and_turn : (a b c : Bool) → (c && (a && b)) ≡ (b && (a && c))
and_turn true true true = refl
and_turn true true false = refl
and_turn true false true = refl
and_turn true false false = refl
and_turn false true true = refl
and_turn false true false = refl
and_turn false false true = refl
and_turn false false false = refl

-- one of three codes of a tracking, between two parties
three_codes : (c k x y z : ℕ) (parties : Bool) → c ≤ 12 → 0 < x → x ≤ 6 → 0 < y → y ≤ 6 → 0 < z → z ≤ 6
    → (parties && (eqb c (6 * k + x) || eqb c (6 * k + y) || eqb c (6 * k + z)))
    ≡ ((eqb (step_of c) x || eqb (step_of c) y || eqb (step_of c) z) && (eqb (tracking_of c) k && parties))
three_codes c k x y z parties h x0 x6 y0 y6 z0 z6 =
    rw (
      code_test c k x h x0 x6,
      code_test c k y h y0 y6,
      code_test c k z h z0 z6,
      and_or (eqb (tracking_of c) k) (eqb (step_of c) x) (eqb (step_of c) y) (eqb (step_of c) z),
    )
    (and_turn (eqb (tracking_of c) k) (eqb (step_of c) x || eqb (step_of c) y || eqb (step_of c) z) parties)

-- an increase changes the sender's loan to the receiver, a decrease the receiver's to the sender
increase_test : (t : Transfer) (p : Position) → t.code ≤ 12 → is_increase t p ≡ (increasing (step_of t.code) && same (by_sender t) p)
unfolding is_increase increasing same by_sender
increase_test t p h =
    three_codes t.code p.tracking 1 4 5 _ h (omega arith) (omega arith) (omega arith) (omega arith) (omega arith) (omega arith)

decrease_test : (t : Transfer) (p : Position) → t.code ≤ 12 → is_decrease t p ≡ (decreasing (step_of t.code) && same (by_receiver t) p)
unfolding is_decrease decreasing same by_receiver
decrease_test t p h =
    three_codes t.code p.tracking 2 3 6 _ h (omega arith) (omega arith) (omega arith) (omega arith) (omega arith) (omega arith)

-- an increased position has the fields of the transfer
pub increase_range : (t : Transfer) (p : Position) → is_increase t p ≡ true → Fields t → InRange p
unfolding same by_sender
increase_range t p e f =
    let s = and_right (increasing (step_of t.code)) (same (by_sender t) p) (sym (increase_test t p f.code) ∙ e) in
    let k = eqb-true _ p.tracking (and_left (eqb (tracking_of t.code) p.tracking) _ s) in
    let r = three t.security p.security t.sender p.lender t.receiver p.borrower (and_right (eqb (tracking_of t.code) p.tracking) _ s) in
    let a = r.first in
    let l = r.second in
    let b = r.third in
    record {
      tracking = omega (arith, k, tracking_range t.code);
      security = omega (arith, f.security);
      lender = omega (arith, f.sender);
      borrower = omega (arith, f.receiver);
    }

-- the change of a transfer adds and takes what the ledger counts
is_added : (t : Transfer) (p : Position) → t.code ≤ 12 → added (change_of t) t.par p ≡ cond (is_increase t p) t.par 0
unfolding change_of added
is_added t p h = rw (increase_test t p h) (go (increasing (step_of t.code)) (decreasing (step_of t.code)))
  where
    go : (x y : Bool)
        → added (cond x (increase (by_sender t)) (cond y (decrease (by_receiver t)) unchanged)) t.par p
        ≡ cond (x && same (by_sender t) p) t.par 0
    go true y = refl
    go false true = refl
    go false false = refl

is_removed : (t : Transfer) (p : Position) → t.code ≤ 12 → removed (change_of t) t.par p ≡ cond (is_decrease t p) t.par 0
unfolding change_of removed
is_removed t p h = rw (decrease_test t p h) (go (increasing (step_of t.code)) (decreasing (step_of t.code)) (one_way (step_of t.code)))
  where
    go : (x y : Bool) → (x ≡ true → y ≡ false)
        → removed (cond x (increase (by_sender t)) (cond y (decrease (by_receiver t)) unchanged)) t.par p
        ≡ cond (y && same (by_receiver t) p) t.par 0
    go true true h = absurd (true≢false (h refl))
    go true false h = refl
    go false true h = refl
    go false false h = refl

-- ---- a position's increases and decreases

module _ (plus minus : Position → ℕ) (covered : (p : Position) → minus p ≤ plus p) where
  abbrev pub net : Position → ℕ
  net p = plus p - minus p

  covered_after : (c : Change) (v : ℕ) → Within c → above_balance (layout net) c v ≡ false
      → (p : Position) → removed c v p + minus p ≤ added c v p + plus p
  unfolding removed added above_balance
  covered_after unchanged v r e p = omega (arith, covered p)
  covered_after (increase q) v r e p = omega (arith, covered p)
  covered_after (decrease q) v r e p = go (sameness q p)
    where
      go : (q ≡ p) ⊎ (same q p ≡ false) → cond (same q p) v 0 + minus p ≤ 0 + plus p
      go (inl k) = rw (← k, same_refl q) (omega (arith, ltb-false (balance_at (layout net) q) v e, read net q r, covered q))
      go (inr d) = rw d (omega (arith, covered p))

  balances_after : (c : Change) (v : ℕ) → Within c → above_balance (layout net) c v ≡ false
      → changed (layout net) c v ≡ layout (λ p. (added c v p + plus p) - (removed c v p + minus p))
  unfolding removed added above_balance changed
  balances_after unchanged v r e = simp zero-add
  balances_after (increase q) v r e =
      layout_write net _ q _ r (rw (same_refl q) (omega (arith, read net q r, covered q))) (λ p d. rw d (simp zero-add))
  balances_after (decrease q) v r e =
      layout_write net _ q _ r (rw (same_refl q) (omega (arith, read net q r, covered q))) (λ p d. rw d (simp zero-add))

  -- the same, said of the transfer
  pub covered_transfer : (t : Transfer) → t.code ≤ 12 → Within (change_of t) → above_balance (layout net) (change_of t) t.par ≡ false
      → (p : Position) → cond (is_decrease t p) t.par 0 + minus p ≤ cond (is_increase t p) t.par 0 + plus p
  covered_transfer t h r e p = rw (← is_removed t p h, ← is_added t p h) (covered_after (change_of t) t.par r e p)

  pub balances_transfer : (t : Transfer) → t.code ≤ 12 → Within (change_of t) → above_balance (layout net) (change_of t) t.par ≡ false
      → changed (layout net) (change_of t) t.par
      ≡ layout (λ p. (cond (is_increase t p) t.par 0 + plus p) - (cond (is_decrease t p) t.par 0 + minus p))
  balances_transfer t h r e =
      balances_after (change_of t) t.par r e
      ∙ ap layout (fun_ext (λ p. ap₂ (λ (a b : ℕ). (a + plus p) - (b + minus p)) (is_added t p h) (is_removed t p h)))
