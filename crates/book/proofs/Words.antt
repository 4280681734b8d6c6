-- The words of the balances and the positions they hold: each word is one position, so writing a word changes one position alone.
use mathlib.Core.Path.{◌≡◌, refl, sym, ap, ◌∙◌, subst}
use mathlib.Core.Logic.{◌⊎◌, inl, inr}
use mathlib.Core.Bool.{Bool, true, false, cond, ◌&&◌, true≢false}
use mathlib.Core.List.{List}
use Prim.Native.Nat.{ℕ, ◌<◌}
use native.Mathlib.Nat.{zero-add}
use native.Mathlib.Omega.{arith}
use lib.ListN.{length, get_or, set, length-set}
use lib.Dec.{eqb}
use lib.Seq.{ext_get_or, get_or-set_same, get_or-set_other}
use borrow.Author.Tests.{eqb-true, eq-eqb}
use Rattle.lists.specs.Tests.{and_left, and_right}
use Rattle.lists.specs.Tabulate.{length_tabulate, get_d_tabulate}
use Rattle.book.specs.declared.Position.{Position}
use Rattle.book.specs.Book.{InRange, same, word, position, balance_at, layout}

-- ---- words and positions

pub position_word : (p : Position) → InRange p → position (word p) ≡ p
unfolding position word
position_word p r =
    let k : (position (word p)).tracking ≡ p.tracking = omega arith in
    let s : (position (word p)).security ≡ p.security = omega arith in
    let l : (position (word p)).lender ≡ p.lender = omega arith in
    let b : (position (word p)).borrower ≡ p.borrower = omega arith in
    λ i. record { tracking = k i; security = s i; lender = l i; borrower = b i }

pub word_position : (w : ℕ) → word (position w) ≡ w
unfolding position word
word_position w = omega arith

pub position_range : (w : ℕ) → w < 8192 → InRange (position w)
unfolding position
position_range w h = omega arith

pub word_bound : (p : Position) → InRange p → word p < 8192
unfolding word
word_bound p r = omega arith

-- ---- three equal numbers, by their tests

pub record Three (a a' b b' c c' : ℕ) : Type 0 where
  pub first : a ≡ a'
  pub second : b ≡ b'
  pub third : c ≡ c'

pub three : (a a' b b' c c' : ℕ) → (eqb a a' && eqb b b' && eqb c c') ≡ true → Three a a' b b' c c'
three a a' b b' c c' e =
    let ab = and_left (eqb a a' && eqb b b') (eqb c c') e in
    record {
      first = eqb-true a a' (and_left (eqb a a') (eqb b b') ab);
      second = eqb-true b b' (and_right (eqb a a') (eqb b b') ab);
      third = eqb-true c c' (and_right (eqb a a' && eqb b b') (eqb c c') e);
    }

pub three_refl : (a b c : ℕ) → (eqb a a && eqb b b && eqb c c) ≡ true
three_refl a b c = simp (eq-eqb a a refl, eq-eqb b b refl, eq-eqb c c refl)

-- ---- the test of two positions

same_true : (p q : Position) → same p q ≡ true → p ≡ q
unfolding same
same_true p q e =
    let k = eqb-true p.tracking q.tracking (and_left (eqb p.tracking q.tracking) _ e) in
    let t = three p.security q.security p.lender q.lender p.borrower q.borrower (and_right (eqb p.tracking q.tracking) _ e) in
    λ i. record { tracking = k i; security = t.first i; lender = t.second i; borrower = t.third i }

pub same_refl : (p : Position) → same p p ≡ true
unfolding same
same_refl p = rw (eq-eqb p.tracking p.tracking refl) (three_refl p.security p.lender p.borrower)

pub sameness : (p q : Position) → (p ≡ q) ⊎ (same p q ≡ false)
sameness p q = go (same p q) refl
  where
    go : (b : Bool) → same p q ≡ b → (p ≡ q) ⊎ (same p q ≡ false)
    go true e = inl (same_true p q e)
    go false e = inr e

apart : (p q : Position) → InRange p → InRange q → same p q ≡ false → word p ≡ word q → ⊥
apart p q rp rq d e =
    let k : p ≡ q = sym (position_word p rp) ∙ ap position e ∙ position_word q rq in
    true≢false (sym (same_refl p) ∙ ap (same p) k ∙ d)

-- ---- the layout of a par

pub length_layout : (f : Position → ℕ) → length (layout f) ≡ 8192
unfolding layout
length_layout f = length_tabulate 0 8192 (λ w. f (position w))

pub get_d_layout : (f : Position → ℕ) (w : ℕ) → w < 8192 → get_or (layout f) w 0 ≡ f (position w)
unfolding layout
get_d_layout f w h = get_d_tabulate 0 8192 (λ w. f (position w)) 0 w h ∙ ap (λ (v : ℕ). f (position v)) (zero-add w)

-- reading a position gives its par
pub read : (f : Position → ℕ) (p : Position) → InRange p → balance_at (layout f) p ≡ f p
unfolding balance_at
read f p r = get_d_layout f (word p) (word_bound p r) ∙ ap f (position_word p r)

-- 8,192 words that read as f are its layout
pub is_layout : (f : Position → ℕ) (balances : List ℕ) → length balances ≡ 8192
    → ((p : Position) → InRange p → balance_at balances p ≡ f p) → balances ≡ layout f
unfolding balance_at
is_layout f balances n h =
    ext_get_or 0 balances (layout f) (n ∙ sym (length_layout f))
    (λ w k. let m : w < 8192 = omega arith in
    subst (λ (v : ℕ). get_or balances v 0 ≡ get_or (layout f) w 0) (word_position w)
    (h (position w) (position_range w m) ∙ sym (get_d_layout f w m)))

-- what writing a word leaves at each position
pub write : (balances : List ℕ) (p : Position) (v : ℕ) (q : Position) → length balances ≡ 8192 → InRange p → InRange q
    → balance_at (set balances (word p) v) q ≡ cond (same p q) v (balance_at balances q)
unfolding balance_at
write balances p v q n rp rq = go (sameness p q)
  where
    go : (p ≡ q) ⊎ (same p q ≡ false) → get_or (set balances (word p) v) (word q) 0 ≡ cond (same p q) v (get_or balances (word q) 0)
    go (inl e) = rw (← e, same_refl p) (get_or-set_same balances (word p) v 0 (omega (arith, word_bound p rp)))
    go (inr d) = rw d (get_or-set_other balances (word p) (word q) v 0 (λ e. apart p q rp rq d (sym e)))

-- a layout with one position written
pub layout_write : (f g : Position → ℕ) (q : Position) (v : ℕ) → InRange q → g q ≡ v
    → ((p : Position) → same q p ≡ false → g p ≡ f p) → set (layout f) (word q) v ≡ layout g
layout_write f g q v r here other =
    is_layout g (set (layout f) (word q) v) (length-set (layout f) (word q) v ∙ length_layout f)
    (λ p rp. write (layout f) q v p (length_layout f) r rp ∙ go p rp (sameness q p))
  where
    go : (p : Position) → InRange p → (q ≡ p) ⊎ (same q p ≡ false) → cond (same q p) v (balance_at (layout f) p) ≡ g p
    go p rp (inl e) = rw (← e, same_refl q) (sym here)
    go p rp (inr d) = rw d (read f p rp ∙ sym (other p d))
