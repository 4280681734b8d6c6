-- The quick test of the balances: what its loops keep, and that balances which pass it are good.
use mathlib.Core.Path.{◌≡◌, refl, sym, ap, ◌∙◌, subst}
use mathlib.Core.Bool.{Bool, true, false, not, ◌||◌}
use mathlib.Core.List.{List, [], ◌∷◌}
use Prim.Native.Nat.{ℕ, zero, suc, ◌+◌, ◌*◌, ◌/◌, ◌%◌, ◌≤◌, ◌<◌}
use native.Mathlib.Nat.{add-zero, zero-add, add-suc, suc-add, not-suc-le-zero}
use native.Mathlib.Numerals.{add-one}
use native.Mathlib.Omega.{arith}
use lib.Dec.{eqb}
use lib.ListN.{length, get_or}
use borrow.Author.Tests.{eqb-true, eqb-false, eq-eqb, le-leb}
use Rattle.lists.specs.Sums.{sum, sum_at}
use Rattle.lists.specs.Tests.{and_both}
use Rattle.book.specs.Book.{position}
use Rattle.book.specs.Soundness.{good_balance, good_balances_from, bad_balances}
use Rattle.judging.specs.Quick.{excess_of, self_word, own_pars}

-- ---- one balance

pub excess_none : (par : ℕ) → excess_of par ≡ 0 → par ≤ 9000000000
unfolding excess_of
excess_none par e = omega (arith, e)

pub excess_small : (par : ℕ) → par < 18446744073709551616 → excess_of par ≤ 1073741824
unfolding excess_of
excess_small par h = omega (arith, h)

-- ---- the diagonal

own_at : (balances : List ℕ) (n : ℕ) → own_pars balances n ≡ 0 → (i : ℕ) → i < n → get_or balances (self_word i) 0 ≡ 0
unfolding own_pars
own_at balances zero e i h = absurd (not-suc-le-zero h)
own_at balances (suc n) e i h = go (eqb i n) refl (λ l. own_at balances n (omega (arith, e)) i l)
  where
    go : (b : Bool) → eqb i n ≡ b → (i < n → get_or balances (self_word i) 0 ≡ 0) → get_or balances (self_word i) 0 ≡ 0
    go true q before =
        let here : get_or balances (self_word n) 0 ≡ 0 = omega (arith, e) in
        subst (λ (k : ℕ). get_or balances (self_word k) 0 ≡ 0) (sym (eqb-true i n q)) here
    go false q before = before (omega (arith, eqb-false i n q))

-- the place of a word on the diagonal
own_place : (s r : ℕ) → r < 16 → 256 * ((16 * s + r) / 16) + 17 * ((16 * s + r) % 16) ≡ 256 * s + 17 * r
own_place s r h =
    let d : (16 * s + r) / 16 ≡ s = omega arith in
    let m : (16 * s + r) % 16 ≡ r = omega arith in
    rw (d, m) refl

own_word : (k : ℕ) → k / 16 % 16 ≡ k % 16 → 256 * (k / 256) + 17 * (k % 16) ≡ k
own_word k q = omega (arith, q)

-- ---- both together

good_of : (w : ℕ) (pars : List ℕ) → ((k : ℕ) → k < length pars → good_balance (position (w + k)) (get_or pars k 0) ≡ true) → good_balances_from w pars ≡ true
unfolding good_balances_from
good_of w [] f = refl
good_of w (par ∷ pars) f =
    and_both (subst (λ (n : ℕ). good_balance (position n) par ≡ true) (add-zero w) (f 0 (omega arith)))
    (good_of (suc w) pars (λ k h. subst (λ (n : ℕ). good_balance (position n) (get_or pars k 0) ≡ true) (add-suc w k ∙ sym (suc-add w k)) (f (suc k) (omega arith))))

pub quick_good : (balances : List ℕ) → length balances ≡ 8192 → sum excess_of balances ≡ 0
    → own_pars balances 512 ≡ 0 → bad_balances balances ≡ false
unfolding bad_balances good_balance position self_word
quick_good balances l e d = ap not (good_of 0 balances each)
  where
    small : (k : ℕ) → k < 8192 → 16 * (k / 256) + k % 16 < 512
    small k h = omega arith

    own : (k : ℕ) → k < 8192 → k / 16 % 16 ≡ k % 16 → get_or balances k 0 ≡ 0
    own k h q =
        let z : get_or balances (256 * ((16 * (k / 256) + k % 16) / 16) + 17 * ((16 * (k / 256) + k % 16) % 16)) 0 ≡ 0 =
        own_at balances 512 d (16 * (k / 256) + k % 16) (small k h) in
        subst (λ (j : ℕ). get_or balances j 0 ≡ 0) (own_place (k / 256) (k % 16) (omega arith) ∙ own_word k q) z

    pick : (k : ℕ) → k < 8192 → (b : Bool) → eqb (k / 16 % 16) (k % 16) ≡ b → (not b || eqb (get_or balances k 0) 0) ≡ true
    pick k h true q = eq-eqb _ 0 (own k h (eqb-true _ _ q))
    pick k h false q = refl

    each : (k : ℕ) → k < length balances → good_balance (position (0 + k)) (get_or balances k 0) ≡ true
    each k h =
        let s = excess_none (get_or balances k 0) (sum_at excess_of 0 balances e k h) in
        rw (zero-add k) (and_both (le-leb (get_or balances k 0) 9000000000 s) (pick k (omega arith) (eqb (k / 16 % 16) (k % 16)) refl))

-- ---- the loop over the diagonal

pub record Owning (balances : List ℕ) (total i : ℕ) : Type 0 where
  pub small : i ≤ 512
  pub is : total ≡ own_pars balances i
  pub bound : total ≤ 9000000000 * i

pub owning_start : (balances : List ℕ) → Owning balances 0 0
unfolding own_pars
owning_start balances = record { small = omega arith; is = refl; bound = omega arith }

-- where no balance is too large, the next of the diagonal adds little
pub own_small : (balances : List ℕ) (i : ℕ) → length balances ≡ 8192 → sum excess_of balances ≡ 0 → i < 512
    → get_or balances (256 * (i / 16) + 17 * (i % 16)) 0 ≤ 9000000000
own_small balances i l e h = excess_none _ (sum_at excess_of 0 balances e (256 * (i / 16) + 17 * (i % 16)) (omega (arith, l)))

pub owning_step : {balances : List ℕ} {total i : ℕ} → Owning balances total i → i < 512
    → get_or balances (256 * (i / 16) + 17 * (i % 16)) 0 ≤ 9000000000
    → {t : ℕ} → t ≡ total + get_or balances (256 * (i / 16) + 17 * (i % 16)) 0 → Owning balances t (i + 1)
unfolding own_pars self_word
owning_step {balances} {total} {i} k h m {t} e =
    record {
      small = omega arith;
      is = e ∙ rw (add-one i, k.is) refl;
      bound = omega (arith, e, m, k.bound);
    }

pub owning_end : {balances : List ℕ} {total i : ℕ} → Owning balances total i → 512 ≤ i → total ≡ own_pars balances 512
owning_end {balances} {total} {i} k h =
    let e : i ≡ 512 = omega (arith, k.small) in
    subst (λ (n : ℕ). total ≡ own_pars balances n) e k.is
