-- Sums over lists.
use Rattle.std.specs.Prelude.{◌≡◌, Bool, true, false, cond, ℕ, zero, suc, ◌+◌, ◌*◌, ◌≤◌, ◌<◌, length, drop, get_or}
use Rattle.std.proofs.Math.Path.{refl, sym, ap₂}
use Rattle.std.proofs.Common.{◌∙◌, zero-add, mul-suc, not-suc-le-zero, le_of_suc-le-suc, add-one, arith, drop_of_length-le, drop-cons}
use mathlib.Core.List.{List, [], ◌∷◌, ◌++◌, map}
use Rattle.std.proofs.Math.Nat.{add-zero}

-- f added up over the elements
unfoldable pub sum : {A : Type 0} → (A → ℕ) → List A → ℕ
sum f [] = 0
sum f (x ∷ xs) = f x + sum f xs

module _ {A : Type 0} where
  -- one element counts once
  pub sum_one : (f : A → ℕ) (x : A) → sum f (x ∷ []) ≡ f x
  unfolding sum
  sum_one f x = add-zero (f x)

  pub sum_append : (f : A → ℕ) (xs ys : List A) → sum f (xs ++ ys) ≡ sum f xs + sum f ys
  unfolding sum
  sum_append f [] ys = sym (zero-add _)
  sum_append f (x ∷ xs) ys = rw (sum_append f xs ys) (omega arith)

  -- equal at each element
  pub sum_equal : (f g : A → ℕ) (xs : List A) → ((x : A) → f x ≡ g x) → sum f xs ≡ sum g xs
  unfolding sum
  sum_equal f g [] h = refl
  sum_equal f g (x ∷ xs) h = ap₂ (λ (a b : ℕ). a + b) (h x) (sum_equal f g xs h)

  pub sum_zero : (f : A → ℕ) (xs : List A) → ((x : A) → f x ≡ 0) → sum f xs ≡ 0
  unfolding sum
  sum_zero f [] h = refl
  sum_zero f (x ∷ xs) h = rw (h x) (zero-add _ ∙ sum_zero f xs h)

  -- two sums of one list are the sum of both
  pub sum_plus : (f g : A → ℕ) (xs : List A) → sum f xs + sum g xs ≡ sum (λ x. f x + g x) xs
  unfolding sum
  sum_plus f g [] = refl
  sum_plus f g (x ∷ xs) = rw (← sum_plus f g xs) (omega arith)

pub sum_map : {A B : Type 0} (f : B → ℕ) (g : A → B) (xs : List A) → sum f (map g xs) ≡ sum (λ x. f (g x)) xs
unfolding sum
sum_map f g [] = refl
sum_map f g (x ∷ xs) = rw (sum_map f g xs)

-- ---- what a test lets count

pub cond_zero : (b : Bool) → cond b 0 0 ≡ (zero)
cond_zero true = refl
cond_zero false = refl

pub cond_plus : (b : Bool) (m n : ℕ) → cond b m 0 + cond b n 0 ≡ cond b (m + n) 0
cond_plus true m n = refl
cond_plus false m n = refl

pub sum_cond : {A : Type 0} (b : Bool) (f : A → ℕ) (xs : List A) → sum (λ x. cond b (f x) 0) xs ≡ cond b (sum f xs) 0
sum_cond true f xs = refl
sum_cond false f xs = sum_zero (λ x. 0) xs (λ x. refl)

-- ---- a sum of nothing

pub sum_at : {A : Type 0} (f : A → ℕ) (d : A) (xs : List A) → sum f xs ≡ 0 → (k : ℕ) → k < length xs → f (get_or xs k d) ≡ 0
unfolding sum
sum_at f d [] e k h = absurd (not-suc-le-zero h)
sum_at f d (x ∷ xs) e zero h = omega (arith, e)
sum_at f d (x ∷ xs) e (suc k) h = sum_at f d xs (omega (arith, e)) k (le_of_suc-le-suc h)

-- ---- a sum by a loop without a way out, so that many elements can be taken at once

-- The sum of f over the first w elements is total, and each of them adds at most b.
pub record Adding {A : Type 0} (f : A → ℕ) (b : ℕ) (xs : List A) (total w : ℕ) : Type 0 where
  pub small : w ≤ length xs
  pub rest : sum f xs ≡ total + sum f (drop w xs)
  pub bound : total ≤ b * w

module _ {A : Type 0} (f : A → ℕ) (b : ℕ) where
  pub add_start : (xs : List A) → Adding f b xs 0 0
  add_start xs = record { small = omega arith; rest = sym (zero-add _); bound = omega arith }

  pub add_step : {xs : List A} {total w : ℕ} (d : A) → Adding f b xs total w → w < length xs → f (get_or xs w d) ≤ b
      → {t : ℕ} → t ≡ total + f (get_or xs w d) → Adding f b xs t (w + 1)
  unfolding sum
  add_step {xs} {total} {w} d k h m {t} e =
      record {
        small = omega arith;
        rest = k.rest ∙ rw (drop-cons xs w d h, e, add-one) (omega arith);
        bound = rw (add-one w, mul-suc) (omega (arith, e, k.bound, m));
      }

  pub add_end : {xs : List A} {total w : ℕ} → Adding f b xs total w → length xs ≤ w → total ≡ sum f xs
  unfolding sum
  add_end {xs} {total} {w} k h = sym (k.rest ∙ rw (drop_of_length-le xs {i = w} h) (add-zero total))
