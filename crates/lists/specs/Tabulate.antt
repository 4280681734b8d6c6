-- Lists made from a function of the place: one element for each place, or a run of elements for each.
use Rattle.std.specs.Prelude.{◌≡◌, ◌≢◌, length, get_or}
use Rattle.std.proofs.Math.Path.{refl, ap, ap₂}
use Rattle.std.proofs.Common.{sym, ◌∙◌, add-zero, zero-add, not-suc-le-zero, ne_of_lt, arith}
use mathlib.Core.List.{List, [], ◌∷◌, ◌++◌}
use Prim.Native.Nat.{ℕ, zero, suc, ◌+◌, ◌<◌}
use Rattle.std.proofs.Math.Decide.{ℕ_discrete}
use Rattle.lists.specs.Sums.{sum, sum_append}

-- ---- one element for each place

-- f i, f (i + 1), .. n in all
unfoldable pub tabulate : {A : Type 0} → ℕ → ℕ → (ℕ → A) → List A
tabulate i zero f = []
tabulate i (suc n) f = f i ∷ tabulate (suc i) n f

module _ {A : Type 0} where
  pub length_tabulate : (i n : ℕ) (f : ℕ → A) → length (tabulate i n f) ≡ n
  unfolding tabulate
  length_tabulate i zero f = refl
  length_tabulate i (suc n) f = ap suc (length_tabulate (suc i) n f)

  pub get_d_tabulate : (i n : ℕ) (f : ℕ → A) (d : A) (k : ℕ) → k < n → get_or (tabulate i n f) k d ≡ f (i + k)
  unfolding tabulate
  get_d_tabulate i zero f d k h = absurd (not-suc-le-zero h)
  get_d_tabulate i (suc n) f d zero h = ap f (sym (add-zero i))
  get_d_tabulate i (suc n) f d (suc k) h = get_d_tabulate (suc i) n f d k (omega arith) ∙ ap f (omega arith)

-- ---- a run for each place, and a run for each element

-- f 0, then f 1, .. then f (n - 1)
unfoldable pub each : {A : Type 0} → ℕ → (ℕ → List A) → List A
each zero f = []
each (suc n) f = each n f ++ f n

unfoldable pub each_of : {A B : Type 0} → List A → (A → List B) → List B
each_of [] f = []
each_of (x ∷ xs) f = f x ++ each_of xs f

module _ {B : Type 0} (v : B → ℕ) where
  -- a sum over the runs is the sum of their sums
  pub sum_each_of : {A : Type 0} (f : A → List B) (g : A → ℕ) (xs : List A) → ((x : A) → sum v (f x) ≡ g x) → sum v (each_of xs f) ≡ sum g xs
  unfolding each_of sum
  sum_each_of f g [] h = refl
  sum_each_of f g (x ∷ xs) h = sum_append v (f x) (each_of xs f) ∙ ap₂ (λ (a b : ℕ). a + b) (h x) (sum_each_of f g xs h)

  -- where no run adds anything, neither do all
  pub sum_each_none : (n : ℕ) (f : ℕ → List B) → ((i : ℕ) → i < n → sum v (f i) ≡ 0) → sum v (each n f) ≡ 0
  unfolding each
  sum_each_none zero f h = unfold sum in refl
  sum_each_none (suc n) f h =
      sum_append v (each n f) (f n) ∙ ap₂ (λ (a b : ℕ). a + b) (sum_each_none n f (λ i k. h i (omega arith))) (h n (omega arith))

  -- where only one run adds anything, all add what it does
  pub sum_each_one : (n : ℕ) (f : ℕ → List B) (k : ℕ) → k < n → ((i : ℕ) → i ≢ k → sum v (f i) ≡ 0) → sum v (each n f) ≡ sum v (f k)
  unfolding each
  sum_each_one zero f k l h = absurd (not-suc-le-zero l)
  sum_each_one (suc n) f k l h = sum_append v (each n f) (f n) ∙ go (λ m. sum_each_one n f k m h) (ℕ_discrete k n)
    where
      go : (k < n → sum v (each n f) ≡ sum v (f k)) → Dec (k ≡ n) → sum v (each n f) + sum v (f n) ≡ sum v (f k)
      go ih (yes e) =
          let z : sum v (each n f) ≡ 0 = sum_each_none n f (λ i m. h i (λ q. absurd (ne_of_lt m (q ∙ e)))) in
          rw (z, e) (zero-add _)
      go ih (no ne) =
          let z : sum v (f n) ≡ 0 = h n (λ q. ne (sym q)) in
          rw z (add-zero _ ∙ ih (omega arith))
