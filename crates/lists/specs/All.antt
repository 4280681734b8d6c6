-- A test of every element of a list, and the laws for a loop that tests the elements in order.
use Rattle.std.specs.Prelude.{◌≡◌, refl, Bool, true, false, ◌&&◌, List, [], ◌∷◌, ◌++◌, ℕ, zero, suc, ◌+◌, ◌≤◌, ◌<◌, length, drop, get_or}
use Rattle.std.specs.List.{list_all}
use Rattle.std.proofs.Common.{add-one, not-suc-le-zero, le_of_suc-le-suc, arith, drop_of_length-le}
use Rattle.std.proofs.Math.Seq.{drop-cons}
use Rattle.lists.specs.Tests.{and_left, and_right, and_both}

-- each element passes the test
abbrev pub all : {A : Type 0} → (A → Bool) → List A → Bool
all p xs = list_all p xs

-- ---- from place i on, as a loop goes

module _ {A : Type 0} (p : A → Bool) (xs : List A) (i : ℕ) where
  pub all_end : length xs ≤ i → all p (drop i xs) ≡ true
  all_end h = rw (drop_of_length-le xs h)

  pub all_stop : (d : A) → i < length xs → p (get_or xs i d) ≡ false → all p (drop i xs) ≡ false
  all_stop d h e = rw (drop-cons xs i d, e)

  pub all_go : (d : A) → i < length xs → p (get_or xs i d) ≡ true → all p (drop i xs) ≡ all p (drop (i + 1) xs)
  all_go d h e = rw (add-one, drop-cons xs i d, e)

-- ---- what the test says of each element

pub all_at : {A : Type 0} (p : A → Bool) (xs : List A) (d : A) → all p xs ≡ true → (k : ℕ) → k < length xs → p (get_or xs k d) ≡ true
all_at p [] d t k h = absurd (not-suc-le-zero h)
all_at p (x ∷ xs) d t zero h = and_left (p x) (all p xs) t
all_at p (x ∷ xs) d t (suc k) h = all_at p xs d (and_right (p x) (all p xs) t) k (le_of_suc-le-suc h)

pub all_of : {A : Type 0} (p : A → Bool) (xs : List A) (d : A) → ((k : ℕ) → k < length xs → p (get_or xs k d) ≡ true) → all p xs ≡ true
all_of p [] d h = refl
all_of p (x ∷ xs) d h = and_both (h 0 (omega arith)) (all_of p xs d (λ k l. h (suc k) (omega arith)))

pub all_append : {A : Type 0} (p : A → Bool) (xs ys : List A) → all p xs ≡ true → all p ys ≡ true → all p (xs ++ ys) ≡ true
all_append p [] ys s t = t
all_append p (x ∷ xs) ys s t =
    and_both (and_left (p x) (all p xs) s) (all_append p xs ys (and_right (p x) (all p xs) s) t)

-- a weaker test
pub all_weaken : {A : Type 0} (p q : A → Bool) (xs : List A) → all p xs ≡ true → ((x : A) → p x ≡ true → q x ≡ true) → all q xs ≡ true
all_weaken p q [] t h = refl
all_weaken p q (x ∷ xs) t h =
    and_both (h x (and_left (p x) (all p xs) t)) (all_weaken p q xs (and_right (p x) (all p xs) t) h)

-- a test that every element passes
pub all_each : {A : Type 0} (p : A → Bool) (xs : List A) → ((x : A) → p x ≡ true) → all p xs ≡ true
all_each p [] h = refl
all_each p (x ∷ xs) h = and_both (h x) (all_each p xs h)

-- two tests at once
pub all_both : {A : Type 0} (p q : A → Bool) (xs : List A) → all p xs ≡ true → all q xs ≡ true → all (λ x. p x && q x) xs ≡ true
all_both p q [] s t = refl
all_both p q (x ∷ xs) s t =
    and_both (and_both (and_left (p x) (all p xs) s) (and_left (q x) (all q xs) t))
    (all_both p q xs (and_right (p x) (all p xs) s) (and_right (q x) (all q xs) t))
