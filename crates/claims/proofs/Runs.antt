-- Runs made one after the other: for each element of a list, for each place below a number.
use mathlib.Core.Path.{◌≡◌, refl, sym, ap, ap₂, ◌∙◌}
use mathlib.Core.Bool.{Bool, true, false, cond}
use mathlib.Core.List.{List, [], ◌∷◌, ◌++◌, append-nil, append_assoc, map}
use Prim.Native.Nat.{ℕ, zero, suc, ◌+◌, ◌≤◌, ◌<◌}
use native.Mathlib.Nat.{add-zero, add-suc}
use native.Mathlib.Omega.{arith}
use lib.ListN.{length, take, get_or}
use lib.Seq.{take-suc}
use Rattle.lists.specs.Select.{select}
use Rattle.lists.specs.Tabulate.{each, each_of}

-- ---- for each element

pub map_each : {A B : Type 0} (f : A → B) (xs : List A) → map f xs ≡ each_of xs (λ x. f x ∷ [])
unfolding each_of
map_each f [] = refl
map_each f (x ∷ xs) = ap (◌∷◌ (f x)) (map_each f xs)

-- a run for each element that passes a test
pub each_select : {A B : Type 0} (p : A → Bool) (f : A → List B) (xs : List A) → each_of (select p xs) f ≡ each_of xs (λ x. cond (p x) (f x) [])
unfolding each_of select
each_select p f [] = refl
each_select p f (x ∷ xs) = go (p x) (each_select p f xs)
  where
    go : (b : Bool) → each_of (select p xs) f ≡ each_of xs (λ x. cond (p x) (f x) [])
        → each_of (cond b (x ∷ select p xs) (select p xs)) f ≡ cond b (f x) [] ++ each_of xs (λ x. cond (p x) (f x) [])
    go true ih = ap (λ (r : List _). f x ++ r) ih
    go false ih = ih

module _ {A B : Type 0} (f : A → List B) where
  each_of_append : (xs ys : List A) → each_of (xs ++ ys) f ≡ each_of xs f ++ each_of ys f
  unfolding each_of
  each_of_append [] ys = refl
  each_of_append (x ∷ xs) ys = ap (λ (r : List B). f x ++ r) (each_of_append xs ys) ∙ sym (append_assoc (f x) (each_of xs f) (each_of ys f))

  -- a run for each of the first n elements is a run for each place below n
  pub each_of_take : (xs : List A) (d : A) (n : ℕ) → n ≤ length xs → each_of (take n xs) f ≡ each n (λ j. f (get_or xs j d))
  unfolding each
  each_of_take xs d zero h = unfold each_of in refl
  each_of_take xs d (suc n) h =
      ap (λ (l : List A). each_of l f) (take-suc xs n d h)
      ∙ each_of_append (take n xs) (get_or xs n d ∷ [])
      ∙ ap₂ (λ (r s : List B). r ++ s) (each_of_take xs d n (omega arith)) (unfold each_of in append-nil (f (get_or xs n d)))

-- ---- for each place

pub each_agree : {B : Type 0} (f g : ℕ → List B) (n : ℕ) → ((j : ℕ) → j < n → f j ≡ g j) → each n f ≡ each n g
unfolding each
each_agree f g zero h = refl
each_agree f g (suc n) h = ap₂ (λ (r s : List _). r ++ s) (each_agree f g n (λ j k. h j (omega arith))) (h n (omega arith))

-- the places below a, then the b places behind them
pub each_append : {B : Type 0} (f : ℕ → List B) (a b : ℕ) → each a f ++ each b (λ j. f (a + j)) ≡ each (a + b) f
unfolding each
each_append f a zero = append-nil (each a f) ∙ ap (λ (n : ℕ). each n f) (sym (add-zero a))
each_append f a (suc b) =
    sym (append_assoc (each a f) (each b (λ j. f (a + j))) (f (a + b)))
    ∙ ap (λ (l : List _). l ++ f (a + b)) (each_append f a b)
    ∙ ap (λ (n : ℕ). each n f) (sym (add-suc a b))

-- ---- how many are selected

pub select_within : {A : Type 0} (p : A → Bool) (xs : List A) → length (select p xs) ≤ length xs
unfolding select
select_within p [] = omega arith
select_within p (x ∷ xs) = go (p x) (select_within p xs)
  where
    go : (b : Bool) → length (select p xs) ≤ length xs → length (cond b (x ∷ select p xs) (select p xs)) ≤ length (x ∷ xs)
    go true h = omega arith
    go false h = omega arith
