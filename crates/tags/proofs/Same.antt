-- Two lists compared byte by byte, as a loop does it, and what the comparison says: the lists are equal.
use mathlib.Core.Path.{◌≡◌, refl, ap₂}
use mathlib.Core.Bool.{true, false}
use mathlib.Core.List.{List, [], ◌∷◌}
use Prim.Native.Nat.{ℕ, ◌+◌, ◌≤◌, ◌<◌}
use native.Mathlib.Numerals.{add-one}
use lib.Dec.{eqb}
use lib.ListN.{length, drop, get_or, drop_of_length-le}
use lib.Seq.{drop-cons}
use borrow.Author.Tests.{eq-eqb, ne_eqb, eqb-true}
use Rattle.lists.specs.Tests.{and_left, and_right}
use Rattle.tags.specs.ContractDateTag.{same}

-- ---- from place j on

module _ (xs ys : List ℕ) (j : ℕ) (hx : j < length xs) (hy : j < length ys) where
  pub same_stop : (get_or xs j 0 ≡ get_or ys j 0 → ⊥) → same (drop j xs) (drop j ys) ≡ false
  unfolding same
  same_stop n = rw (drop-cons xs j 0, drop-cons ys j 0, ne_eqb _ _ n)

  pub same_go : get_or xs j 0 ≡ get_or ys j 0 → same (drop j xs) (drop j ys) ≡ same (drop (j + 1) xs) (drop (j + 1) ys)
  unfolding same
  same_go e = rw (drop-cons xs j 0, drop-cons ys j 0, eq-eqb _ _ e, add-one)

pub same_end : (xs ys : List ℕ) (j : ℕ) → length xs ≤ j → length ys ≤ j → same (drop j xs) (drop j ys) ≡ true
unfolding same
same_end xs ys j hx hy = rw (drop_of_length-le xs {i = j} hx, drop_of_length-le ys {i = j} hy)

-- ---- what it says

pub same_equal : (xs ys : List ℕ) → same xs ys ≡ true → xs ≡ ys
unfolding same
same_equal [] [] e = refl
same_equal [] (y ∷ ys) e = cc
same_equal (x ∷ xs) [] e = cc
same_equal (x ∷ xs) (y ∷ ys) e =
    ap₂ {C = List ℕ} (λ (a : ℕ) (l : List ℕ). a ∷ l) (eqb-true x y (and_left _ _ e)) (same_equal xs ys (and_right (eqb x y) _ e))

same_self : (xs : List ℕ) → same xs xs ≡ true
unfolding same
same_self [] = refl
same_self (x ∷ xs) = rw (eq-eqb x x refl) (same_self xs)

pub equal_same : (xs ys : List ℕ) → xs ≡ ys → same xs ys ≡ true
equal_same xs ys e = rw (← e) (same_self xs)
