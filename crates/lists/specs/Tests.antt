-- Tests joined by and, and tests that are computed for every number below a bound.
use Rattle.std.specs.Prelude.{◌≡◌, refl, Bool, true, false, cond, ◌&&◌, ◌||◌, ℕ, zero, suc, ◌<◌}
use Rattle.std.proofs.Common.{ap, ◌∙◌, ⊎_elim, not-suc-le-zero, le_of_suc-le-suc, eq-or-lt_of_le}

-- ---- two tests

pub and_left : (a b : Bool) → a && b ≡ true → a ≡ true
and_left true b e = refl
and_left false b e = e

pub and_right : (a b : Bool) → a && b ≡ true → b ≡ true
and_right true b e = e
and_right false b e = cc

pub and_both : {a b : Bool} → a ≡ true → b ≡ true → a && b ≡ true
and_both {a} {b} p q = rw (p, q)

pub or_false_left : (a b : Bool) → a || b ≡ false → a ≡ false
or_false_left true b e = e
or_false_left false b e = refl

pub or_false_right : (a b : Bool) → a || b ≡ false → b ≡ false
or_false_right true b e = cc
or_false_right false b e = e

-- ---- a choice by a test

pub cond_true : {A : Type 0} {t : Bool} (a b : A) → t ≡ true → cond t a b ≡ a
cond_true a b e = rw e

pub cond_false : {A : Type 0} {t : Bool} (a b : A) → t ≡ false → cond t a b ≡ b
cond_false a b e = rw e

-- ---- every number below a bound

-- f holds of each number below n
unfoldable pub below : (ℕ → Bool) → ℕ → Bool
below f zero = true
below f (suc n) = f n && below f n

pub below_at : (f : ℕ → Bool) (n : ℕ) → below f n ≡ true → (i : ℕ) → i < n → f i ≡ true
unfolding below
below_at f zero t i h = absurd (not-suc-le-zero h)
below_at f (suc n) t i h =
    ⊎_elim (λ e. ap f e ∙ and_left (f n) (below f n) t)
    (below_at f n (and_right (f n) (below f n) t) i) (eq-or-lt_of_le (le_of_suc-le-suc h))
