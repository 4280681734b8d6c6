-- A table of causes with their numbers, and the number of the first that applies.
use Rattle.std.specs.Prelude.{◌≡◌, refl, Bool, true, false, cond, ◌&&◌, List, [], ◌∷◌, ◌++◌, ℕ, eqb, ltb}
use Rattle.std.proofs.Common.{arith, ltb-true}
use Rattle.lists.specs.Tests.{and_left, and_right, and_both}

pub record Cause : Type 0 where
  pub number : ℕ
  pub applies : Bool

abbrev pub cause : ℕ → Bool → Cause
cause n b = record { number = n; applies = b }

-- the number of the first cause that applies, 0 if none does
unfoldable pub first_of : List Cause → ℕ
first_of [] = 0
first_of (c ∷ cs) = cond c.applies c.number (first_of cs)

-- no cause of the table applies
abbrev pub NoneApplies : List Cause → Type 0
NoneApplies [] = Unit {0}
NoneApplies (c ∷ cs) = (c.applies ≡ false) × NoneApplies cs

-- every number of the table is above 0
unfoldable pub numbered : List Cause → Bool
numbered [] = true
numbered (c ∷ cs) = ltb 0 c.number && numbered cs

-- whether the cause with a number applies
unfoldable pub applies_at : ℕ → List Cause → Bool
applies_at n [] = false
applies_at n (c ∷ cs) = cond (eqb c.number n) c.applies (applies_at n cs)

-- the table without the cause with a number
unfoldable pub without : ℕ → List Cause → List Cause
without n [] = []
without n (c ∷ cs) = cond (eqb c.number n) cs (c ∷ without n cs)

-- the table with another test for the cause with a number
unfoldable pub with_test : ℕ → Bool → List Cause → List Cause
with_test n b [] = []
with_test n b (c ∷ cs) = cause c.number (cond (eqb c.number n) b c.applies) ∷ with_test n b cs

-- ---- the number is 0 exactly when no cause applies

pub none_applies : (cs : List Cause) → numbered cs ≡ true → first_of cs ≡ 0 → NoneApplies cs
unfolding first_of numbered
none_applies [] t e = tt
none_applies (c ∷ cs) t e = go c.applies refl e (none_applies cs (and_right (ltb 0 c.number) (numbered cs) t))
  where
    go : (b : Bool) → c.applies ≡ b → cond b c.number (first_of cs) ≡ 0 → (first_of cs ≡ 0 → NoneApplies cs)
        → (c.applies ≡ false) × NoneApplies cs
    go true a e k = let h = ltb-true 0 c.number (and_left (ltb 0 c.number) (numbered cs) t) in absurd (omega arith)
    go false a e k = (a, k e)

pub first_none : (cs : List Cause) → NoneApplies cs → first_of cs ≡ 0
unfolding first_of
first_none [] n = refl
first_none (c ∷ cs) n = rw n.0 (first_none cs n.1)

-- ---- a fact taken by its number

pub cleared_by : (n : ℕ) (cs : List Cause) → NoneApplies cs → applies_at n cs ≡ false
unfolding applies_at
cleared_by n [] k = refl
cleared_by n (c ∷ cs) k = go (eqb c.number n) (cleared_by n cs k.1)
  where
    go : (b : Bool) → applies_at n cs ≡ false → cond b c.applies (applies_at n cs) ≡ false
    go true ih = k.0
    go false ih = ih

-- ---- a table's number is that of the table without a cause that does not apply

pub first_without : (n : ℕ) (cs : List Cause) → applies_at n cs ≡ false → first_of (without n cs) ≡ first_of cs
unfolding first_of applies_at without
first_without n [] k = refl
first_without n (c ∷ cs) k = go (eqb c.number n) k (first_without n cs)
  where
    go : (b : Bool) → cond b c.applies (applies_at n cs) ≡ false → (applies_at n cs ≡ false → first_of (without n cs) ≡ first_of cs)
        → first_of (cond b cs (c ∷ without n cs)) ≡ cond c.applies c.number (first_of cs)
    go true k ih = rw k
    go false k ih = rw (ih k)

-- ---- from the answer's side: the first cause applies, or the rest decides

pub hit : {b : Bool} (n : ℕ) (cs : List Cause) → b ≡ true → n ≡ first_of (cause n b ∷ cs)
unfolding first_of
hit n cs e = rw e

pub skip : {b : Bool} {n : ℕ} (m : ℕ) (cs : List Cause) → b ≡ false → n ≡ first_of cs → n ≡ first_of (cause m b ∷ cs)
unfolding first_of
skip m cs e k = rw e k

pub none : 0 ≡ first_of []
unfolding first_of
none = refl

-- ---- groups of causes, one behind the other

pub first_group : (xs ys : List Cause) → (first_of xs ≡ 0 → ⊥) → first_of (xs ++ ys) ≡ first_of xs
unfolding first_of
first_group [] ys h = absurd (h refl)
first_group (c ∷ xs) ys h = go c.applies refl h (first_group xs ys)
  where
    go : (b : Bool) → c.applies ≡ b → (cond b c.number (first_of xs) ≡ 0 → ⊥)
        → ((first_of xs ≡ 0 → ⊥) → first_of (xs ++ ys) ≡ first_of xs)
        → cond c.applies c.number (first_of (xs ++ ys)) ≡ cond c.applies c.number (first_of xs)
    go true q h f = rw q
    go false q h f = rw q (f h)

pub next_group : (xs ys : List Cause) → NoneApplies xs → first_of (xs ++ ys) ≡ first_of ys
unfolding first_of
next_group [] ys o = refl
next_group (c ∷ xs) ys o = rw o.0 (next_group xs ys o.1)

-- where none of all applies, none of a group does
pub none_left : (xs ys : List Cause) → NoneApplies (xs ++ ys) → NoneApplies xs
none_left [] ys n = tt
none_left (c ∷ xs) ys n = (n.0, none_left xs ys n.1)

pub none_right : (xs ys : List Cause) → NoneApplies (xs ++ ys) → NoneApplies ys
none_right [] ys n = n
none_right (c ∷ xs) ys n = none_right xs ys n.1

pub numbered_append : (xs ys : List Cause) → numbered xs ≡ true → numbered ys ≡ true → numbered (xs ++ ys) ≡ true
unfolding numbered
numbered_append [] ys s t = t
numbered_append (c ∷ xs) ys s t =
    and_both (and_left (ltb 0 c.number) (numbered xs) s)
    (numbered_append xs ys (and_right (ltb 0 c.number) (numbered xs) s) t)
