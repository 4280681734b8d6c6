-- The elements that pass a test, the last elements of a list, and lists whose keys rise; of the elements that pass a test, the first alone.
use Rattle.std.specs.Prelude.{◌≡◌, ◌&&◌, ◌||◌}
use Rattle.std.proofs.Math.Path.{refl, ap}
use Rattle.std.proofs.Common.{◌∙◌}
use Rattle.std.proofs.Math.Bool.{Bool, true, false, cond, not, and-true, and-false}
use mathlib.Core.List.{List, [], ◌∷◌, ◌++◌}
use Prim.Native.Nat.{ℕ, zero, suc, ◌-◌, ◌≤◌, ◌<◌}
use native.Mathlib.Omega.{arith}
use Rattle.std.proofs.Math.Dec.{ltb}
use Rattle.std.proofs.Math.ListN.{length, drop}
use Rattle.std.proofs.Math.Seq.{drop-nil}
use borrow.Author.Tests.{ltb-true, ltb-false, lt-ltb, le-ltb}
use Rattle.lists.specs.Tests.{and_left, and_right, and_both}
use Rattle.lists.specs.All.{all, all_each}

-- the elements that pass the test, in their order
unfoldable pub select : {A : Type 0} → (A → Bool) → List A → List A
select p [] = []
select p (x ∷ xs) = cond (p x) (x ∷ select p xs) (select p xs)

-- the last n elements, all of them where there are no more
unfoldable pub last_of : {A : Type 0} → ℕ → List A → List A
last_of n xs = drop (length xs - n) xs

-- of the elements that pass the test the first alone; all others
unfoldable pub keep_first : {A : Type 0} → (A → Bool) → List A → List A
keep_first p [] = []
keep_first p (x ∷ xs) = x ∷ cond (p x) (select (λ y. not (p y)) xs) (keep_first p xs)

-- the key of the first element that passes the test, n where none does
unfoldable pub first_key : {A : Type 0} → (A → ℕ) → ℕ → (A → Bool) → List A → ℕ
first_key key n p [] = n
first_key key n p (x ∷ xs) = cond (p x) (key x) (first_key key n p xs)

-- each element's key is above those of the elements before it
unfoldable pub rising : {A : Type 0} → (A → ℕ) → List A → Bool
rising key [] = true
rising key (x ∷ xs) = all (λ y. ltb (key x) (key y)) xs && rising key xs

module _ {A : Type 0} where
  -- ---- selecting

  pub all_select : (q p : A → Bool) (xs : List A) → all q xs ≡ true → all q (select p xs) ≡ true
  unfolding select
  all_select q p [] t = refl
  all_select q p (x ∷ xs) t = go (p x) (all_select q p xs (and_right (q x) (all q xs) t))
    where
      go : (b : Bool) → all q (select p xs) ≡ true → all q (cond b (x ∷ select p xs) (select p xs)) ≡ true
      go true ih = and_both (and_left (q x) (all q xs) t) ih
      go false ih = ih

  -- where the elements pass a test, only what is said of such elements matters
  pub select_agree : (f g q : A → Bool) (xs : List A) → all q xs ≡ true → ((x : A) → q x ≡ true → f x ≡ g x) → select f xs ≡ select g xs
  unfolding select
  select_agree f g q [] t h = refl
  select_agree f g q (x ∷ xs) t h =
      rw (h x (and_left (q x) (all q xs) t), select_agree f g q xs (and_right (q x) (all q xs) t) h)

  pub select_none : (f q : A → Bool) (xs : List A) → all q xs ≡ true → ((x : A) → q x ≡ true → f x ≡ false) → select f xs ≡ []
  unfolding select
  select_none f q [] t h = refl
  select_none f q (x ∷ xs) t h =
      rw (h x (and_left (q x) (all q xs) t)) (select_none f q xs (and_right (q x) (all q xs) t) h)

  -- tests that say the same of every element, and one that none passes
  pub select_same : (f g : A → Bool) (xs : List A) → ((x : A) → f x ≡ g x) → select f xs ≡ select g xs
  select_same f g xs h = select_agree f g (λ x. true) xs (all_each _ xs (λ x. refl)) (λ x e. h x)

  pub select_never : (f : A → Bool) (xs : List A) → ((x : A) → f x ≡ false) → select f xs ≡ []
  select_never f xs h = select_none f (λ x. true) xs (all_each _ xs (λ x. refl)) (λ x e. h x)

  -- two tests one after the other are one
  pub select_both : (f g : A → Bool) (xs : List A) → select f (select g xs) ≡ select (λ x. f x && g x) xs
  unfolding select
  select_both f g [] = refl
  select_both f g (x ∷ xs) = go (g x) (select_both f g xs)
    where
      both : List A
      both = select (λ x. f x && g x) xs

      kept : (a : Bool) (l : List A) → l ≡ both → cond a (x ∷ l) l ≡ cond (a && true) (x ∷ both) both
      kept true l e = ap (◌∷◌ x) e
      kept false l e = e

      left_out : (a : Bool) (l : List A) → l ≡ both → l ≡ cond (a && false) (x ∷ both) both
      left_out true l e = e
      left_out false l e = e

      go : (b : Bool) → select f (select g xs) ≡ both
          → select f (cond b (x ∷ select g xs) (select g xs)) ≡ cond (f x && b) (x ∷ both) both
      go true ih = kept (f x) (select f (select g xs)) ih
      go false ih = left_out (f x) (select f (select g xs)) ih

  -- ---- the last elements

  pub last_none : (n : ℕ) → last_of {A = A} n [] ≡ []
  unfolding last_of
  last_none n = drop-nil (0 - n)

  -- one more element in front
  pub last_front : (n : ℕ) (x : A) (xs : List A) → last_of n (x ∷ xs) ≡ cond (ltb (length xs) n) (x ∷ last_of n xs) (last_of n xs)
  unfolding last_of
  last_front n x xs = go (ltb (length xs) n) refl
    where
      go : (b : Bool) → ltb (length xs) n ≡ b
          → drop (length (x ∷ xs) - n) (x ∷ xs) ≡ cond b (x ∷ drop (length xs - n) xs) (drop (length xs - n) xs)
      go true e =
          let h = ltb-true (length xs) n e in
          let a : length (x ∷ xs) - n ≡ 0 = omega arith in
          let b : length xs - n ≡ 0 = omega arith in
          rw (a, b)
      go false e =
          let h = ltb-false (length xs) n e in
          let a : length (x ∷ xs) - n ≡ suc (length xs - n) = omega arith in
          rw a

  pub all_drop : (q : A → Bool) (k : ℕ) (xs : List A) → all q xs ≡ true → all q (drop k xs) ≡ true
  all_drop q zero xs t = t
  all_drop q (suc k) [] t = refl
  all_drop q (suc k) (x ∷ xs) t = all_drop q k xs (and_right (q x) (all q xs) t)

  pub all_last : (q : A → Bool) (n : ℕ) (xs : List A) → all q xs ≡ true → all q (last_of n xs) ≡ true
  unfolding last_of
  all_last q n xs t = all_drop q (length xs - n) xs t

  -- ---- rising keys

  pub rising_select : (key : A → ℕ) (p : A → Bool) (xs : List A) → rising key xs ≡ true → rising key (select p xs) ≡ true
  unfolding rising select
  rising_select key p [] t = refl
  rising_select key p (x ∷ xs) t =
      go (p x) (rising_select key p xs (and_right (all (λ y. ltb (key x) (key y)) xs) (rising key xs) t))
    where
      go : (b : Bool) → rising key (select p xs) ≡ true → rising key (cond b (x ∷ select p xs) (select p xs)) ≡ true
      go true ih = and_both (all_select _ p xs (and_left (all (λ y. ltb (key x) (key y)) xs) (rising key xs) t)) ih
      go false ih = ih

  pub rising_last : (key : A → ℕ) (n : ℕ) (xs : List A) → rising key xs ≡ true → rising key (last_of n xs) ≡ true
  unfolding last_of rising
  rising_last key n xs t = go (length xs - n) xs t
    where
      go : (k : ℕ) (xs : List A) → rising key xs ≡ true → rising key (drop k xs) ≡ true
      go zero xs t = t
      go (suc k) [] t = refl
      go (suc k) (x ∷ xs) t = go k xs (and_right (all (λ y. ltb (key x) (key y)) xs) (rising key xs) t)

  -- where keys rise, the elements of a test that holds up to n come before those of a test that holds above n
  pub select_halves : (key : A → ℕ) (n : ℕ) (f g : A → Bool) (xs : List A) → rising key xs ≡ true → ((x : A) → f x ≡ true → key x ≤ n)
      → ((x : A) → g x ≡ true → n < key x) → select f xs ++ select g xs ≡ select (λ x. f x || g x) xs
  unfolding rising select
  select_halves key n f g [] t h k = refl
  select_halves key n f g (x ∷ xs) t h k =
      go (f x) (g x) refl refl (select_halves key n f g xs (and_right (all (λ y. ltb (key x) (key y)) xs) (rising key xs) t) h k)
    where
      both : List A
      both = select (λ x. f x || g x) xs

      -- behind a key above n the first test holds nowhere
      later : n < key x → (y : A) → ltb (key x) (key y) ≡ true → f y ≡ false
      later l y e = no (f y) refl
        where
          no : (b : Bool) → f y ≡ b → b ≡ false
          no true q = absurd (omega (arith, h y q, ltb-true (key x) (key y) e))
          no false q = refl

      go : (a b : Bool) → f x ≡ a → g x ≡ b → select f xs ++ select g xs ≡ both
          → cond a (x ∷ select f xs) (select f xs) ++ cond b (x ∷ select g xs) (select g xs) ≡ cond (a || b) (x ∷ both) both
      go true true p q ih = absurd (omega (arith, h x p, k x q))
      go true false p q ih = ap (◌∷◌ x) ih
      go false true p q ih =
          let none : select f xs ≡ [] = select_none f _ xs (and_left (all (λ y. ltb (key x) (key y)) xs) (rising key xs) t) (later (k x q)) in
          rw none (ap (◌∷◌ x) (rw none at ih))
      go false false p q ih = ih

  -- ---- the first of those that pass a test

  pub all_keep_first : (q p : A → Bool) (xs : List A) → all q xs ≡ true → all q (keep_first p xs) ≡ true
  unfolding keep_first
  all_keep_first q p [] t = refl
  all_keep_first q p (x ∷ xs) t =
      let rest = and_right (q x) (all q xs) t in
      and_both (and_left (q x) (all q xs) t) (go (p x) (all_select q _ xs rest) (all_keep_first q p xs rest))
    where
      go : (b : Bool) → all q (select (λ y. not (p y)) xs) ≡ true → all q (keep_first p xs) ≡ true
          → all q (cond b (select (λ y. not (p y)) xs) (keep_first p xs)) ≡ true
      go true s k = s
      go false s k = k

  -- no more than one that passes the test is kept
  pub one_kept : (p : A → Bool) (xs : List A) → length (select p (keep_first p xs)) ≤ 1
  unfolding select keep_first
  one_kept p [] = omega arith
  one_kept p (x ∷ xs) = go (p x) (one_kept p xs)
    where
      never : (b : Bool) → b && not b ≡ false
      never true = refl
      never false = refl

      none : select p (select (λ y. not (p y)) xs) ≡ []
      none = select_both p _ xs ∙ select_never _ xs (λ y. never (p y))

      go : (b : Bool) → length (select p (keep_first p xs)) ≤ 1
          → let rest = cond b (select (λ y. not (p y)) xs) (keep_first p xs) in
          length (cond b (x ∷ select p rest) (select p rest)) ≤ 1
      go true h = omega (arith, ap length none)
      go false h = h

  -- the first key of those that pass another test
  pub first_key_select : (key : A → ℕ) (n : ℕ) (p q : A → Bool) (xs : List A)
      → first_key key n p (select q xs) ≡ first_key key n (λ x. q x && p x) xs
  unfolding select first_key
  first_key_select key n p q [] = refl
  first_key_select key n p q (x ∷ xs) = go (q x) (first_key_select key n p q xs)
    where
      go : (b : Bool) → first_key key n p (select q xs) ≡ first_key key n (λ x. q x && p x) xs
          → first_key key n p (cond b (x ∷ select q xs) (select q xs)) ≡ cond (b && p x) (key x) (first_key key n (λ x. q x && p x) xs)
      go true ih = ap (cond (p x) (key x)) ih
      go false ih = ih

  -- where keys rise, those kept are all but the ones behind the first key that pass the test
  pub keep_first_key : (key : A → ℕ) (n : ℕ) (p : A → Bool) (xs : List A) → rising key xs ≡ true
      → keep_first p xs ≡ select (λ x. not (ltb (first_key key n p xs) (key x) && p x)) xs
  unfolding keep_first select first_key rising
  keep_first_key key n p [] t = refl
  keep_first_key key n p (x ∷ xs) t =
      go (p x) refl (keep_first_key key n p xs (and_right (all (λ y. ltb (key x) (key y)) xs) (rising key xs) t))
    where
      first : Bool → ℕ
      first b = cond b (key x) (first_key key n p xs)

      go : (b : Bool) → p x ≡ b → keep_first p xs ≡ select (λ y. not (ltb (first_key key n p xs) (key y) && p y)) xs
          → x ∷ cond b (select (λ y. not (p y)) xs) (keep_first p xs)
          ≡ cond (not (ltb (first b) (key x) && p x)) (x ∷ select (λ y. not (ltb (first b) (key y) && p y)) xs)
          (select (λ y. not (ltb (first b) (key y) && p y)) xs)
      go true e ih =
          rw (le-ltb (key x) (key x) (omega arith))
          (ap (◌∷◌ x) (select_agree _ _ _ xs (and_left (all (λ y. ltb (key x) (key y)) xs) (rising key xs) t) (λ y h. rw h)))
      go false e ih = rw (e, and-false (ltb (first_key key n p xs) (key x))) (ap (◌∷◌ x) ih)

  -- in other words: an element is dropped if it passes the test and one of a lower key does
  pub keep_first_words : (key : A → ℕ) (p : A → Bool) (xs : List A) → rising key xs ≡ true
      → keep_first p xs ≡ select (λ x. not (p x && ltb 0 (length (select (λ y. ltb (key y) (key x) && p y) xs)))) xs
  unfolding keep_first select rising
  keep_first_words key p [] t = refl
  keep_first_words key p (x ∷ xs) t =
      let none : select (λ y. ltb (key y) (key x) && p y) xs ≡ []
      = select_none _ _ xs later (λ y h. rw (le-ltb (key y) (key x) (omega (arith, ltb-true (key x) (key y) h)))) in
      rw (le-ltb (key x) (key x) (omega arith), none, and-false (p x))
      (ap (◌∷◌ x) (go (p x) refl (keep_first_words key p xs (and_right (all (λ y. ltb (key x) (key y)) xs) (rising key xs) t))))
    where
      later : all (λ y. ltb (key x) (key y)) xs ≡ true
      later = and_left (all (λ y. ltb (key x) (key y)) xs) (rising key xs) t

      earlier : List A → A → List A
      earlier zs y = select (λ z. ltb (key z) (key y) && p z) zs

      dropped : List A → A → Bool
      dropped zs y = p y && ltb 0 (length (earlier zs y))

      go : (b : Bool) → p x ≡ b → keep_first p xs ≡ select (λ y. not (dropped xs y)) xs
          → cond b (select (λ y. not (p y)) xs) (keep_first p xs) ≡ select (λ y. not (dropped (x ∷ xs) y)) xs
      go true e ih = select_agree _ _ _ xs later (λ y h. rw (h, e, lt-ltb 0 (suc (length (earlier xs y))) (omega arith), and-true (p y)))
      go false e ih = ih ∙ select_agree _ _ _ xs later (λ y h. rw (h, e))
