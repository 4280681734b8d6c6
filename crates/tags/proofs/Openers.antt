-- The openers of a line: the laws for a loop that looks at every place in turn, and what the list of their places says in other words.
use mathlib.Core.Path.{◌≡◌, refl, sym, ap, ◌∙◌}
use mathlib.Core.Bool.{Bool, true, false, cond}
use mathlib.Core.Logic.{⊎_elim}
use mathlib.Core.List.Memᴰ
use mathlib.Core.List.{List, [], ◌∷◌, Memᴰ}
use Prim.Native.Nat.{ℕ, zero, suc, ◌+◌, ◌-◌, ◌≤◌, ◌<◌}
use native.Mathlib.Numerals.{add-one}
use native.Mathlib.Omega.{arith}
use lib.Dec.{eqb}
use lib.ListN.{length, take, drop, get_or, length-take, length-drop}
use lib.Seq.{drop-cons}
use borrow.Author.Tests.{ne_eqb}
use Rattle.lists.specs.Fields.{part}
use Rattle.tags.specs.ContractDateTag.{opener, same, openers_from, openers}
use Rattle.tags.proofs.Same.{same_stop, same_go, same_end, same_equal, equal_same}

-- ---- one place

opener_length : length opener ≡ 10
unfolding opener
opener_length = refl

opens : (i b : ℕ) (bs : List ℕ) (t : Bool) → same opener (take 10 (b ∷ bs)) ≡ t
    → openers_from i (b ∷ bs) ≡ cond t (i ∷ openers_from (suc i) bs) (openers_from (suc i) bs)
unfolding openers_from
opens i b bs t e = ap (λ (t : Bool). cond t (i ∷ openers_from (suc i) bs) (openers_from (suc i) bs)) e

-- fewer than ten bytes hold no opener
short : (xs : List ℕ) → length xs < 10 → same opener xs ≡ false
short xs h = go (same opener xs) refl
  where
    go : (t : Bool) → same opener xs ≡ t → t ≡ false
    go false e = refl
    go true e = absurd (omega (arith, ap length (same_equal opener xs e), opener_length))

none_in : (i : ℕ) (bs : List ℕ) → length bs < 10 → openers_from i bs ≡ []
unfolding openers_from
none_in i [] h = refl
none_in i (b ∷ bs) h =
    let s : length (take 10 (b ∷ bs)) < 10 = omega (arith, length-take 10 (b ∷ bs)) in
    rw (short (take 10 (b ∷ bs)) s) (none_in (suc i) bs (omega arith))

-- ---- the comparison at one place, as a loop goes

pub ten_bytes : (i : ℕ) (line : List ℕ) → i + 10 ≤ length line → length (part i (i + 10 - i) line) ≡ 10
ten_bytes i line h = simp (length-take, length-drop) (omega arith)

-- The first j bytes of the part are the opener's.
pub record Comparing (xs : List ℕ) (j : ℕ) : Type 0 where
  pub within : j ≤ 10
  pub rest : same opener xs ≡ same (drop j opener) (drop j xs)

pub compare_start : (xs : List ℕ) → Comparing xs 0
compare_start xs = record { within = omega arith; rest = refl }

module _ {xs : List ℕ} {j : ℕ} (c : Comparing xs j) (h : length xs ≡ 10) where
  pub compare_stop : j < 10 → (get_or xs j 0 ≡ get_or opener j 0 → ⊥) → same opener xs ≡ false
  compare_stop l n =
      c.rest ∙ same_stop opener xs j (omega (arith, opener_length)) (omega arith) (λ e. n (sym e))

  pub compare_go : j < 10 → get_or xs j 0 ≡ get_or opener j 0 → Comparing xs (j + 1)
  compare_go l e = record {
    within = omega arith;
    rest = c.rest ∙ same_go opener xs j (omega (arith, opener_length)) (omega arith) (sym e);
  }

  pub compare_end : 10 ≤ j → same opener xs ≡ true
  compare_end l = c.rest ∙ same_end opener xs j (omega (arith, opener_length)) (omega arith)

-- ---- the scan, as a loop goes

-- What a scan has found before place i.
pub record Scanning (line : List ℕ) (i count first : ℕ) : Type 0 where
  pub at_most : count ≤ i
  pub counted : count + length (openers_from i (drop i line)) ≡ length (openers line)
  pub found : get_or (openers line) 0 0 ≡ cond (eqb count 0) (get_or (openers_from i (drop i line)) 0 first) first

pub scan_start : (line : List ℕ) → Scanning line 0 0 0
unfolding openers
scan_start line = record { at_most = omega arith; counted = omega arith; found = refl }

module _ {line : List ℕ} {i count first : ℕ} (s : Scanning line i count first) where
  module _ (h : i < length line) where
    at : (t : Bool) → same opener (part i (i + 10 - i) line) ≡ t
        → openers_from i (drop i line) ≡ cond t (i ∷ openers_from (i + 1) (drop (i + 1) line)) (openers_from (i + 1) (drop (i + 1) line))
    at t e =
        let n : i + 10 - i ≡ 10 = omega arith in
        rw (drop-cons line i 0, add-one) (opens i (get_or line i 0) (drop (suc i) line) t (rw (n, drop-cons line i 0) at e))

    pub scan_miss : same opener (part i (i + 10 - i) line) ≡ false → Scanning line (i + 1) count first
    scan_miss e = record { at_most = omega arith; counted = rw (at false e) at s.counted; found = rw (at false e) at s.found }

    pub scan_first : same opener (part i (i + 10 - i) line) ≡ true → count ≡ 0 → Scanning line (i + 1) (count + 1) i
    scan_first e z = record {
      at_most = omega arith;
      counted = omega (arith, rw (at true e) at s.counted);
      found = rw (ne_eqb (count + 1) 0 (λ e. omega arith)) (rw (at true e, z) at s.found);
    }

    pub scan_more : same opener (part i (i + 10 - i) line) ≡ true → (count ≡ 0 → ⊥) → Scanning line (i + 1) (count + 1) first
    scan_more e z = record {
      at_most = omega arith;
      counted = omega (arith, rw (at true e) at s.counted);
      found = rw (ne_eqb (count + 1) 0 (λ e. omega arith)) (rw (ne_eqb count 0 z) at s.found);
    }

  module _ (h : length line < i + 10) where
    none_left : openers_from i (drop i line) ≡ []
    none_left = none_in i (drop i line) (omega (arith, length-drop i line))

    pub scan_count : count ≡ length (openers line)
    scan_count = omega (arith, rw none_left at s.counted)

    pub scan_place : first ≡ get_or (openers line) 0 0
    scan_place = sym ((rw none_left at s.found) ∙ either (eqb count 0))
      where
        either : (b : Bool) → cond b first first ≡ first
        either true = refl
        either false = refl

-- ---- in other words

-- An opener with place p stands within bytes of which the first has place i.
record Opened (p i : ℕ) (bs : List ℕ) : Type 0 where
  into : ℕ
  place : p ≡ i + into
  within : into + 10 ≤ length bs
  bytes : part into 10 bs ≡ opener

inside : (p i : ℕ) (bs : List ℕ) → Memᴰ p (openers_from i bs) → Opened p i bs
unfolding openers_from
inside p i [] m = absurd (Memᴰ.not-nil m)
inside p i (b ∷ bs) m = go (same opener (take 10 (b ∷ bs))) refl (inside p (suc i) bs) m
  where
    later : Opened p (suc i) bs → Opened p i (b ∷ bs)
    later r = record { into = suc r.into; place = omega arith; within = omega arith; bytes = r.bytes }

    go : (t : Bool) → same opener (take 10 (b ∷ bs)) ≡ t → (Memᴰ p (openers_from (suc i) bs) → Opened p (suc i) bs)
        → Memᴰ p (cond t (i ∷ openers_from (suc i) bs) (openers_from (suc i) bs)) → Opened p i (b ∷ bs)
    go true e rest m = ⊎_elim here (λ n. later (rest n)) (Memᴰ.cases_cons m)
      where
        q : opener ≡ take 10 (b ∷ bs)
        q = same_equal opener (take 10 (b ∷ bs)) e

        here : p ≡ i → Opened p i (b ∷ bs)
        here f = record {
          into = 0;
          place = omega arith;
          within = omega (arith, ap length q, opener_length, length-take 10 (b ∷ bs));
          bytes = sym q;
        }
    go false e rest m = later (rest m)

present : (i k : ℕ) (bs : List ℕ) → part k 10 bs ≡ opener → Memᴰ (i + k) (openers_from i bs)
unfolding openers_from
present i k [] e = absurd (omega (arith, ap length e, opener_length, length-take 10 (drop k nil), length-drop k nil))
  where
    nil : List ℕ
    nil = []
present i zero (b ∷ bs) e = rw (equal_same opener (take 10 (b ∷ bs)) (sym e)) (Memᴰ.head {x = i} (omega arith))
present i (suc k) (b ∷ bs) e =
    go (same opener (take 10 (b ∷ bs))) (Memᴰ.cast (omega arith) (present (suc i) k bs e))
  where
    go : (t : Bool) → Memᴰ (i + suc k) (openers_from (suc i) bs)
        → Memᴰ (i + suc k) (cond t (i ∷ openers_from (suc i) bs) (openers_from (suc i) bs))
    go true m = Memᴰ.tail m
    go false m = m

-- A place of the openers is one where the ten bytes of the opener stand wholly within the line, and the other way.
pub opener_there : (line : List ℕ) (p : ℕ) → Memᴰ p (openers line) → (p + 10 ≤ length line) × (part p 10 line ≡ opener)
unfolding openers
opener_there line p m =
    let r = inside p 0 line m in
    let z : p ≡ r.into = omega arith in
    (omega arith, rw z r.bytes)

pub there_opener : (line : List ℕ) (p : ℕ) → p + 10 ≤ length line → part p 10 line ≡ opener → Memᴰ p (openers line)
unfolding openers
there_opener line p h e = Memᴰ.cast (omega arith) (present 0 p line e)

-- The places rise, so that each stands there once.
not_before : (i : ℕ) (bs : List ℕ) (k : ℕ) → k < length (openers_from i bs) → i ≤ get_or (openers_from i bs) k 0
unfolding openers_from
not_before i [] k h = absurd (omega arith)
not_before i (b ∷ bs) k h = go (same opener (take 10 (b ∷ bs))) (not_before (suc i) bs) k h
  where
    go : (t : Bool) → ((k : ℕ) → k < length (openers_from (suc i) bs) → suc i ≤ get_or (openers_from (suc i) bs) k 0)
        → (k : ℕ) → k < length (cond t (i ∷ openers_from (suc i) bs) (openers_from (suc i) bs))
        → i ≤ get_or (cond t (i ∷ openers_from (suc i) bs) (openers_from (suc i) bs)) k 0
    go true r zero h = omega arith
    go true r (suc k) h = omega (arith, r k (omega arith))
    go false r k h = omega (arith, r k h)

rise : (i : ℕ) (bs : List ℕ) (j k : ℕ) → j < k → k < length (openers_from i bs)
    → get_or (openers_from i bs) j 0 < get_or (openers_from i bs) k 0
unfolding openers_from
rise i [] j k l h = absurd (omega arith)
rise i (b ∷ bs) j k l h = go (same opener (take 10 (b ∷ bs))) (rise (suc i) bs) j k l h
  where
    go : (t : Bool)
        → ((j k : ℕ) → j < k → k < length (openers_from (suc i) bs) → get_or (openers_from (suc i) bs) j 0 < get_or (openers_from (suc i) bs) k 0)
        → (j k : ℕ) → j < k → k < length (cond t (i ∷ openers_from (suc i) bs) (openers_from (suc i) bs))
        → get_or (cond t (i ∷ openers_from (suc i) bs) (openers_from (suc i) bs)) j 0
        < get_or (cond t (i ∷ openers_from (suc i) bs) (openers_from (suc i) bs)) k 0
    go true r j zero l h = absurd (omega arith)
    go true r zero (suc k) l h = omega (arith, not_before (suc i) bs k (omega arith))
    go true r (suc j) (suc k) l h = r j k (omega arith) (omega arith)
    go false r j k l h = r j k l h

pub openers_rise : (line : List ℕ) (j k : ℕ) → j < k → k < length (openers line) → get_or (openers line) j 0 < get_or (openers line) k 0
unfolding openers
openers_rise line = rise 0 line
