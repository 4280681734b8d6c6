-- What the first bytes of the input decide: the four bytes of a header, and what the input begins with.
use mathlib.Core.Path.{◌≡◌, refl, sym, ap, ◌∙◌}
use mathlib.Core.Bool.{Bool, true, false, cond, not, ◌&&◌, ◌||◌}
use mathlib.Core.List.{List, ◌++◌}
use Prim.Native.Nat.{ℕ, suc, ◌+◌, ◌*◌, ◌≤◌, ◌<◌}
use native.Mathlib.Omega.{arith}
use lib.Dec.{eqb, ltb, leb}
use lib.ListN.{length, get_or, take, drop, length-append, length-drop}
use lib.Seq.{drop-cons, drop-append-le, take-append-le}
use borrow.Author.Tests.{eqb-true, eqb-false, eq-eqb, ne_eqb, le-leb, lt-leb, lt-ltb, le-ltb, leb-true, leb-false, ltb-true, ltb-false}
use Rattle.lists.specs.Tests.{and_left}
use Rattle.lists.specs.Numbers.{number_of}
use Rattle.lists.specs.Fields.{part}
use Rattle.records.specs.MessageRecords.{Kind, transfer_kind, close_kind, size, header, headed, reads}
use Rattle.stream.specs.declared.Next.{Next}
use Rattle.stream.specs.declared.Next.TheVariants.{Waiting, Wrong, Record}
use Rattle.stream.specs.Stream.{unready, next}

-- ---- a header

-- two bytes as a number
two_bytes : (s : List ℕ) (at : ℕ) → at + 2 ≤ length s → number_of (part at 2 s) ≡ get_or s at 0 + 256 * get_or s (suc at) 0
unfolding number_of
two_bytes s at h = rw (drop-cons s at 0 (omega arith), drop-cons s (suc at) 0 (omega arith)) (omega arith)

module _ (s : List ℕ) (following kind : ℕ) (h : 4 ≤ length s) (f : following < 256) (k : kind < 256) where
  pub header_first : (get_or s 0 0 ≡ following → ⊥) → false ≡ header following kind s
  unfolding header
  header_first n =
      let e = two_bytes s 0 (omega arith) in
      rw (ne_eqb (number_of (part 0 2 s)) following (λ q. n (omega arith))) refl

  pub header_second : (get_or s 1 0 ≡ 0 → ⊥) → false ≡ header following kind s
  unfolding header
  header_second n =
      let e = two_bytes s 0 (omega arith) in
      rw (ne_eqb (number_of (part 0 2 s)) following (λ q. n (omega arith))) refl

  module _ (a : get_or s 0 0 ≡ following) (b : get_or s 1 0 ≡ 0) where
    first_two : eqb (number_of (part 0 2 s)) following ≡ true
    first_two = eq-eqb _ _ (two_bytes s 0 (omega arith) ∙ omega arith)

    pub header_third : (get_or s 2 0 ≡ kind → ⊥) → false ≡ header following kind s
    unfolding header
    header_third n =
        let e = two_bytes s 2 (omega arith) in
        rw (first_two, ne_eqb (number_of (part 2 2 s)) kind (λ q. n (omega arith))) refl

    pub header_fourth : get_or s 2 0 ≡ kind → eqb (get_or s 3 0) 0 ≡ header following kind s
    unfolding header
    header_fourth c = rw first_two (go (eqb (get_or s 3 0) 0) refl)
      where
        e : number_of (part 2 2 s) ≡ get_or s 2 0 + 256 * get_or s 3 0
        e = two_bytes s 2 (omega arith)

        go : (x : Bool) → eqb (get_or s 3 0) 0 ≡ x → x ≡ eqb (number_of (part 2 2 s)) kind
        go true q = let z = eqb-true (get_or s 3 0) 0 q in sym (eq-eqb (number_of (part 2 2 s)) kind (e ∙ omega arith))
        go false q = let z = eqb-false (get_or s 3 0) 0 q in sym (ne_eqb (number_of (part 2 2 s)) kind (λ r. z (omega (arith, e, r))))

-- ---- what the input begins with

too_short : (k : Kind) (s : List ℕ) → length s < size k → reads k s ≡ false
unfolding reads headed header size
too_short k s h = rw (lt-leb (2 + k.following) (length s) h) refl

reads_by : (k : Kind) (s : List ℕ) (b : Bool) → header k.following k.kind s ≡ b → size k ≤ length s → reads k s ≡ b
unfolding reads headed size header
reads_by k s b e h = rw (le-leb (2 + k.following) (length s) h) e

module _ (s : List ℕ) (ended : Bool) where
  by : {t c u : Bool} → reads transfer_kind s ≡ t → reads close_kind s ≡ c → unready ended s ≡ u
      → cond t (Record 141) (cond c (Record 4) (cond u Waiting Wrong)) ≡ next ended s
  unfolding next size transfer_kind close_kind
  by e f g = rw (e, f, g) refl

  pub next_empty : length s ≡ 0 → Waiting ≡ next ended s
  unfolding unready size transfer_kind close_kind
  next_empty z = by {u = true} (too_short transfer_kind s (omega arith)) (too_short close_kind s (omega arith)) (rw z refl)

  -- a part of a record
  unready_part : (length s ≡ 0 → ⊥) → ltb (length s) 4 || header 139 1 s ≡ true → unready ended s ≡ not ended
  unfolding unready transfer_kind
  unready_part n e = rw (ne_eqb (length s) 0 n, e) (go ended)
    where
      go : (b : Bool) → not b && true ≡ not b
      go true = refl
      go false = refl

  cut_is : cond (not ended) Waiting Wrong ≡ next ended s → cond ended Wrong Waiting ≡ next ended s
  cut_is e = go ended refl ∙ e
    where
      go : (b : Bool) → ended ≡ b → cond ended Wrong Waiting ≡ cond (not ended) Waiting Wrong
      go true q = rw q refl
      go false q = rw q refl

  pub next_short : (length s ≡ 0 → ⊥) → length s < 4 → cond ended Wrong Waiting ≡ next ended s
  unfolding size transfer_kind close_kind
  next_short n h =
      cut_is
      (by (too_short transfer_kind s (omega arith)) (too_short close_kind s (omega arith)) (unready_part n (rw (lt-ltb (length s) 4 h) refl)))

  module _ (h : 4 ≤ length s) where
    pub next_transfer : true ≡ header 139 1 s → 141 ≤ length s → Record 141 ≡ next ended s
    unfolding size transfer_kind
    next_transfer e l = by {c = reads close_kind s} {u = unready ended s} (reads_by transfer_kind s true (sym e) l) refl refl

    not_close : true ≡ header 139 1 s → header 2 2 s ≡ false
    unfolding header
    not_close e =
        let n = eqb-true (number_of (part 0 2 s)) 139 (and_left _ _ (sym e)) in
        rw (ne_eqb (number_of (part 0 2 s)) 2 (λ q. omega arith)) refl

    pub next_cut : true ≡ header 139 1 s → length s < 141 → cond ended Wrong Waiting ≡ next ended s
    unfolding size transfer_kind close_kind
    next_cut e l =
        cut_is
        (by (too_short transfer_kind s l) (reads_by close_kind s false (not_close e) h)
        (unready_part (λ q. omega arith) (rw (le-ltb (length s) 4 h) (sym e))))

    module _ (t : false ≡ header 139 1 s) where
      not_transfer : reads transfer_kind s ≡ false
      unfolding reads headed header transfer_kind
      not_transfer = go (leb 141 (length s)) ∙ sym t
        where
          go : (b : Bool) → b && header 139 1 s ≡ header 139 1 s
          go true = refl
          go false = t

      pub next_close : true ≡ header 2 2 s → Record 4 ≡ next ended s
      unfolding size close_kind
      next_close e = by {u = unready ended s} not_transfer (reads_by close_kind s true (sym e) h) refl

      pub next_wrong : false ≡ header 2 2 s → Wrong ≡ next ended s
      unfolding size close_kind unready transfer_kind
      next_wrong e =
          by {u = false} not_transfer (reads_by close_kind s false (sym e) h)
          (rw (ne_eqb (length s) 0 (λ q. omega arith), le-ltb (length s) 4 h, ← t) (go ended))
        where
          go : (b : Bool) → not b && false ≡ false
          go true = refl
          go false = refl

-- ---- each case of the input by its length and its header

data Begins (s : List ℕ) : Type 0 where
  empty : length s ≡ 0 → Begins s
  short : (length s ≡ 0 → ⊥) → length s < 4 → Begins s
  transfer : 4 ≤ length s → true ≡ header 139 1 s → 141 ≤ length s → Begins s
  cut : 4 ≤ length s → true ≡ header 139 1 s → length s < 141 → Begins s
  close : 4 ≤ length s → false ≡ header 139 1 s → true ≡ header 2 2 s → Begins s
  wrong : 4 ≤ length s → false ≡ header 139 1 s → false ≡ header 2 2 s → Begins s

begins : (s : List ℕ) → Begins s
begins s =
    go (eqb (length s) 0) refl (ltb (length s) 4) refl (header 139 1 s) refl (leb 141 (length s)) refl (header 2 2 s) refl
  where
    go : (z : Bool) → eqb (length s) 0 ≡ z → (f : Bool) → ltb (length s) 4 ≡ f → (t : Bool) → t ≡ header 139 1 s → (l : Bool)
        → leb 141 (length s) ≡ l → (c : Bool) → c ≡ header 2 2 s → Begins s
    go true z f _ t _ l _ c _ = empty (eqb-true (length s) 0 z)
    go false z true f t _ l _ c _ = short (eqb-false (length s) 0 z) (ltb-true (length s) 4 f)
    go false z false f true t true l c _ = transfer (ltb-false (length s) 4 f) t (leb-true 141 (length s) l)
    go false z false f true t false l c _ = cut (ltb-false (length s) 4 f) t (leb-false 141 (length s) l)
    go false z false f false t l _ true c = close (ltb-false (length s) 4 f) t c
    go false z false f false t l _ false c = wrong (ltb-false (length s) 4 f) t c

-- the number of a case, and the size in a record's
unfoldable pub case_of : Next → ℕ
case_of (Record n) = 0
case_of Waiting = 1
case_of Wrong = 2

unfoldable size_in : Next → ℕ
size_in (Record n) = n
size_in Waiting = 0
size_in Wrong = 0

-- a part of a record is no record
cut_case : (ended : Bool) → 0 < case_of (cond ended Wrong Waiting)
unfolding case_of
cut_case true = omega arith
cut_case false = omega arith

no_record : {x : Next} {n : ℕ} → 0 < case_of x → Record n ≡ x → ⊥
unfolding case_of
no_record h e = let k = ap case_of e in absurd (omega arith)

-- a whole record has a byte and is no longer than the input
pub next_size : (ended : Bool) (s : List ℕ) (n : ℕ) → Record n ≡ next ended s → (1 ≤ n) × (n ≤ length s)
unfolding case_of size_in
next_size ended s n e = go (begins s)
  where
    at : {k : ℕ} → Record k ≡ next ended s → n ≡ k
    at q = ap size_in (e ∙ sym q)

    go : Begins s → (1 ≤ n) × (n ≤ length s)
    go (empty z) = absurd (no_record {x = Waiting} (omega arith) (e ∙ sym (next_empty s ended z)))
    go (short z h) = absurd (no_record (cut_case ended) (e ∙ sym (next_short s ended z h)))
    go (transfer h t l) = let k = at (next_transfer s ended h t l) in (omega arith, omega arith)
    go (cut h t l) = absurd (no_record (cut_case ended) (e ∙ sym (next_cut s ended h t l)))
    go (close h t c) = let k = at (next_close s ended h t c) in (omega arith, omega arith)
    go (wrong h t c) = absurd (no_record {x = Wrong} (omega arith) (e ∙ sym (next_wrong s ended h t c)))

-- ---- more input

module _ (s more : List ℕ) where
  part_more : (at w : ℕ) → at + w ≤ length s → part at w (s ++ more) ≡ part at w s
  part_more at w h =
      ap (take w) (drop-append-le at s more (omega arith)) ∙ take-append-le w (drop at s) more (omega (arith, length-drop at s))

  header_more : (following kind : ℕ) → 4 ≤ length s → header following kind s ≡ header following kind (s ++ more)
  unfolding header
  header_more following kind h = rw (part_more 0 2 (omega arith), part_more 2 2 (omega arith)) refl

  longer : (n : ℕ) → n ≤ length s → n ≤ length (s ++ more)
  longer n h = omega (arith, length-append s more)

  -- a whole record stays one
  pub record_more : (ended : Bool) (n : ℕ) → Record n ≡ next ended s → Record n ≡ next true (s ++ more)
  unfolding case_of size_in
  record_more ended n e = go (begins s)
    where
      at : {k : ℕ} → Record k ≡ next ended s → Record n ≡ Record k
      at q = ap Record (ap size_in (e ∙ sym q))

      go : Begins s → Record n ≡ next true (s ++ more)
      go (empty z) = absurd (no_record {x = Waiting} (omega arith) (e ∙ sym (next_empty s ended z)))
      go (short z h) = absurd (no_record (cut_case ended) (e ∙ sym (next_short s ended z h)))
      go (transfer h t l) =
          at (next_transfer s ended h t l) ∙ next_transfer (s ++ more) true (longer 4 h) (t ∙ header_more 139 1 h) (longer 141 l)
      go (cut h t l) = absurd (no_record (cut_case ended) (e ∙ sym (next_cut s ended h t l)))
      go (close h t c) =
          at (next_close s ended h t c) ∙ next_close (s ++ more) true (longer 4 h) (t ∙ header_more 139 1 h) (c ∙ header_more 2 2 h)
      go (wrong h t c) = absurd (no_record {x = Wrong} (omega arith) (e ∙ sym (next_wrong s ended h t c)))

  -- what is no record stays none, where input goes on
  pub wrong_more : Wrong ≡ next false s → Wrong ≡ next true (s ++ more)
  unfolding case_of
  wrong_more e = go (begins s)
    where
      other : {x : Next} → case_of x < 2 → x ≡ next false s → ⊥
      other h q = let k = ap case_of (q ∙ sym e) in absurd (omega arith)

      go : Begins s → Wrong ≡ next true (s ++ more)
      go (empty z) = absurd (other {x = Waiting} (omega arith) (next_empty s false z))
      go (short z h) = absurd (other {x = Waiting} (omega arith) (next_short s false z h))
      go (transfer h t l) = absurd (other {x = Record 141} (omega arith) (next_transfer s false h t l))
      go (cut h t l) = absurd (other {x = Waiting} (omega arith) (next_cut s false h t l))
      go (close h t c) = absurd (other {x = Record 4} (omega arith) (next_close s false h t c))
      go (wrong h t c) = next_wrong (s ++ more) true (longer 4 h) (t ∙ header_more 139 1 h) (c ∙ header_more 2 2 h)

-- at the end of the input nothing waits but no bytes
pub waiting_end : (s : List ℕ) → Waiting ≡ next true s → length s ≡ 0
unfolding case_of
waiting_end s e = go (begins s)
  where
    other : {x : Next} → (case_of x ≡ 1 → ⊥) → x ≡ next true s → ⊥
    other h q = h (ap case_of (q ∙ sym e))

    go : Begins s → length s ≡ 0
    go (empty z) = z
    go (short z h) = absurd (other {x = Wrong} (λ q. omega arith) (next_short s true z h))
    go (transfer h t l) = absurd (other {x = Record 141} (λ q. omega arith) (next_transfer s true h t l))
    go (cut h t l) = absurd (other {x = Wrong} (λ q. omega arith) (next_cut s true h t l))
    go (close h t c) = absurd (other {x = Record 4} (λ q. omega arith) (next_close s true h t c))
    go (wrong h t c) = absurd (other {x = Wrong} (λ q. omega arith) (next_wrong s true h t c))

-- what may still become a record is shorter than the longest
pub waiting_short : (s : List ℕ) → Waiting ≡ next false s → length s < 141
unfolding case_of
waiting_short s e = go (begins s)
  where
    other : {x : Next} → (case_of x ≡ 1 → ⊥) → x ≡ next false s → ⊥
    other h q = h (ap case_of (q ∙ sym e))

    go : Begins s → length s < 141
    go (empty z) = omega arith
    go (short z h) = omega arith
    go (transfer h t l) = absurd (other {x = Record 141} (λ q. omega arith) (next_transfer s false h t l))
    go (cut h t l) = l
    go (close h t c) = absurd (other {x = Record 4} (λ q. omega arith) (next_close s false h t c))
    go (wrong h t c) = absurd (other {x = Wrong} (λ q. omega arith) (next_wrong s false h t c))
