-- A pass over a run of claims: it counts them, and where it writes it stores each as a record behind the last. One set of loops
-- makes both passes; these are the contracts' words for them, and the laws for a loop that makes one place after the other.
use Rattle.std.specs.Prelude.{◌≡◌, refl, Bool, true, false, cond, List, [], ◌∷◌, ◌++◌, ℕ, zero, suc, ◌+◌, ◌-◌, ◌*◌, ◌≤◌, ◌<◌, length}
use Rattle.std.proofs.Common.{ap, sym, ◌∙◌, subst, true≢false, append_assoc, append-nil, arith, add-zero, add-suc, mul-suc, length-append}
use Rattle.std.proofs.Math.Numerals.{add-one}
use Rattle.lists.specs.Put.{put, put_none}
use Rattle.lists.specs.Numbers.{bytes_of}
use Rattle.lists.specs.Fields.{encode}
use Rattle.lists.specs.Tabulate.{each}
use Rattle.records.specs.declared.Claim.{Claim}
use Rattle.records.specs.MessageRecords.{claim_kind, claim_values, record_bytes}
use Rattle.claims.specs.Written.{claim_size, claim_bytes, bytes_of_all}

-- ---- records in a buffer

-- The claims stored from the record place n of a buffer on.
unfoldable pub place : List ℕ → ℕ → List Claim → List ℕ
place l n cs = put l (claim_size * n) (bytes_of_all cs)

pub claim_length : (c : Claim) → length (claim_bytes c) ≡ 35
unfolding claim_bytes record_bytes claim_kind claim_values encode bytes_of
claim_length c = refl

pub all_append : (xs ys : List Claim) → bytes_of_all (xs ++ ys) ≡ bytes_of_all xs ++ bytes_of_all ys
unfolding bytes_of_all
all_append [] ys = refl
all_append (c ∷ cs) ys =
    ap (λ (r : List ℕ). claim_bytes c ++ r) (all_append cs ys) ∙ sym (append_assoc (claim_bytes c) (bytes_of_all cs) (bytes_of_all ys))

pub place_none : (l : List ℕ) (n : ℕ) → place l n [] ≡ l
unfolding place bytes_of_all
place_none l n = put_none l (35 * n)

pub place_one : (l : List ℕ) (n : ℕ) (c : Claim) → place l n (c ∷ []) ≡ put l (35 * n) (claim_bytes c)
unfolding place bytes_of_all
place_one l n c = ap (put l (35 * n)) (append-nil (claim_bytes c))

-- ---- a pass

-- What a pass over claims from the record place n on asks: a count that fits, and room where it writes.
pub record Free (w : Bool) (l : List ℕ) (n : ℕ) (cs : List Claim) : Type 0 where
  pub few : n + length cs ≤ 1000000
  pub room : w ≡ true → 35 * (n + length cs) ≤ length l

-- What it leaves: the next record place, and the buffer.
pub record Passed (w : Bool) (l after : List ℕ) (n r : ℕ) (cs : List Claim) : Type 0 where
  pub next : r ≡ n + length cs
  pub bytes : after ≡ cond w (place l n cs) l

pub passed_nothing : (w : Bool) (l : List ℕ) (n : ℕ) (cs : List Claim) → cs ≡ [] → Passed w l l n n cs
passed_nothing w l n cs e = record { next = omega (arith, ap length e); bytes = go w }
  where
    go : (w : Bool) → l ≡ cond w (place l n cs) l
    go true = sym (ap (place l n) e ∙ place_none l n)
    go false = refl

-- one claim: counted, or stored
pub passed_count : (w : Bool) (l : List ℕ) (n : ℕ) (cs : List Claim) (c : Claim) → w ≡ false → cs ≡ c ∷ [] → Passed w l l n (n + 1) cs
passed_count true l n cs c f e = absurd (true≢false f)
passed_count false l n cs c f e = record { next = omega (arith, ap length e); bytes = refl }

pub passed_store : (w : Bool) (l after : List ℕ) (n : ℕ) (cs : List Claim) (c : Claim) → w ≡ true → cs ≡ c ∷ [] → after ≡ put l (35 * n) (claim_bytes c)
    → Passed w l after n (n + 1) cs
passed_store true l after n cs c t e b =
    record { next = omega (arith, ap length e); bytes = b ∙ sym (ap (place l n) e ∙ place_one l n c) }
passed_store false l after n cs c t e b = absurd (true≢false (sym t))

pub room_one : (l : List ℕ) (n : ℕ) (cs : List Claim) (c : Claim) → cs ≡ c ∷ [] → 35 * (n + length cs) ≤ length l → 35 * n + 35 ≤ length l
room_one l n cs c e h = omega (arith, ap length e)

-- what is left after the first run is free for the second
pub free_append : (w : Bool) (l b : List ℕ) (n m : ℕ) (xs ys : List Claim) → Free w l n (xs ++ ys)
    → Passed w l b n m xs → length b ≡ length l → Free w b m ys
free_append w l b n m xs ys free p e =
    record {
      few = omega (arith, length-append xs ys, p.next, free.few);
      room = λ t. omega (arith, length-append xs ys, p.next, free.room t);
    }

pub free_front : (w : Bool) (l : List ℕ) (n : ℕ) (xs ys : List Claim) → Free w l n (xs ++ ys) → Free w l n xs
free_front w l n xs ys free =
    record { few = omega (arith, length-append xs ys, free.few); room = λ t. omega (arith, length-append xs ys, free.room t) }

-- ---- a loop that makes one place after the other

module _ (f : ℕ → List Claim) (k : ℕ) where
  pub each_more : each (k + 1) f ≡ each k f ++ f k
  unfolding each
  each_more = rw add-one

  pub each_length : length (each (k + 1) f) ≡ length (each k f) + length (f k)
  each_length = rw each_more (length-append (each k f) (f k))

each_grows : (f : ℕ → List Claim) (k j : ℕ) → length (each k f) ≤ length (each (k + j) f)
each_grows f k zero = rw add-zero (omega arith)
each_grows f k (suc j) = rw (add-suc, ← add-one) (omega (arith, each_length f (k + j), each_grows f k j))

pub each_within : (f : ℕ → List Claim) (k n : ℕ) → k ≤ n → length (each k f) ≤ length (each n f)
each_within f k n h =
    let e : k + (n - k) ≡ n = omega arith in
    rw e at (each_grows f k (n - k))

-- at most b claims at each place
pub each_few : (f : ℕ → List Claim) (b k : ℕ) → ((j : ℕ) → length (f j) ≤ b) → length (each k f) ≤ b * k
unfolding each
each_few f b zero h = omega arith
each_few f b (suc k) h = rw (length-append, mul-suc) (omega (arith, each_few f b k h, h k))

-- the places below k of c are free where all are
pub free_part : (w : Bool) (f : ℕ → List Claim) (k c : ℕ) (l : List ℕ) (n : ℕ) → k ≤ c → Free w l n (each c f) → Free w l n (each k f)
free_part w f k c l n h free =
    record {
      few = omega (arith, each_within f k c h, free.few);
      room = λ t. omega (arith, each_within f k c h, free.room t);
    }

-- a loop begins, makes a turn and ends
pub pass_start : (w : Bool) (f : ℕ → List Claim) (l : List ℕ) (n : ℕ) → Passed w l l n n (each 0 f)
unfolding each
pass_start w f l n = passed_nothing w l n [] refl

pub pass_now : (w : Bool) (f : ℕ → List Claim) (k c : ℕ) (l b : List ℕ) (n m : ℕ)
    → suc k ≤ c → Free w l n (each c f) → Passed w l b n m (each k f) → length b ≡ length l → Free w b m (f k)
pass_now w f k c l b n m h free p e =
    free_append w l b n m (each k f) (f k) (rw (each_more f k) at (free_part w f (k + 1) c l n (omega arith) free)) p e

pub pass_end : (w : Bool) (f : ℕ → List Claim) (k c : ℕ) (l b : List ℕ) (n m : ℕ) → k ≡ c → Passed w l b n m (each k f) → Passed w l b n m (each c f)
pass_end w f k c l b n m e p = subst (λ (x : ℕ). Passed w l b n m (each x f)) e p

-- ---- the invariant of such a loop: k places of c are passed, and the buffer keeps its length

pub record Turning (w : Bool) (f : ℕ → List Claim) (c : ℕ) (l buffer : List ℕ) (n m k : ℕ) : Type 0 where
  pub turns : k ≤ c
  pub passed : Passed w l buffer n m (each k f)
  pub sized : length buffer ≡ length l

pub turn_start : (w : Bool) (f : ℕ → List Claim) (c : ℕ) (l : List ℕ) (n : ℕ) → Turning w f c l l n n 0
turn_start w f c l n = record { turns = omega arith; passed = pass_start w f l n; sized = refl }

module _ {w : Bool} (f : ℕ → List Claim) {c : ℕ} {l buffer : List ℕ} {n m k : ℕ} (free : Free w l n (each c f)) (t : Turning w f c l buffer n m k) where
  -- the next place is free
  pub turn_free : k < c → Free w buffer m (f k)
  turn_free h = pass_now w f k c l buffer n m h free t.passed t.sized

  pub turn_end : c ≤ k → Passed w l buffer n m (each c f)
  turn_end h = pass_end w f k c l buffer n m (omega (arith, t.turns)) t.passed

-- ---- a pass from the buffer's start

pub free_count : (l : List ℕ) (cs : List Claim) → length cs ≤ 1000000 → Free false l 0 cs
free_count l cs h = record { few = omega arith; room = λ t. absurd (true≢false (sym t)) }

pub free_store : (l : List ℕ) (cs : List Claim) → length cs ≤ 1000000 → 35 * length cs ≤ length l → Free true l 0 cs
free_store l cs h k = record { few = omega arith; room = λ t. omega arith }
