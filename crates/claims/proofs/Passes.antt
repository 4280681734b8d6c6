-- Theorems on passes that rest on the length of a claim's record.
use Rattle.std.specs.Prelude.{◌≡◌, refl, Bool, true, false, List, [], ◌∷◌, ◌++◌, ℕ, suc, ◌+◌, ◌*◌, ◌≤◌, ◌<◌, length, drop}
use Rattle.std.proofs.Common.{ap, ◌∙◌, arith, length-append}
use Rattle.lists.specs.Put.{put_length, put_start, put_put}
use Rattle.lists.specs.Tabulate.{each}
use Rattle.records.specs.declared.Claim.{Claim}
use Rattle.claims.specs.Written.{claim_bytes, bytes_of_all, written}
use Rattle.claims.specs.Passes.{claim_length, all_append, place, Free, Passed, free_part, each_more, Turning}

pub all_length : (cs : List Claim) → length (bytes_of_all cs) ≡ 35 * length cs
unfolding bytes_of_all
all_length [] = refl
all_length (c ∷ cs) = length-append (claim_bytes c) (bytes_of_all cs) ∙ rw (claim_length c, all_length cs) (omega arith)

pub place_length : (l : List ℕ) (n : ℕ) (cs : List Claim) → 35 * (n + length cs) ≤ length l → length (place l n cs) ≡ length l
unfolding place
place_length l n cs h = put_length l (35 * n) (bytes_of_all cs) (omega (arith, all_length cs))

pub place_place : (l : List ℕ) (n : ℕ) (xs ys : List Claim) → 35 * (n + length xs + length ys) ≤ length l
    → place (place l n xs) (n + length xs) ys ≡ place l n (xs ++ ys)
unfolding place
place_place l n xs ys h =
    let a : 35 * (n + length xs) ≡ 35 * n + length (bytes_of_all xs) = omega (arith, all_length xs) in
    rw (a, all_append) (put_put l (35 * n) (bytes_of_all xs) (bytes_of_all ys) (omega (arith, all_length xs, all_length ys)))

-- from the buffer's start on it is what the calls leave
pub place_written : (l : List ℕ) (cs : List Claim) → place l 0 cs ≡ written cs l
unfolding place written
place_written l cs = put_start l (bytes_of_all cs) ∙ ap (λ (k : ℕ). bytes_of_all cs ++ drop k l) (all_length cs)

-- two runs, one behind the other
pub passed_append : (w : Bool) (l b after : List ℕ) (n m r : ℕ) (xs ys : List Claim) → Free w l n (xs ++ ys)
    → Passed w l b n m xs → Passed w b after m r ys → Passed w l after n r (xs ++ ys)
passed_append true l b after n m r xs ys free p q =
    record {
      next = omega (arith, length-append xs ys, p.next, q.next);
      bytes = q.bytes
          ∙ ap (λ (x : List ℕ). place x m ys) p.bytes
          ∙ ap (λ (x : ℕ). place (place l n xs) x ys) p.next
          ∙ place_place l n xs ys (omega (arith, length-append xs ys, free.room refl));
    }
passed_append false l b after n m r xs ys free p q =
    record { next = omega (arith, length-append xs ys, p.next, q.next); bytes = q.bytes ∙ p.bytes }

pub pass_more : (w : Bool) (f : ℕ → List Claim) (k c : ℕ) (l b after : List ℕ) (n m r : ℕ) → suc k ≤ c → Free w l n (each c f)
    → Passed w l b n m (each k f) → Passed w b after m r (f k) → Passed w l after n r (each (k + 1) f)
pass_more w f k c l b after n m r h free p q =
    rw (each_more f k) (passed_append w l b after n m r (each k f) (f k) (rw (each_more f k) at (free_part w f (k + 1) c l n (omega arith) free)) p q)

module _ {w : Bool} (f : ℕ → List Claim) {c : ℕ} {l buffer : List ℕ} {n m k : ℕ} (free : Free w l n (each c f)) (t : Turning w f c l buffer n m k) where
  pub turn_step : {after : List ℕ} {r : ℕ} → k < c → Passed w buffer after m r (f k) → length after ≡ length buffer → Turning w f c l after n r (k + 1)
  turn_step {after} {r} h p e =
      record { turns = omega arith; passed = pass_more w f k c l buffer after n m r h free t.passed p; sized = e ∙ t.sized }

-- counted, then stored
pub passed_written : (l b after : List ℕ) (m n : ℕ) (cs : List Claim) → Passed false l b 0 m cs → Passed true b after 0 n cs → after ≡ written cs l
passed_written l b after m n cs p q = q.bytes ∙ ap (λ (x : List ℕ). place x 0 cs) p.bytes ∙ place_written l cs
