-- Claims written to a buffer are read back, each of them, and leave the buffer's length and the bytes behind them.
use mathlib.Core.Path.{◌≡◌, refl, ap, ap₂, ◌∙◌}
use mathlib.Core.List.{List, [], ◌∷◌, ◌++◌, append_assoc, map}
use Prim.Native.Nat.{ℕ, ◌*◌, ◌≤◌}
use native.Mathlib.Omega.{arith}
use lib.ListN.{length, drop, length-append, length-drop}
use lib.Seq.{drop_at}
use Rattle.lists.specs.Tests.{cond_true}
use Rattle.records.specs.declared.Claim.{Claim}
use Rattle.std.proofs.Common.{Option, Some, None}
use Rattle.records.proofs.RoundTrips.{claim_read_written}
use Rattle.claims.specs.Written.{Fits, AllFit, claim_bytes, bytes_of_all, written, read_claim, readings, AllRead}
use Rattle.claims.specs.Passes.{claim_length}
use Rattle.claims.proofs.Passes.{all_length}

pub all_fit_append : (xs ys : List Claim) → AllFit xs → AllFit ys → AllFit (xs ++ ys)
all_fit_append [] ys h k = k
all_fit_append (x ∷ xs) ys h k = (h.0, all_fit_append xs ys h.1 k)

-- ---- read back

read_claim_lem : (c : Claim) (rest : List ℕ) → Fits c → read_claim (claim_bytes c ++ rest) ≡ Some c
unfolding read_claim claim_bytes
read_claim_lem c rest f =
    let k = claim_read_written c rest f in
    cond_true _ None k.whole ∙ ap Some k.fields

readings_of : (cs : List Claim) (rest : List ℕ) → AllFit cs → readings (length cs) (bytes_of_all cs ++ rest) ≡ map Some cs
unfolding readings bytes_of_all
readings_of [] rest h = refl
readings_of (c ∷ cs) rest h =
    rw (append_assoc (claim_bytes c) (bytes_of_all cs) rest)
    (ap₂ ◌∷◌ (read_claim_lem c (bytes_of_all cs ++ rest) h.0)
    (rw (drop_at (claim_bytes c) (bytes_of_all cs ++ rest) 35 (claim_length c)) (readings_of cs rest h.1)))

pub readings_written : (cs : List Claim) (buffer : List ℕ) → AllFit cs → readings (length cs) (written cs buffer) ≡ map Some cs
unfolding written
readings_written cs buffer h = readings_of cs (drop (35 * length cs) buffer) h

pub all_read : (cs : List Claim) → AllRead (map Some cs)
all_read [] = tt
all_read (c ∷ cs) = all_read cs

pub all_read_append : (rs ss : List (Option Claim)) → AllRead rs → AllRead ss → AllRead (rs ++ ss)
all_read_append [] ss h k = k
all_read_append (None ∷ rs) ss h k = absurd h
all_read_append (Some c ∷ rs) ss h k = all_read_append rs ss h k

-- ---- the buffer

pub length_written : (cs : List Claim) (buffer : List ℕ) → 35 * length cs ≤ length buffer → length (written cs buffer) ≡ length buffer
unfolding written
length_written cs buffer h =
    length-append (bytes_of_all cs) (drop (35 * length cs) buffer)
    ∙ rw (all_length cs, length-drop (35 * length cs) buffer) (omega arith)

pub behind_written : (cs : List Claim) (buffer : List ℕ) → drop (35 * length cs) (written cs buffer) ≡ drop (35 * length cs) buffer
unfolding written
behind_written cs buffer = drop_at (bytes_of_all cs) (drop (35 * length cs) buffer) (35 * length cs) (all_length cs)
