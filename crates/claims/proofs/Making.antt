-- One claim as the code stores it: its record put into a part of the buffer.
use mathlib.Core.Path.{◌≡◌}
use mathlib.Core.List.{List, [], ◌++◌}
use Prim.Native.Nat.{ℕ, ◌+◌, ◌-◌, ◌*◌, ◌≤◌}
use lib.ListN.{length, take, drop}
use Rattle.lists.specs.Put.{put}
use Rattle.records.specs.declared.Claim.{Claim}
use Rattle.std.proofs.Common.{Result}
use Rattle.records.specs.declared.Refusal.{Refusal}
use Rattle.records.specs.MessageRecords.{claim_kind, claim_values, size, Writing, writing, wrote_number}
use Rattle.records.proofs.Answers.{stored_record}
use Rattle.claims.specs.Written.{claim_bytes}
use Rattle.claims.specs.Passes.{claim_length}

-- a claim written to the part of a buffer from its record place on is put there
pub stored_claim : (l o : List ℕ) (n : ℕ) (c : Claim) (r : Result Unit Refusal) → 35 * n + 35 ≤ length l
    → ◌≡◌ {A = Writing} (record { number = wrote_number r; buffer = o })
    (writing claim_kind (claim_values c) [] (take (length l - 35 * n) (drop (35 * n) l)))
    → take (35 * n) l ++ (o ++ drop (length l - 35 * n) (drop (35 * n) l)) ≡ put l (35 * n) (claim_bytes c)
unfolding claim_bytes size claim_kind
stored_claim l o n c r h e = stored_record claim_kind (claim_values c) [] l o (35 * n) r (claim_length c) h e
