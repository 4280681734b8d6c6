-- Claims as records in a claim buffer, from its start, and read back from it.
use Rattle.std.specs.Prelude.{cond, List, [], ◌∷◌, ◌++◌, ℕ, zero, suc, ◌*◌, length, drop}
use Rattle.lists.specs.Fields.{Fit}
use Rattle.records.specs.declared.Claim.{Claim}
use Rattle.std.specs.Prelude.{Option, Some, None}
use Rattle.records.specs.MessageRecords.{claim_kind, claim_values, claim_of, record_bytes, reads}

-- The bytes of a claim record: 35.
abbrev pub claim_size : ℕ
claim_size = 35

unfoldable pub claim_bytes : Claim → List ℕ
claim_bytes c = record_bytes claim_kind (claim_values c) []

-- Claims whose fields fit their widths.
abbrev pub Fits : Claim → Type 0
Fits c = Fit claim_kind.widths (claim_values c)

abbrev pub AllFit : List Claim → Type 0
AllFit [] = Unit {0}
AllFit (c ∷ cs) = Fits c × AllFit cs

-- The claims one behind the other.
unfoldable pub bytes_of_all : List Claim → List ℕ
bytes_of_all [] = []
bytes_of_all (c ∷ cs) = claim_bytes c ++ bytes_of_all cs

-- A buffer after claims were written from its start; the bytes behind are as found.
unfoldable pub written : List Claim → List ℕ → List ℕ
written claims buffer = bytes_of_all claims ++ drop (claim_size * length claims) buffer

-- What reading a claim at the start of bytes answers.
unfoldable pub read_claim : List ℕ → Option Claim
read_claim s = cond (reads claim_kind s) (Some (claim_of s)) None

-- The first n records of a buffer, read.
unfoldable pub readings : ℕ → List ℕ → List (Option Claim)
readings zero s = []
readings (suc n) s = read_claim s ∷ readings n (drop claim_size s)

-- Each record reads, none is refused.
abbrev pub AllRead : List (Option Claim) → Type 0
AllRead [] = Unit {0}
AllRead (None ∷ rs) = ⊥
AllRead (Some c ∷ rs) = AllRead rs
