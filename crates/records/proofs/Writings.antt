-- A record stored part by part from the buffer's start on is the record put there whole.
use mathlib.Core.Path.{◌≡◌, refl, sym, ap, ap₂, ◌∙◌}
use mathlib.Core.List.{List, [], ◌∷◌, ◌++◌}
use Prim.Native.Nat.{ℕ, ◌+◌, ◌≤◌, ◌<◌}
use native.Mathlib.Nat.{mod-eq_of_lt, zero-add}
use native.Mathlib.Omega.{arith}
use lib.ListN.{length, drop, length-append}
use borrow.Author.Tests.{le-leb, lt-leb}
use Rattle.lists.specs.Tests.{cond_true, cond_false}
use Rattle.lists.specs.Numbers.{bytes_of}
use Rattle.lists.specs.Fields.{encode}
use Rattle.lists.specs.Put.{put, put_start, put_put, put_length}
use Rattle.records.specs.declared.Transfer.{Transfer}
use Rattle.records.specs.declared.Claim.{Claim}
use Rattle.records.specs.declared.Answer.{Answer}
use Rattle.records.specs.MessageRecords.{Kind, transfer_kind, close_kind, claim_kind, answer_kind, size, record_bytes}
use Rattle.records.specs.MessageRecords.{transfer_values, claim_values, answer_values, Writing, writing}

-- ---- parts stored one behind the other

-- the list o is l with vs stored from its start on
pub record Stored (l vs o : List ℕ) : Type 0 where
  pub fits : length vs ≤ length l
  pub bytes : o ≡ put l 0 vs

pub stored_first : {l o : List ℕ} (vs : List ℕ) → length vs ≤ length l → o ≡ put l 0 vs → Stored l vs o
stored_first vs h e = record { fits = h; bytes = e }

pub stored_next : {l m o vs : List ℕ} {at : ℕ} (ws : List ℕ) → Stored l vs m → at ≡ length vs → at + length ws ≤ length l → o ≡ put m at ws
    → Stored l (vs ++ ws) o
stored_next {l} {m} {o} {vs} {at} ws k a h e =
    record {
      fits = rw length-append (omega arith);
      bytes = e ∙ ap₂ (λ (x : List ℕ) (i : ℕ). put x i ws) k.bytes (a ∙ sym (zero-add (length vs)))
          ∙ put_put l 0 vs ws (omega arith);
    }

pub stored_length : {l vs o : List ℕ} → Stored l vs o → length o ≡ length l
stored_length {l} {vs} {o} k = ap length k.bytes ∙ put_length l 0 vs (omega (arith, k.fits))

-- ---- what a writer answers

abbrev left : ℕ → List ℕ → Writing
left n buffer = record { number = n; buffer = buffer }

module _ (k : Kind) (vs text : List ℕ) where
  pub written : {l ps o : List ℕ} → Stored l ps o → ps ≡ record_bytes k vs text → length ps ≡ size k → left 0 o ≡ writing k vs text l
  unfolding writing
  written {l} {ps} {o} w e n =
      ap (left 0) (w.bytes ∙ put_start l ps ∙ ap₂ (λ (x : List ℕ) (i : ℕ). x ++ drop i l) e n)
      ∙ sym (cond_true _ _ (le-leb (size k) (length l) (omega (arith, w.fits))))

  pub not_written : {l : List ℕ} → length l < size k → left 10 l ≡ writing k vs text l
  unfolding writing
  not_written {l} h = sym (cond_false _ _ (lt-leb (size k) (length l) h))

-- ---- the parts that the writers store, as records

pub transfer_parts : (t : Transfer) (text : List ℕ) → t.sender < 256 → t.receiver < 256 → t.security < 256 → t.class < 256 → t.code < 256
    → ((139 ∷ 0 ∷ 1 ∷ 0 ∷ t.sender ∷ t.receiver ∷ t.security ∷ t.class ∷ t.code ∷ []) ++ bytes_of 4 t.par) ++ text
    ≡ record_bytes transfer_kind (transfer_values t) text
unfolding record_bytes transfer_kind transfer_values encode bytes_of
transfer_parts t text a b d e f = simp (mod-eq_of_lt a, mod-eq_of_lt b, mod-eq_of_lt d, mod-eq_of_lt e, mod-eq_of_lt f)

pub close_parts : 2 ∷ 0 ∷ 2 ∷ 0 ∷ [] ≡ record_bytes close_kind [] []
unfolding record_bytes close_kind encode bytes_of
close_parts = refl

pub claim_parts : (c : Claim) → c.claim_type < 256 → c.outcome < 256 → c.payer < 256 → c.payee < 256 → c.security < 256 → c.row < 256
    → (((((33 ∷ 0 ∷ 3 ∷ 0 ∷ c.claim_type ∷ c.outcome ∷ c.payer ∷ c.payee ∷ c.security ∷ c.row ∷ []) ++ bytes_of 4 c.transfer)
    ++ bytes_of 8 c.interest.0) ++ bytes_of 8 c.principal.0) ++ bytes_of 4 c.release) ++ bytes_of 1 c.slot
    ≡ record_bytes claim_kind (claim_values c) []
unfolding record_bytes claim_kind claim_values encode bytes_of
claim_parts c a b d e f g =
    simp (mod-eq_of_lt a, mod-eq_of_lt b, mod-eq_of_lt d, mod-eq_of_lt e, mod-eq_of_lt f, mod-eq_of_lt g)

pub answer_parts : (a : Answer) → (4 ∷ 0 ∷ 4 ∷ 0 ∷ []) ++ bytes_of 2 a.number ≡ record_bytes answer_kind (answer_values a) []
unfolding record_bytes answer_kind answer_values encode bytes_of
answer_parts a = refl

-- ---- the length of a record without text

pub claim_length : (c : Claim) → length (record_bytes claim_kind (claim_values c) []) ≡ 35
unfolding record_bytes claim_kind claim_values encode bytes_of
claim_length c = refl

pub answer_length : (a : Answer) → length (record_bytes answer_kind (answer_values a) []) ≡ 6
unfolding record_bytes answer_kind answer_values encode bytes_of
answer_length a = refl
