-- Reading looks at no byte behind the record: what it answers of a slice it answers of the record's bytes alone.
use mathlib.Core.Path.{◌≡◌, refl, sym, ap, ap₂, ◌∙◌}
use mathlib.Core.Bool.{Bool, true, false, cond, ◌&&◌}
use mathlib.Core.List.{List, []}
use Prim.Native.Nat.{ℕ, ◌≤◌}
use native.Mathlib.Omega.{arith}
use lib.Dec.{leb, eqb}
use lib.ListN.{length, take}
use lib.Seq.{take_all, length-take-le}
use borrow.Author.Tests.{le-leb, leb-true, leb-false}
use Rattle.lists.specs.Numbers.{number_of}
use Rattle.lists.specs.Fields.{part_take, total, decode_take}
use Rattle.records.specs.MessageRecords.{Kind, transfer_kind, claim_kind, answer_kind, size}
use Rattle.records.specs.MessageRecords.{transfer_of, claim_of, answer_of, first_line, second_line}
use Rattle.records.specs.MessageRecords.{header, headed, reads, Reading, reading}
use Rattle.records.proofs.RecordKinds.{Lawful, transfer_same, claim_same, answer_same}
use Rattle.records.proofs.Readings.{transfer_decoded, claim_decoded, answer_decoded}

-- ---- any kind

-- of the record's bytes alone the same is read
module _ (k : Kind) (l : Lawful k) (s : List ℕ) where
  pub reads_enough : size k ≤ length s → reads k (take (size k) s) ≡ reads k s
  unfolding reads headed header size
  reads_enough h =
      let n = size k in
      ap₂ (λ (x y : Bool). x && y)
      (le-leb n (length (take n s)) (omega (arith, length-take-le n s h)) ∙ sym (le-leb n (length s) h))
      (ap₂ (λ (x y : List ℕ). eqb (number_of x) k.following && eqb (number_of y) k.kind) (part_take 0 2 n s (omega (arith, l.sized))) (part_take 2 2 n s (omega (arith, l.sized))))

  pub reading_take : reading k (take (size k) s) ≡ reading k s
  unfolding reading size
  reading_take = go (leb (size k) (length s)) refl
    where
      go : (b : Bool) → leb (size k) (length s) ≡ b → reading k (take (size k) s) ≡ reading k s
      go true e =
          ap₂ (λ (t : Bool) (vs : List ℕ). cond {A = Reading} t (record { number = 0; values = vs }) (record { number = 5; values = [] }))
          (reads_enough (leb-true _ _ e)) (decode_take k.widths 4 (size k) s (omega (arith, l.sized)))
      go false e = ap (reading k) (take_all (size k) s (omega (arith, leb-false (size k) (length s) e)))

pub reading_behind : (k : Kind) → Lawful k → (s t : List ℕ) → take (size k) s ≡ take (size k) t → reading k s ≡ reading k t
reading_behind k l s t e = sym (reading_take k l s) ∙ ap (reading k) e ∙ reading_take k l t

-- ---- the fields and the lines

module _ (s : List ℕ) where
  transfer_take : transfer_of (take 141 s) ≡ transfer_of s
  unfolding transfer_kind total
  transfer_take =
      transfer_same _ _ (transfer_decoded (take 141 s) ∙ decode_take transfer_kind.widths 4 141 s (omega arith) ∙ sym (transfer_decoded s))

  claim_take : claim_of (take 35 s) ≡ claim_of s
  unfolding claim_kind total
  claim_take = claim_same _ _ (claim_decoded (take 35 s) ∙ decode_take claim_kind.widths 4 35 s (omega arith) ∙ sym (claim_decoded s))

  answer_take : answer_of (take 6 s) ≡ answer_of s
  unfolding answer_kind total
  answer_take = answer_same _ _ (answer_decoded (take 6 s) ∙ decode_take answer_kind.widths 4 6 s (omega arith) ∙ sym (answer_decoded s))

  first_take : first_line (take 141 s) ≡ first_line s
  unfolding first_line
  first_take = part_take 13 64 141 s (omega arith)

  second_take : second_line (take 141 s) ≡ second_line s
  unfolding second_line
  second_take = part_take 77 64 141 s (omega arith)

module _ (s t : List ℕ) where
  pub transfer_behind : take 141 s ≡ take 141 t → transfer_of s ≡ transfer_of t
  transfer_behind e = sym (transfer_take s) ∙ ap transfer_of e ∙ transfer_take t

  pub first_line_behind : take 141 s ≡ take 141 t → first_line s ≡ first_line t
  first_line_behind e = sym (first_take s) ∙ ap first_line e ∙ first_take t

  pub second_line_behind : take 141 s ≡ take 141 t → second_line s ≡ second_line t
  second_line_behind e = sym (second_take s) ∙ ap second_line e ∙ second_take t

  pub claim_behind : take 35 s ≡ take 35 t → claim_of s ≡ claim_of t
  claim_behind e = sym (claim_take s) ∙ ap claim_of e ∙ claim_take t

  pub answer_behind : take 6 s ≡ take 6 t → answer_of s ≡ answer_of t
  answer_behind e = sym (answer_take s) ∙ ap answer_of e ∙ answer_take t
