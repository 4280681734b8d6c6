-- What reading answers, by the cases of the header; the fields that stand in bytes are the decoded values.
use mathlib.Core.Path.{◌≡◌, refl, sym, ap, ◌∙◌}
use mathlib.Core.Bool.{Bool, true, false, ◌&&◌}
use mathlib.Core.List.{List, []}
use Prim.Native.Nat.{ℕ, ◌+◌, ◌≤◌, ◌<◌}
use native.Mathlib.Omega.{arith}
use lib.Dec.{leb, eqb}
use lib.ListN.{length}
use borrow.Author.Tests.{le-leb, lt-leb, eq-eqb, ne_eqb, leb-true}
use Rattle.std.proofs.Common.{Some, None}
use Rattle.lists.specs.Tests.{and_left, cond_true, cond_false}
use Rattle.lists.specs.Numbers.{number_of}
use Rattle.lists.specs.Fields.{part, part_length, decode}
use Rattle.records.specs.declared.Transfer.{Transfer}
use Rattle.records.specs.declared.Claim.{Claim}
use Rattle.records.specs.declared.Answer.{Answer}
use Rattle.records.specs.MessageRecords.{Kind, transfer_kind, close_kind, claim_kind, answer_kind, size}
use Rattle.records.specs.MessageRecords.{transfer_values, claim_values, answer_values, transfer_of, claim_of, answer_of, first_line, second_line}
use Rattle.records.specs.MessageRecords.{header, headed, reads, Reading, reading, transfer_answer, close_answer, claim_answer, answer_answer}

-- ---- the header

module _ (following kind : ℕ) (s : List ℕ) where
  pub headed_short : length s < 2 + following → false ≡ headed following kind s
  unfolding headed header
  headed_short h = rw (lt-leb (2 + following) (length s) h)

  pub headed_length : 2 + following ≤ length s → (number_of (part 0 2 s) ≡ following → ⊥) → false ≡ headed following kind s
  unfolding headed header
  headed_length h n = rw (le-leb (2 + following) (length s) h, ne_eqb _ _ n)

  pub headed_kind : 2 + following ≤ length s → number_of (part 0 2 s) ≡ following
      → eqb (number_of (part 2 2 s)) kind ≡ headed following kind s
  unfolding headed header
  headed_kind h e = rw (le-leb (2 + following) (length s) h, eq-eqb _ _ e)

  pub headed_size : headed following kind s ≡ true → 2 + following ≤ length s
  unfolding headed header
  headed_size t =
      leb-true _ _ (and_left (leb (2 + following) (length s))
      (eqb (number_of (part 0 2 s)) following && eqb (number_of (part 2 2 s)) kind) t)

-- ---- any kind

module _ (k : Kind) (s : List ℕ) where
  -- a record that reads is not cut short
  pub reads_size : reads k s ≡ true → size k ≤ length s
  unfolding reads size
  reads_size t = headed_size k.following k.kind s t

  pub reading_is : reads k s ≡ true → reading k s ≡ record { number = 0; values = decode k.widths 4 s }
  unfolding reading
  reading_is t = cond_true _ _ t

  pub reading_refused : reads k s ≡ false → reading k s ≡ record { number = 5; values = [] }
  unfolding reading
  reading_refused t = cond_false _ _ t

-- ---- the four kinds

module _ (s : List ℕ) where
  -- a record that reads has its length at least
  pub transfer_long : reads transfer_kind s ≡ true → 141 ≤ length s
  unfolding transfer_kind size
  transfer_long t = reads_size transfer_kind s t

  pub close_long : reads close_kind s ≡ true → 4 ≤ length s
  unfolding close_kind size
  close_long t = reads_size close_kind s t

  pub claim_long : reads claim_kind s ≡ true → 35 ≤ length s
  unfolding claim_kind size
  claim_long t = reads_size claim_kind s t

  pub answer_long : reads answer_kind s ≡ true → 6 ≤ length s
  unfolding answer_kind size
  answer_long t = reads_size answer_kind s t

  -- each line has 64 bytes
  pub first_line_length : 141 ≤ length s → length (first_line s) ≡ 64
  unfolding first_line
  first_line_length h = part_length 13 64 s (omega arith)

  pub second_line_length : 141 ≤ length s → length (second_line s) ≡ 64
  unfolding second_line
  second_line_length h = part_length 77 64 s (omega arith)

  -- the numbers of a struct that stands in bytes are the decoded ones
  pub transfer_decoded : transfer_values (transfer_of s) ≡ decode transfer_kind.widths 4 s
  unfolding transfer_values transfer_of transfer_kind decode
  transfer_decoded = refl

  pub claim_decoded : claim_values (claim_of s) ≡ decode claim_kind.widths 4 s
  unfolding claim_values claim_of claim_kind decode
  claim_decoded = refl

  pub answer_decoded : answer_values (answer_of s) ≡ decode answer_kind.widths 4 s
  unfolding answer_values answer_of answer_kind decode
  answer_decoded = refl

-- a struct whose fields are those that stand in the bytes
pub transfer_fields : (t : Transfer) (s : List ℕ) → t.sender ≡ number_of (part 4 1 s) → t.receiver ≡ number_of (part 5 1 s)
    → t.security ≡ number_of (part 6 1 s) → t.class ≡ number_of (part 7 1 s) → t.code ≡ number_of (part 8 1 s)
    → t.par ≡ number_of (part 9 4 s) → t ≡ transfer_of s
unfolding transfer_of
transfer_fields t s a b c d e f = rw (← a, ← b, ← c, ← d, ← e, ← f)

pub claim_fields : (c : Claim) (s : List ℕ) → c.claim_type ≡ number_of (part 4 1 s) → c.outcome ≡ number_of (part 5 1 s)
    → c.payer ≡ number_of (part 6 1 s) → c.payee ≡ number_of (part 7 1 s) → c.security ≡ number_of (part 8 1 s)
    → c.row ≡ number_of (part 9 1 s) → c.transfer ≡ number_of (part 10 4 s) → c.interest.0 ≡ number_of (part 14 8 s)
    → c.principal.0 ≡ number_of (part 22 8 s) → c.release ≡ number_of (part 30 4 s) → c.slot ≡ number_of (part 34 1 s)
    → c ≡ claim_of s
unfolding claim_of
claim_fields c s e1 e2 e3 e4 e5 e6 e7 e8 e9 e10 e11 =
    rw (← e1, ← e2, ← e3, ← e4, ← e5, ← e6, ← e7, ← e8, ← e9, ← e10, ← e11)

pub answer_field : (a : Answer) (s : List ℕ) → a.number ≡ number_of (part 4 2 s) → a ≡ answer_of s
unfolding answer_of
answer_field a s e = rw (← e)

-- what each reader answers
abbrev found : List ℕ → Reading
found vs = record { number = 0; values = vs }

module _ (s : List ℕ) where
  pub transfer_read : {t : Transfer} → headed 139 1 s ≡ true → t ≡ transfer_of s → transfer_answer (Some t) ≡ reading transfer_kind s
  unfolding transfer_answer reads transfer_kind
  transfer_read h e =
      ap (λ (t : Transfer). found (transfer_values t)) e ∙ ap found (transfer_decoded s) ∙ sym (reading_is transfer_kind s h)

  pub transfer_refused : headed 139 1 s ≡ false → transfer_answer None ≡ reading transfer_kind s
  unfolding transfer_answer reads transfer_kind
  transfer_refused h = sym (reading_refused transfer_kind s h)

  pub close_answered : (b : Bool) → b ≡ headed 2 2 s → close_answer b ≡ reading close_kind s
  unfolding close_answer reads close_kind decode
  close_answered true e = sym (reading_is close_kind s (sym e))
  close_answered false e = sym (reading_refused close_kind s (sym e))

  pub claim_read : {c : Claim} → headed 33 3 s ≡ true → c ≡ claim_of s → claim_answer (Some c) ≡ reading claim_kind s
  unfolding claim_answer reads claim_kind
  claim_read h e = ap (λ (c : Claim). found (claim_values c)) e ∙ ap found (claim_decoded s) ∙ sym (reading_is claim_kind s h)

  pub claim_refused : headed 33 3 s ≡ false → claim_answer None ≡ reading claim_kind s
  unfolding claim_answer reads claim_kind
  claim_refused h = sym (reading_refused claim_kind s h)

  pub answer_read : {a : Answer} → headed 4 4 s ≡ true → a ≡ answer_of s → answer_answer (Some a) ≡ reading answer_kind s
  unfolding answer_answer reads answer_kind
  answer_read h e = ap (λ (a : Answer). found (answer_values a)) e ∙ ap found (answer_decoded s) ∙ sym (reading_is answer_kind s h)

  pub answer_refused : headed 4 4 s ≡ false → answer_answer None ≡ reading answer_kind s
  unfolding answer_answer reads answer_kind
  answer_refused h = sym (reading_refused answer_kind s h)
