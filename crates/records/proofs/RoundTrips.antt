-- Writing and reading undo each other: argued once for any kind, over the widths of its numbers, then said of each of the four.
use mathlib.Core.Path.{◌≡◌, refl, sym, ap, ap₂, ◌∙◌}
use mathlib.Core.Bool.{true, ◌&&◌}
use mathlib.Core.List.{List, [], ◌∷◌, ◌++◌, append_assoc}
use Prim.Native.Nat.{ℕ, suc, ◌+◌, ◌≤◌}
use native.Mathlib.Omega.{arith}
use lib.Dec.{leb, eqb}
use lib.ListN.{length, take, drop, get_or, length-append, take-append-drop}
use lib.Seq.{take_at, take_all, drop_at, take-take, take-add, drop-drop}
use borrow.Author.Tests.{le-leb, eq-eqb, eqb-true}
use Rattle.lists.specs.Tests.{and_left, and_right, and_both, cond_true}
use Rattle.lists.specs.Numbers.{number_of, Bytes}
use Rattle.lists.specs.Fields.{part, part_take, total, encode, decode, Fit, encode_length, fit_length}
use Rattle.lists.proofs.Fields.{decode_encode, encode_decode}
use Rattle.records.specs.declared.Transfer.{Transfer}
use Rattle.records.specs.declared.Claim.{Claim}
use Rattle.records.specs.declared.Answer.{Answer}
use Rattle.records.specs.MessageRecords.{Kind, transfer_kind, close_kind, claim_kind, answer_kind, size, record_bytes}
use Rattle.records.specs.MessageRecords.{transfer_values, claim_values, answer_values, transfer_of, claim_of, answer_of, first_line, second_line}
use Rattle.records.specs.MessageRecords.{header, headed, reads, Reading, reading, writing}
use Rattle.records.proofs.RecordKinds.{Lawful, transfer_lawful, close_lawful, claim_lawful, answer_lawful}
use Rattle.records.proofs.RecordKinds.{transfer_same, claim_same, answer_same}
use Rattle.records.proofs.Readings.{reads_size, reading_is, transfer_decoded, claim_decoded, answer_decoded}

-- ---- what is written reads back

abbrev values : Reading → List ℕ
values r = r.values

-- the text of a record of the kind
abbrev pub text_of : Kind → List ℕ → List ℕ
text_of k s = part (4 + total k.widths) k.text s

-- the bytes s read as a record of the kind with these values and this text
pub record ReadsAs (k : Kind) (vs text s : List ℕ) : Type 0 where
  pub whole : reads k s ≡ true
  pub read : reading k s ≡ record { number = 0; values = vs }
  pub texts : text_of k s ≡ text

-- a record's length
pub record_length : (k : Kind) → Lawful k → (vs text : List ℕ) → Fit k.widths vs → length text ≡ k.text
    → length (record_bytes k vs text) ≡ size k
unfolding record_bytes size total
record_length k l vs text f t =
    length-append (encode (2 ∷ 2 ∷ k.widths) (k.following ∷ k.kind ∷ vs)) text
    ∙ omega (arith, l.sized, encode_length (2 ∷ 2 ∷ k.widths) (k.following ∷ k.kind ∷ vs) (ap (λ (n : ℕ). suc (suc n)) (fit_length k.widths vs f)))

pub read_written : (k : Kind) → Lawful k → (vs text rest : List ℕ) → Fit k.widths vs → length text ≡ k.text
    → ReadsAs k vs text (record_bytes k vs text ++ rest)
unfolding record_bytes reads headed header decode total
read_written k l vs text rest f t =
    let ws = k.widths in
    let head = encode (2 ∷ 2 ∷ ws) (k.following ∷ k.kind ∷ vs) in
    let s = (head ++ text) ++ rest in
    let e : s ≡ head ++ (text ++ rest) = append_assoc head text rest in
    let d : decode (2 ∷ 2 ∷ ws) 0 s ≡ k.following ∷ k.kind ∷ vs =
    ap (decode (2 ∷ 2 ∷ ws) 0) e
    ∙ decode_encode (2 ∷ 2 ∷ ws) (k.following ∷ k.kind ∷ vs) [] (text ++ rest) (l.short, (l.small, f)) in
    let n : length head ≡ 4 + total ws =
    encode_length (2 ∷ 2 ∷ ws) (k.following ∷ k.kind ∷ vs) (ap (λ (n : ℕ). suc (suc n)) (fit_length ws vs f)) ∙ omega arith in
    let long : 2 + k.following ≤ length s =
    omega (arith, l.sized, length-append (head ++ text) rest, length-append head text) in
    let whole : reads k s ≡ true =
    and_both (le-leb (2 + k.following) (length s) long)
    (and_both (eq-eqb _ _ (ap (λ (x : List ℕ). get_or x 0 0) d)) (eq-eqb _ _ (ap (λ (x : List ℕ). get_or x 1 0) d))) in
    record {
      whole = whole;
      read = reading_is k s whole ∙ ap (λ (x : List ℕ). record { number = 0; values = drop 2 x }) d;
      texts = ap (text_of k) e
          ∙ ap (take k.text) (drop_at head (text ++ rest) (4 + total ws) n)
          ∙ take_at text rest k.text t;
    }

-- ---- what was read, written again, gives the record's bytes

pub written_read : (k : Kind) → Lawful k → (s : List ℕ) → Bytes s → reads k s ≡ true
    → record_bytes k (decode k.widths 4 s) (text_of k s) ≡ take (size k) s
unfolding record_bytes reads headed header decode total size
written_read k l s b r =
    let ws = k.widths in
    let t = and_right (leb (2 + k.following) (length s)) (eqb (number_of (part 0 2 s)) k.following && eqb (number_of (part 2 2 s)) k.kind) r in
    let f : number_of (part 0 2 s) ≡ k.following = eqb-true _ _ (and_left (eqb (number_of (part 0 2 s)) k.following) (eqb (number_of (part 2 2 s)) k.kind) t) in
    let n : number_of (part 2 2 s) ≡ k.kind = eqb-true _ _ (and_right (eqb (number_of (part 0 2 s)) k.following) (eqb (number_of (part 2 2 s)) k.kind) t) in
    let z : 2 + (2 + total ws) ≡ 4 + total ws = omega arith in
    let long = reads_size k s r in
    let w : 4 + total ws + k.text ≡ 2 + k.following = omega (arith, l.sized) in
    ap (λ (x : List ℕ). x ++ text_of k s)
    (ap₂ (λ (x y : ℕ). encode (2 ∷ 2 ∷ ws) (x ∷ y ∷ decode ws 4 s)) (sym f) (sym n)
    ∙ encode_decode (2 ∷ 2 ∷ ws) 0 s b (omega (arith, l.sized)) ∙ ap (λ (i : ℕ). take i s) z)
    ∙ sym (take-add (4 + total ws) k.text s) ∙ ap (λ (i : ℕ). take i s) w

-- over the bytes that it was read from it changes nothing
pub writing_read : (k : Kind) → Lawful k → (s : List ℕ) → Bytes s → reads k s ≡ true
    → writing k (decode k.widths 4 s) (text_of k s) s ≡ record { number = 0; buffer = s }
unfolding writing
writing_read k l s b r =
    cond_true _ _ (le-leb (size k) (length s) (reads_size k s r))
    ∙ ap (λ (x : List ℕ). record { number = 0; buffer = x })
    (ap (λ (x : List ℕ). x ++ drop (size k) s) (written_read k l s b r) ∙ take-append-drop (size k) s)

-- ---- transfers

-- the two lines are the text
pub lines_text : (s : List ℕ) → first_line s ++ second_line s ≡ text_of transfer_kind s
unfolding first_line second_line transfer_kind total
lines_text s = ap (λ (x : List ℕ). take 64 (drop 13 s) ++ take 64 x) (sym (drop-drop 64 13 s)) ∙ sym (take-add 64 64 (drop 13 s))

-- the bytes s read as a transfer with its two lines
pub record ReadsTransfer (t : Transfer) (first second s : List ℕ) : Type 0 where
  pub whole : reads transfer_kind s ≡ true
  pub fields : transfer_of s ≡ t
  pub line1 : first_line s ≡ first
  pub line2 : second_line s ≡ second

pub transfer_read_written : (t : Transfer) (first second rest : List ℕ) → Fit transfer_kind.widths (transfer_values t)
    → length first ≡ 64 → length second ≡ 64
    → ReadsTransfer t first second (record_bytes transfer_kind (transfer_values t) (first ++ second) ++ rest)
unfolding transfer_kind first_line second_line total
transfer_read_written t first second rest f a b =
    let s = record_bytes transfer_kind (transfer_values t) (first ++ second) ++ rest in
    let k = read_written transfer_kind transfer_lawful (transfer_values t) (first ++ second) rest f (length-append first second ∙ omega arith) in
    let v : decode transfer_kind.widths 4 s ≡ transfer_values t = ap values (sym (reading_is transfer_kind s k.whole) ∙ k.read) in
    record {
      whole = k.whole;
      fields = transfer_same (transfer_of s) t (transfer_decoded s ∙ v);
      line1 = sym (take-take 64 128 (drop 13 s) (omega arith)) ∙ ap (take 64) k.texts ∙ take_at first second 64 a;
      line2 = ap (take 64) (sym (drop-drop 64 13 s)) ∙ sym (part_take 64 64 128 (drop 13 s) (omega arith))
          ∙ ap (part 64 64) k.texts ∙ ap (take 64) (drop_at first second 64 a) ∙ take_all 64 second (omega arith);
    }

pub transfer_written_read : (s : List ℕ) → Bytes s → reads transfer_kind s ≡ true
    → record_bytes transfer_kind (transfer_values (transfer_of s)) (first_line s ++ second_line s) ≡ take 141 s
unfolding size transfer_kind
transfer_written_read s b r =
    ap₂ (record_bytes transfer_kind) (transfer_decoded s) (lines_text s) ∙ written_read transfer_kind transfer_lawful s b r

-- ---- closes

pub close_read_written : (rest : List ℕ) → reads close_kind (record_bytes close_kind [] [] ++ rest) ≡ true
unfolding close_kind
close_read_written rest = (read_written close_kind close_lawful [] [] rest tt refl).whole

pub close_written_read : (s : List ℕ) → Bytes s → reads close_kind s ≡ true → record_bytes close_kind [] [] ≡ take 4 s
unfolding size close_kind decode total
close_written_read s b r = written_read close_kind close_lawful s b r

-- ---- claims

-- the bytes s read as a claim
pub record ReadsClaim (c : Claim) (s : List ℕ) : Type 0 where
  pub whole : reads claim_kind s ≡ true
  pub fields : claim_of s ≡ c

pub claim_read_written : (c : Claim) (rest : List ℕ) → Fit claim_kind.widths (claim_values c)
    → ReadsClaim c (record_bytes claim_kind (claim_values c) [] ++ rest)
unfolding claim_kind
claim_read_written c rest f =
    let s = record_bytes claim_kind (claim_values c) [] ++ rest in
    let k = read_written claim_kind claim_lawful (claim_values c) [] rest f refl in
    let v : decode claim_kind.widths 4 s ≡ claim_values c = ap values (sym (reading_is claim_kind s k.whole) ∙ k.read) in
    record { whole = k.whole; fields = claim_same (claim_of s) c (claim_decoded s ∙ v) }

pub claim_written_read : (s : List ℕ) → Bytes s → reads claim_kind s ≡ true
    → record_bytes claim_kind (claim_values (claim_of s)) [] ≡ take 35 s
unfolding size claim_kind
claim_written_read s b r =
    ap (λ (vs : List ℕ). record_bytes claim_kind vs []) (claim_decoded s) ∙ written_read claim_kind claim_lawful s b r

-- ---- answers

-- the bytes s read as an answer
pub record ReadsAnswer (a : Answer) (s : List ℕ) : Type 0 where
  pub whole : reads answer_kind s ≡ true
  pub fields : answer_of s ≡ a

pub answer_read_written : (a : Answer) (rest : List ℕ) → Fit answer_kind.widths (answer_values a)
    → ReadsAnswer a (record_bytes answer_kind (answer_values a) [] ++ rest)
unfolding answer_kind
answer_read_written a rest f =
    let s = record_bytes answer_kind (answer_values a) [] ++ rest in
    let k = read_written answer_kind answer_lawful (answer_values a) [] rest f refl in
    let v : decode answer_kind.widths 4 s ≡ answer_values a = ap values (sym (reading_is answer_kind s k.whole) ∙ k.read) in
    record { whole = k.whole; fields = answer_same (answer_of s) a (answer_decoded s ∙ v) }

pub answer_written_read : (s : List ℕ) → Bytes s → reads answer_kind s ≡ true
    → record_bytes answer_kind (answer_values (answer_of s)) [] ≡ take 6 s
unfolding size answer_kind
answer_written_read s b r =
    ap (λ (vs : List ℕ). record_bytes answer_kind vs []) (answer_decoded s) ∙ written_read answer_kind answer_lawful s b r
