-- A run has no bad record exactly when it is the records of claims with good parties, its sums are those over the claims, and runs of whole
-- records can be joined: reading looks at no byte behind a record, and a claim's record undoes its reading.
use mathlib.Core.Path.{◌≡◌, refl, sym, ap, ap₂, ◌∙◌, subst}
use mathlib.Core.Bool.{Bool, true, false, not, cond, ◌&&◌, ◌||◌, and_assoc}
use mathlib.Core.List.{List, [], ◌∷◌, ◌++◌, append-nil, map}
use Prim.Native.Nat.{ℕ, zero, suc, ◌+◌, ◌*◌, ◌/◌, ◌≤◌, ◌<◌}
use native.Mathlib.Nat.{zero-add, suc-add}
use native.Mathlib.Omega.{arith}
use lib.ListN.{length, take, drop, length-append, length-drop, take-append-drop}
use lib.Seq.{drop-nil, take-append-le, drop-append-le, get_or-drop}
use borrow.Author.Tests.{not-false}
use Rattle.lists.specs.All.{all}
use Rattle.lists.specs.Fields.{total}
use Rattle.lists.proofs.Fields.{decode_fit}
use Rattle.lists.specs.Numbers.{Bytes}
use Rattle.lists.specs.Sums.{sum_append, sum_map}
use Rattle.lists.specs.Tests.{and_left, and_right, and_both}
use Rattle.records.specs.declared.Claim.{Claim}
use Rattle.std.proofs.Common.{Option, Some, None}
use Rattle.records.specs.MessageRecords.{claim_kind, claim_of, size, reads}
use Rattle.records.proofs.Behind.{reads_enough, claim_behind}
use Rattle.records.proofs.Readings.{claim_long, claim_decoded}
use Rattle.records.proofs.RecordKinds.{claim_lawful}
use Rattle.records.proofs.RoundTrips.{claim_written_read}
use Rattle.claims.specs.Written.{claim_bytes, bytes_of_all, written, read_claim, readings, Fits, AllFit}
use Rattle.claims.proofs.Passes.{all_length}
use Rattle.claims.proofs.Written.{readings_written}
use Rattle.cash.specs.Cash.{record_count, records_of, good_parties, is_good, bad_run, pay_on, receive_on, cents_to_pay, cents_to_receive}
use Rattle.cash.specs.Runs.{RunOf, EveryGoodRun, EverySum, EveryJoin}

-- ---- the records of claims

module _ (claims : List Claim) (fit : AllFit claims) where
  pub records_of_all : records_of (bytes_of_all claims) ≡ map Some claims
  unfolding records_of record_count written
  records_of_all =
      let n : (length (bytes_of_all claims) + 34) / 35 ≡ length claims = omega (arith, all_length claims) in
      let whole : bytes_of_all claims ++ drop (35 * length claims) [] ≡ bytes_of_all claims = rw (drop-nil, append-nil) in
      rw n (rw whole at (readings_written claims [] fit))

pub every_sum : EverySum
unfolding cents_to_pay cents_to_receive
every_sum claims account date fit =
    let e = records_of_all claims fit in
    record {
      pay_over = rw e (sum_map (pay_on account date) Some claims);
      receive_over = rw e (sum_map (receive_on account date) Some claims);
    }

pub all_good : (claims : List Claim) → all is_good (map Some claims) ≡ all good_parties claims
unfolding is_good
all_good [] = refl
all_good (c ∷ cs) = ap (λ (b : Bool). good_parties c && b) (all_good cs)

-- ---- a good run is the records of claims

-- a good record, read from bytes
record GoodRecord (s : List ℕ) : Type 0 where
  whole : reads claim_kind s ≡ true
  parties : good_parties (claim_of s) ≡ true

good_record : (s : List ℕ) → is_good (read_claim s) ≡ true → GoodRecord s
unfolding read_claim is_good
good_record s g = go (reads claim_kind s) refl g
  where
    go : (b : Bool) → reads claim_kind s ≡ b → is_good (cond b (Some (claim_of s)) None) ≡ true → GoodRecord s
    go true e g = record { whole = e; parties = g }
    go false e g = let z : ◌≡◌ {A = ℕ} 0 1 = cc in absurd (omega arith)

nothing : (s : List ℕ) → length s ≡ 0 → s ≡ []
nothing [] e = refl
nothing (x ∷ s) e = absurd (omega arith)

bytes_behind : (n : ℕ) (s : List ℕ) → Bytes s → Bytes (drop n s)
bytes_behind n s b i h = subst (λ (x : ℕ). x < 256) (sym (get_or-drop n s i 0)) (b (n + i) (omega (arith, length-drop n s)))

-- what is read fits
claim_fits : (s : List ℕ) → Bytes s → 35 ≤ length s → Fits (claim_of s)
unfolding claim_kind total
claim_fits s b h = rw (claim_decoded s) (decode_fit claim_kind.widths 4 s b h)

taken : (n : ℕ) (s : List ℕ) → Bytes s → (length s + 34) / 35 ≡ n → all is_good (readings n s) ≡ true
    → (claims : List Claim) × RunOf s claims
unfolding readings bytes_of_all claim_bytes
taken zero s b e g = ([], record { bytes = nothing s (omega arith); fit = tt; good = refl })
taken (suc n) s b e g =
    let r = good_record s (and_left (is_good (read_claim s)) (all is_good (readings n (drop 35 s))) g) in
    let long = claim_long s r.whole in
    let rest = taken n (drop 35 s) (bytes_behind 35 s b) (omega (arith, length-drop 35 s)) (and_right (is_good (read_claim s)) _ g) in (
      claim_of s ∷ rest.0,
      record {
        bytes = sym (take-append-drop 35 s) ∙ ap₂ (λ (x y : List ℕ). x ++ y) (sym (claim_written_read s b r.whole)) rest.1.bytes;
        fit = (claim_fits s b long, rest.1.fit);
        good = and_both r.parties rest.1.good;
      },
    )

good_of : (run : List ℕ) (claims : List Claim) → RunOf run claims → all is_good (records_of run) ≡ true
good_of run claims k = rw (k.bytes, records_of_all claims k.fit, all_good claims) k.good

pub every_good_run : EveryGoodRun
unfolding bad_run records_of record_count
every_good_run run b = ((λ g. taken ((length run + 34) / 35) run b refl (not-false _ g)), λ found. ap not (good_of run found.0 found.1))

-- ---- runs of whole records joined

read_front : (s t : List ℕ) → 35 ≤ length s → read_claim (s ++ t) ≡ read_claim s
unfolding read_claim size claim_kind
read_front s t h =
    let e : take 35 (s ++ t) ≡ take 35 s = take-append-le 35 s t h in
    let same : reads claim_kind (s ++ t) ≡ reads claim_kind s =
    sym (reads_enough claim_kind claim_lawful (s ++ t) (omega (arith, length-append s t))) ∙ ap (reads claim_kind) e
    ∙ reads_enough claim_kind claim_lawful s h in
    rw (same, claim_behind (s ++ t) s e)

readings_join : (n m : ℕ) (s t : List ℕ) → length s ≡ 35 * n → readings (n + m) (s ++ t) ≡ readings n s ++ readings m t
unfolding readings
readings_join zero m s t e = rw (zero-add m, nothing s (omega arith))
readings_join (suc n) m s t e =
    rw (suc-add n m, drop-append-le 35 s t (omega arith))
    (ap₂ (λ (r : Option Claim) (rs : List (Option Claim)). r ∷ rs) (read_front s t (omega arith))
    (readings_join n m (drop 35 s) t (omega (arith, length-drop 35 s))))

all_join : {A : Type 0} (p : A → Bool) (xs ys : List A) → all p (xs ++ ys) ≡ all p xs && all p ys
all_join p [] ys = refl
all_join p (x ∷ xs) ys = ap (λ (b : Bool). p x && b) (all_join p xs ys) ∙ sym (and_assoc (p x) (all p xs) (all p ys))

not_both : (a b : Bool) → not (a && b) ≡ not a || not b
not_both true b = refl
not_both false b = refl

module _ (run more : List ℕ) (n : ℕ) (e : length run ≡ 35 * n) where
  pub records_join : records_of (run ++ more) ≡ records_of run ++ records_of more
  unfolding records_of record_count
  records_join =
      let a : (length (run ++ more) + 34) / 35 ≡ n + (length more + 34) / 35 = omega (arith, length-append run more) in
      let b : (length run + 34) / 35 ≡ n = omega arith in
      rw (a, b) (readings_join n ((length more + 34) / 35) run more e)

pub every_join : EveryJoin
unfolding cents_to_pay cents_to_receive bad_run
every_join run more n account date e =
    let k = records_join run more n e in
    record {
      pay_joined = rw k (sum_append (pay_on account date) (records_of run) (records_of more));
      receive_joined = rw k (sum_append (receive_on account date) (records_of run) (records_of more));
      bad_joined = rw k (ap not (all_join is_good (records_of run) (records_of more)) ∙ not_both (all is_good (records_of run)) (all is_good (records_of more)));
    }
