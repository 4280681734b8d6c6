-- The sums of a run as the loop over its records adds them up: what is passed, with the rest of the run, gives what the whole run gives.
use mathlib.Core.Path.{◌≡◌, refl, sym, ◌∙◌}
use mathlib.Core.Bool.{Bool, true, false, not, cond, ◌&&◌}
use mathlib.Core.List.{List, [], ◌∷◌}
use Prim.Native.Nat.{ℕ, suc, ◌+◌, ◌-◌, ◌/◌, ◌≤◌, ◌<◌, min}
use native.Mathlib.Omega.{arith}
use lib.Dec.{eqb, leb}
use lib.ListN.{length, take, drop, length-drop, drop_of_length-le}
use lib.Seq.{take_all}
use borrow.Author.Tests.{leb-true, leb-false}
use Rattle.lists.specs.All.{all}
use Rattle.lists.specs.Sums.{sum}
use Rattle.records.specs.declared.Claim.{Claim}
use Rattle.records.specs.declared.Refusal.{Refusal}
use Rattle.records.specs.declared.Refusal.TheVariants as refusal
use Rattle.std.proofs.Common.{Option, Some, None, Result, Ok, Err}
use Rattle.records.specs.MessageRecords.{claim_kind, reading, claim_answer}
use Rattle.records.proofs.Answers.{claim_is, claim_not}
use Rattle.claims.specs.Written.{read_claim, readings}
use Rattle.forecast.specs.declared.Sums.{Sums}
use Rattle.cash.specs.Cash.{record_count, records_of, good_parties, is_good, bad_run, counts, cents_of, pay_on, receive_on, cents_to_pay, cents_to_receive, exact_limit}
use Rattle.forecast.specs.Adding.{capped, with_read, sums_of, good_so_far, judged}

-- ---- one record

module _ (sums : Sums) (s : List ℕ) (account date : ℕ) {r : Option Claim} (e : claim_answer r ≡ reading claim_kind s) where
  -- what is no record is bad
  pub with_none : r ≡ None → Err refusal.Claims ≡ judged (with_read (good_so_far sums) (read_claim s) account date)
  unfolding read_claim with_read judged is_good
  with_none q = rw (claim_not s e q) refl

  module _ {c : Claim} (q : r ≡ Some c) where
    -- so is one with bad parties
    pub with_bad : good_parties c ≡ false → Err refusal.Claims ≡ judged (with_read (good_so_far sums) (read_claim s) account date)
    unfolding read_claim with_read judged is_good
    with_bad g = let f = claim_is s e q in rw (f.whole, ← f.same, g) refl

    -- any other adds its claim to either sum
    pub with_good : {pay receive : ℕ} → good_parties c ≡ true
        → pay ≡ capped (sums.pay + cond (counts date c && eqb c.payer account) (cents_of c) 0)
        → receive ≡ capped (sums.receive + cond (counts date c && eqb c.payee account) (cents_of c) 0)
        → Ok (record { pay = pay; receive = receive }) ≡ judged (with_read (good_so_far sums) (read_claim s) account date)
    unfolding read_claim with_read judged is_good pay_on receive_on
    with_good g p t = let f = claim_is s e q in rw (f.whole, ← f.same, g, p, t) refl

-- ---- the records of a run, one after the other

-- how many bytes the first record has: it may be cut
abbrev pub first_size : List ℕ → ℕ
first_size s = min 35 (length s)

drop_first : (s : List ℕ) → drop 35 s ≡ drop (first_size s) s
drop_first s = go (leb 35 (length s)) refl
  where
    go : (b : Bool) → leb 35 (length s) ≡ b → drop 35 s ≡ drop (min 35 (length s)) s
    go true t = let l = leb-true 35 (length s) t in let m : min 35 (length s) ≡ 35 = omega arith in rw m refl
    go false t =
        let l = leb-false 35 (length s) t in
        let m : min 35 (length s) ≡ length s = omega arith in
        rw (m, drop_of_length-le s {i = length s} (omega arith)) (drop_of_length-le s {i = 35} (omega arith))

records_none : (s : List ℕ) → length s ≡ 0 → records_of s ≡ []
unfolding records_of record_count readings
records_none s h = rw h refl

records_more : (s : List ℕ) → 0 < length s → records_of s ≡ read_claim s ∷ records_of (drop (first_size s) s)
unfolding records_of record_count readings
records_more s h =
    let l = length-drop (first_size s) s in
    let n : (length s + 34) / 35 ≡ suc ((length (drop (first_size s) s) + 34) / 35) = omega arith in
    rw (n, drop_first s) refl

-- ---- what the loop keeps

pub record Summing (s : List ℕ) (account date : ℕ) (sums : Sums) (rest : List ℕ) : Type 0 where
  pub paid : ℕ
  pub received : ℕ
  pub good : all is_good (records_of s) ≡ all is_good (records_of rest)
  pub pay_is : sums.pay ≡ capped paid
  pub receive_is : sums.receive ≡ capped received
  pub pay_rest : cents_to_pay s account date ≡ paid + cents_to_pay rest account date
  pub receive_rest : cents_to_receive s account date ≡ received + cents_to_receive rest account date

pub sums_start : (s : List ℕ) (account date : ℕ) → Summing s account date (record { pay = 0; receive = 0 }) s
unfolding capped
sums_start s account date =
    record {
      paid = 0;
      received = 0;
      good = refl;
      pay_is = omega arith;
      receive_is = omega arith;
      pay_rest = omega arith;
      receive_rest = omega arith;
    }

-- the sums with a record's, and those of a run
abbrev added : Sums → Option Claim → ℕ → ℕ → Sums
added sums r account date = record { pay = capped (sums.pay + pay_on account date r); receive = capped (sums.receive + receive_on account date r) }

abbrev pub totals : List ℕ → ℕ → ℕ → Sums
totals s account date = record { pay = capped (cents_to_pay s account date); receive = capped (cents_to_receive s account date) }

module _ {s : List ℕ} {account date : ℕ} {sums : Sums} {rest : List ℕ} (k : Summing s account date sums rest) where
  -- the sums so far fit, with the number past the limit
  pub sums_fit : (sums.pay ≤ exact_limit + 1) × (sums.receive ≤ exact_limit + 1)
  unfolding capped
  sums_fit = let p = k.pay_is in let r = k.receive_is in (omega arith, omega arith)

  module _ {next : Result Sums Refusal} (h : 0 < length rest) (e : next ≡ judged (with_read (good_so_far sums) (read_claim rest) account date)) where
    -- a bad record
    pub sums_stop : {f : Refusal} → next ≡ Err f → Err f ≡ judged (sums_of s account date)
    unfolding with_read sums_of judged bad_run
    sums_stop {f} q = go (is_good (read_claim rest)) refl (sym q ∙ e)
      where
        go : (b : Bool) → is_good (read_claim rest) ≡ b
            → Err f ≡ cond (not b) (Err refusal.Claims) (Ok (added sums (read_claim rest) account date))
            → Err f ≡ cond (not (all is_good (records_of s))) (Err refusal.Claims) (Ok (totals s account date))
        go true g q = cc
        go false g q = q ∙ rw (k.good, records_more rest h, g) refl

    -- a good record
    pub sums_step : {sums₁ : Sums} {n : ℕ} → next ≡ Ok sums₁ → n ≡ first_size rest
        → Summing s account date sums₁ (take (length rest - n) (drop n rest))
    unfolding with_read judged cents_to_pay cents_to_receive sum
    sums_step {sums₁} {n} q c =
        let whole : take (length rest - n) (drop n rest) ≡ drop n rest = take_all (length rest - n) (drop n rest) (omega (arith, length-drop n rest)) in
        rw (whole, c) (go (is_good (read_claim rest)) refl (sym q ∙ e))
      where
        r : Option Claim
        r = read_claim rest

        go : (b : Bool) → is_good (read_claim rest) ≡ b
            → Ok sums₁ ≡ cond (not b) (Err refusal.Claims) (Ok (added sums (read_claim rest) account date))
            → Summing s account date sums₁ (drop (first_size rest) rest)
        go true g q =
            let pay : sums₁.pay ≡ capped (sums.pay + pay_on account date r) = cc in
            let receive : sums₁.receive ≡ capped (sums.receive + receive_on account date r) = cc in
            let l = records_more rest h in
            let p = k.pay_is in
            let t = k.receive_is in
            record {
              paid = k.paid + pay_on account date r;
              received = k.received + receive_on account date r;
              good = k.good ∙ rw (l, g) refl;
              pay_is = pay ∙ rw p (unfold capped in omega arith);
              receive_is = receive ∙ rw t (unfold capped in omega arith);
              pay_rest = k.pay_rest ∙ rw l (omega arith);
              receive_rest = k.receive_rest ∙ rw l (omega arith);
            }
        go false g q = absurd (let z : ◌≡◌ {A = ℕ} 0 1 = cc in omega arith)

  pub sums_end : length rest ≡ 0 → Ok sums ≡ judged (sums_of s account date)
  unfolding sums_of judged bad_run cents_to_pay cents_to_receive sum
  sums_end h =
      let l = records_none rest h in
      let g : all is_good (records_of s) ≡ true = k.good ∙ rw l refl in
      let p : sum (pay_on account date) (records_of s) ≡ k.paid = k.pay_rest ∙ rw l (omega arith) in
      let t : sum (receive_on account date) (records_of s) ≡ k.received = k.receive_rest ∙ rw l (omega arith) in
      rw (g, p, t, ← k.pay_is, ← k.receive_is) refl
