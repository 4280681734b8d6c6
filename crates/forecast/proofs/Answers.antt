-- What the forecast answers, from the tests of the code.
use mathlib.Core.Path.{◌≡◌, refl, sym, ap, ◌∙◌}
use mathlib.Core.Bool.{Bool, true, false, cond, ◌||◌, true≢false}
use mathlib.Core.List.{List}
use Prim.Native.Nat.{ℕ, zero, suc, ◌+◌, ◌≤◌, ◌<◌, min}
use native.Mathlib.Omega.{arith}
use lib.Dec.{ltb}
use borrow.Author.Tests.{lt-ltb, le-ltb, ltb-false, ltb-true}
use Rattle.std.proofs.Common.{Result, Ok, Err}
use Rattle.lists.specs.First.{first_of}
use Rattle.records.specs.declared.Refusal.{Refusal}
use Rattle.records.specs.declared.Refusal.TheVariants as refusal
use Rattle.records.specs.Refusals.{refusal_number}
use Rattle.records.proofs.Refusals.{above_zero}
use Rattle.cash.specs.declared.Cash.{Cash}
use Rattle.forecast.specs.declared.Sums.{Sums}
use Rattle.cash.specs.Cash.{exact_limit, bad_run, cents_to_pay, cents_to_receive, bad_wanted, past_limit, number_causes, forecast_causes, forecast_number}
use Rattle.cash.specs.Cash.{WholeCash, whole_cash, as_doubles, figures_for, figures, forecast_of}
use Rattle.forecast.specs.Adding.{Summed, capped, sums_of, judged, answered}
use Rattle.forecast.proofs.Summing.{totals}

-- ---- a sum that is held by the first number past the limit is past it where the sum is

capped_past : (n : ℕ) → ltb exact_limit (capped n) ≡ ltb exact_limit n
unfolding capped
capped_past n = go (ltb exact_limit n) refl
  where
    go : (b : Bool) → ltb exact_limit n ≡ b → ltb exact_limit (min (exact_limit + 1) n) ≡ b
    go true e = let h = ltb-true exact_limit n e in lt-ltb exact_limit (min (exact_limit + 1) n) (omega arith)
    go false e = let h = ltb-false exact_limit n e in le-ltb exact_limit (min (exact_limit + 1) n) (omega arith)

capped_within : (n : ℕ) → capped n ≤ exact_limit → capped n ≡ n
unfolding capped
capped_within n h = omega arith

-- ---- the answer

pub sums_within : (sums : Sums) → past_limit sums.pay sums.receive ≡ false → (sums.pay ≤ exact_limit) × (sums.receive ≤ exact_limit)
unfolding past_limit
sums_within sums p = (ltb-false _ _ (or_left _ _ p), ltb-false _ _ (or_right _ _ p))
  where
    or_left : (a b : Bool) → a || b ≡ false → a ≡ false
    or_left false b e = refl
    or_left true b e = e

    or_right : (a b : Bool) → a || b ≡ false → b ≡ false
    or_right false b e = e
    or_right true b e = absurd (true≢false e)

-- the number of sums: that of a bad record, or that of the limit
pub summed_number : Result Sums Refusal → ℕ
summed_number (Ok sums) = first_of (number_causes false (past_limit sums.pay sums.receive))
summed_number (Err r) = refusal_number r

module _ (run : List ℕ) (account date : ℕ) where
  no_figures : (m : ℕ) → 0 < m → figures_for m run account date ≡ whole_cash 0 0
  unfolding figures_for
  no_figures zero l = absurd (omega arith)
  no_figures (suc m) l = refl

  -- a number above 0 leaves three zeros
  refusal_answer : (r : Refusal) {n : ℕ} → refusal_number r ≡ n → forecast_number run account date ≡ n → answered (Err r) ≡ forecast_of run account date
  unfolding answered forecast_of figures
  refusal_answer r {n} e h = rw (e, h) (ap (λ (w : WholeCash). record { number = n; cash = as_doubles w }) (sym (no_figures n (rw (← e) (above_zero r)))))

  pub wanted_refused : bad_wanted account date ≡ true → answered (Err refusal.Claims) ≡ forecast_of run account date
  unfolding forecast_number forecast_causes number_causes first_of refusal_number
  wanted_refused w = refusal_answer refusal.Claims refl (rw w refl)

  module _ (w : bad_wanted account date ≡ false) where
    -- the number of the sums is that of the forecast
    pub sums_number : {sums : Summed} {past : Bool} {number : ℕ} → sums ≡ sums_of run account date → past ≡ past_limit sums.pay sums.receive
        → number ≡ first_of (number_causes sums.bad past) → number ≡ forecast_number run account date
    unfolding sums_of forecast_number forecast_causes past_limit
    sums_number e p n = n ∙ rw (p, e, w, capped_past (cents_to_pay run account date), capped_past (cents_to_receive run account date))

    -- so is that of what the code makes of them
    pub judged_sums_number : summed_number (judged (sums_of run account date)) ≡ forecast_number run account date
    unfolding sums_of judged summed_number forecast_number forecast_causes number_causes first_of past_limit refusal_number cents_to_pay
    judged_sums_number = go (bad_run run) refl
      where
        go : (b : Bool) → bad_run run ≡ b
            → summed_number (cond b (Err refusal.Claims) (Ok (totals run account date))) ≡ forecast_number run account date
        go true e = rw (w, e) refl
        go false e = rw (w, e, capped_past (cents_to_pay run account date), capped_past (cents_to_receive run account date)) refl

    -- a bad record
    pub record_refused : {f : Refusal} → Err f ≡ judged (sums_of run account date) → answered (Err f) ≡ forecast_of run account date
    unfolding sums_of judged forecast_number forecast_causes number_causes first_of refusal_number
    record_refused {f} e = go (bad_run run) refl e
      where
        go : (b : Bool) → bad_run run ≡ b → Err f ≡ cond b (Err refusal.Claims) (Ok (totals run account date))
            → answered (Err f) ≡ forecast_of run account date
        go true b q = let s : f ≡ refusal.Claims = cc in rw s (refusal_answer refusal.Claims refl (rw (w, b) refl))
        go false b q = absurd (let z : ◌≡◌ {A = ℕ} 0 1 = cc in omega arith)

    module _ {sums : Sums} (e : Ok sums ≡ judged (sums_of run account date)) where
      -- no bad record
      good_sums : (bad_run run ≡ false) × (sums ≡ totals run account date)
      unfolding sums_of judged
      good_sums = go (bad_run run) refl e
        where
          go : (b : Bool) → bad_run run ≡ b → Ok sums ≡ cond b (Err refusal.Claims) (Ok (totals run account date))
              → (bad_run run ≡ false) × (sums ≡ totals run account date)
          go true b q = absurd (let z : ◌≡◌ {A = ℕ} 0 1 = cc in omega arith)
          go false b q = (b, cc)

      past_is : {b : Bool} → past_limit sums.pay sums.receive ≡ b → past_limit (cents_to_pay run account date) (cents_to_receive run account date) ≡ b
      unfolding past_limit
      past_is p =
          rw (← capped_past (cents_to_pay run account date), ← capped_past (cents_to_receive run account date))
          (rw (good_sums.1) at p)

      -- a sum past the limit
      pub sum_refused : past_limit sums.pay sums.receive ≡ true → answered (Err refusal.Sum) ≡ forecast_of run account date
      unfolding forecast_number forecast_causes number_causes first_of refusal_number
      sum_refused p = refusal_answer refusal.Sum refl (rw (w, good_sums.0, past_is p) refl)

      -- sums that are exact
      pub accepted_answer : {cash : Cash} → past_limit sums.pay sums.receive ≡ false → cash ≡ as_doubles (whole_cash sums.pay sums.receive)
          → answered (Ok cash) ≡ forecast_of run account date
      unfolding answered forecast_of figures figures_for forecast_number forecast_causes number_causes first_of
      accepted_answer {cash} p q =
          let l = sums_within sums p in
          let pay : sums.pay ≡ cents_to_pay run account date = ap (λ (s : Sums). s.pay) good_sums.1 ∙ capped_within (cents_to_pay run account date) (rw good_sums.1 at l.0) in
          let receive : sums.receive ≡ cents_to_receive run account date = ap (λ (s : Sums). s.receive) good_sums.1 ∙ capped_within (cents_to_receive run account date) (rw good_sums.1 at l.1) in
          rw (w, good_sums.0, past_is p, q, pay, receive) refl
