-- A run of claim records in other words: the records of claims, one behind the other. The proofs are in proofs/.
use Rattle.std.specs.Prelude.{◌≡◌, ◌↔◌, true, false, ◌||◌, List, ◌++◌, ℕ, ◌+◌, ◌*◌, length}
use Rattle.lists.specs.All.{all}
use Rattle.lists.specs.Numbers.{Bytes}
use Rattle.lists.specs.Sums.{sum}
use Rattle.records.specs.declared.Claim.{Claim}
use Rattle.std.specs.Prelude.{Some}
use Rattle.claims.specs.Written.{claim_size, bytes_of_all, AllFit}
use Rattle.cash.specs.Cash.{good_parties, bad_run, pay_on, receive_on, cents_to_pay, cents_to_receive}

-- The run is the records of these claims and nothing else; each has two different accounts as payer and payee.
pub record RunOf (run : List ℕ) (claims : List Claim) : Type 0 where
  pub bytes : run ≡ bytes_of_all claims
  pub fit : AllFit claims
  pub good : all good_parties claims ≡ true

-- A run has no cut or bad record exactly when it is the records of such claims.
abbrev pub EveryGoodRun : Type 0
EveryGoodRun = (run : List ℕ) → Bytes run → (bad_run run ≡ false) ↔ ((claims : List Claim) × RunOf run claims)

-- Its sums are those over the claims.
pub record SumsOverClaims (claims : List Claim) (account date : ℕ) : Type 0 where
  pub pay_over : cents_to_pay (bytes_of_all claims) account date ≡ sum (λ c. pay_on account date (Some c)) claims
  pub receive_over : cents_to_receive (bytes_of_all claims) account date ≡ sum (λ c. receive_on account date (Some c)) claims

abbrev pub EverySum : Type 0
EverySum = (claims : List Claim) (account date : ℕ) → AllFit claims → SumsOverClaims claims account date

-- Runs of whole records can be put one behind the other, or forecast apart: the sums add up, and one is bad where either is.
pub record Joined (run more : List ℕ) (account date : ℕ) : Type 0 where
  pub pay_joined : cents_to_pay (run ++ more) account date ≡ cents_to_pay run account date + cents_to_pay more account date
  pub receive_joined : cents_to_receive (run ++ more) account date ≡ cents_to_receive run account date + cents_to_receive more account date
  pub bad_joined : bad_run (run ++ more) ≡ bad_run run || bad_run more

abbrev pub EveryJoin : Type 0
EveryJoin = (run more : List ℕ) (n account date : ℕ) → length run ≡ claim_size * n → Joined run more account date
