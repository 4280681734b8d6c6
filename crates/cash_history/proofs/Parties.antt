-- The claims of every accepted call are between two different accounts: those of a transfer since 6 does not apply, those of a close since no
-- account has par with itself.
use mathlib.Core.Path.{◌≡◌, refl, sym}
use mathlib.Core.Bool.{Bool, true, false, cond}
use mathlib.Core.List.{List, [], ◌∷◌, map}
use Prim.Native.Nat.{ℕ, zero, suc, ◌+◌, ◌<◌}
use native.Mathlib.Omega.{arith}
use lib.Dec.{ltb}
use lib.ListN.{get_or}
use borrow.Author.Tests.{ne_eqb, le-leb, ltb-true}
use Rattle.lists.specs.All.{all, all_append}
use Rattle.lists.specs.Tabulate.{each, each_of}
use Rattle.lists.specs.Tests.{and_both}
use Rattle.records.specs.declared.Transfer.{Transfer}
use Rattle.records.specs.MessageRecords.{transfer_of}
use Rattle.securities.specs.declared.Row.{Row}
use Rattle.tags.specs.declared.Tag.{Tag}
use Rattle.claims.specs.Amounts.{claim_on}
use Rattle.claims.specs.declared.Parties.{Parties}
use Rattle.claims.specs.Fails.{dues, contract_tag, transfer_parties, transfer_claims}
use Rattle.claims.specs.Close.{crossed, loan_parties, loan_claim, security_balances, lender_balances, tracking_claims, row_claims, close_claims}
use Rattle.claims.proofs.Crossed.{balance_word}
use Rattle.book.specs.declared.Book.{Book}
use Rattle.book.specs.Book.{balance_at, word}
use Rattle.history.specs.Calls.{Call, transfer, close, claims_of}
use Rattle.history.specs.Causes.{number_for}
use Rattle.history.proofs.Accepted.{taken, closed}
use Rattle.cash.specs.Cash.{good_parties}

-- ---- lists made piece by piece

all_map : {A B : Type 0} (p : B → Bool) (f : A → B) (xs : List A) → ((x : A) → p (f x) ≡ true) → all p (map f xs) ≡ true
all_map p f [] h = refl
all_map p f (x ∷ xs) h = and_both (h x) (all_map p f xs h)

all_runs : {B : Type 0} (p : B → Bool) (n : ℕ) (f : ℕ → List B) → ((i : ℕ) → i < n → all p (f i) ≡ true) → all p (each n f) ≡ true
unfolding each
all_runs p zero f h = refl
all_runs p (suc n) f h = all_append p (each n f) (f n) (all_runs p n f (λ i k. h i (omega arith))) (h n (omega arith))

all_runs_of : {A B : Type 0} (p : B → Bool) (xs : List A) (f : A → List B) → ((x : A) → all p (f x) ≡ true) → all p (each_of xs f) ≡ true
unfolding each_of
all_runs_of p [] f h = refl
all_runs_of p (x ∷ xs) f h = all_append p (f x) (each_of xs f) (h x) (all_runs_of p xs f h)

-- ---- claims

module _ (calendar tables : List ℕ) where
  good_claim : (day n par claim_type : ℕ) (x : Parties) (row : Row) → x.payer < 16 → x.payee < 16 → (x.payer ≡ x.payee → ⊥)
      → good_parties (claim_on calendar tables day n x par claim_type row) ≡ true
  unfolding good_parties claim_on
  good_claim day n par claim_type x row a b h =
      rw (ne_eqb x.payer x.payee h, le-leb x.payer 15 (omega arith), le-leb x.payee 15 (omega arith))

  good_loan : (day claim_type par s l b : ℕ) (row : Row) → l < 16 → b < 16 → (l ≡ b → par ≡ 0)
      → all good_parties (loan_claim calendar tables day claim_type row (loan_parties s l b) par) ≡ true
  unfolding loan_claim loan_parties
  good_loan day claim_type par s l b row hl hb h = go (ltb 0 par) refl
    where
      go : (t : Bool) → ltb 0 par ≡ t
          → all good_parties (cond t (claim_on calendar tables day 0 (record { security = s; payee = l; payer = b }) par claim_type row ∷ []) []) ≡ true
      go true e =
          and_both (good_claim day 0 par claim_type _ row hb hl (λ q. let z = h (sym q) in let k = ltb-true 0 par e in omega arith)) refl
      go false e = refl

  good_transfer : (limits : List ℕ) (day n : ℕ) (t : Transfer) (tag : Tag) → t.sender < 16 → t.receiver < 16 → (t.sender ≡ t.receiver → ⊥)
      → all good_parties (transfer_claims calendar tables limits day n t tag) ≡ true
  unfolding transfer_claims transfer_parties
  good_transfer limits day n t tag a b h =
      all_map good_parties _ (dues tables limits day t tag) (λ d. good_claim day n t.par d.claim_type (transfer_parties t) d.row a b h)

  good_close : (day : ℕ) (balances : List ℕ)
      → ((k s l b : ℕ) → k < 2 → s < 16 → l < 16 → b < 16 → l ≡ b → get_or (lender_balances (security_balances balances k s) l) b 0 ≡ 0)
      → all good_parties (close_claims calendar tables day balances) ≡ true
  unfolding close_claims row_claims tracking_claims
  good_close day balances own =
      all_runs good_parties 16 _ (λ s hs.
      all_runs_of good_parties (crossed calendar tables day s) _ (λ row.
      all_runs good_parties 2 _ (λ k hk.
      all_runs good_parties 16 _ (λ l hl.
      all_runs good_parties 16 _ (λ b hb. good_loan day _ _ s l b row hl hb (own k s l b hk hs hl hb))))))

  pub good_claims : (book : Book) (balances : List ℕ) (call : Call) → number_for calendar tables book balances call ≡ 0
      → all good_parties (claims_of calendar tables book balances call) ≡ true
  unfolding claims_of balance_at word
  good_claims book balances (transfer a) e =
      let f = (taken calendar tables book balances a e).fields in
      good_transfer a.limits book.day (book.count + 1) (transfer_of a.message) (contract_tag book.day a.message) f.sender
      f.receiver f.apart
  good_claims book balances (close a) e =
      let d = (closed calendar tables book balances a e).sound.balances_sound.diagonal in
      good_close book.day balances (λ k s l b hk hs hl hb q. rw (balance_word balances k s l b hl hb)
      (d _ (record { tracking = hk; security = hs; lender = hl; borrower = hb }) q))
