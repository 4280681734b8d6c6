-- The claims of a call pay what the call adds to what the history owes. A transfer's claims are a sum over its eligible and its interim
-- rows; of a close's claims only those of one security, lender and borrower count between two parties, on loan and on repo.
use mathlib.Core.Path.{◌≡◌, refl, sym, ap, ap₂, ◌∙◌, subst}
use mathlib.Core.Logic.{◌≢◌}
use mathlib.Core.Bool.{Bool, true, false, cond, ◌&&◌}
use mathlib.Core.List.{List, [], ◌∷◌, map, map-append}
use Prim.Native.Nat.{ℕ, ◌+◌, ◌<◌}
use native.Mathlib.Nat.{zero-mul}
use native.Mathlib.Omega.{arith}
use native.Mathlib.Decide.{dec_lt}
use lib.Dec.{ltb, eqb}
use lib.ListN.{get_or}
use borrow.Author.Tests.{ltb-false}
use Rattle.lists.specs.Sums.{sum, sum_one, sum_append, sum_map, sum_equal, sum_zero, sum_plus, sum_cond, cond_zero}
use Rattle.lists.specs.Tabulate.{each, each_of, sum_each_of, sum_each_none, sum_each_one}
use Rattle.records.specs.declared.Claim.{Claim}
use Rattle.std.proofs.Common.{Some}
use Rattle.records.specs.MessageRecords.{transfer_of}
use Rattle.securities.specs.declared.Row.{Row}
use Rattle.tags.specs.ContractDateTag.{tagged}
use Rattle.claims.specs.Amounts.{Part, of_interest, of_principal, cents_on, cents_for, factor_for, amount, fail_type, interim_type, lending_type, repo_type, claim_on}
use Rattle.claims.specs.declared.Parties.{Parties}
use Rattle.claims.specs.Fails.{contract_tag, eligible, interim, Due, due, fails, dues, transfer_parties, transfer_claims}
use Rattle.claims.specs.Close.{crossed, tracking_type, loan_parties, loan_claim, security_balances, lender_balances, tracking_claims, row_claims, close_claims}
use Rattle.claims.proofs.Crossed.{balance_word}
use Rattle.book.specs.declared.Position.{Position}
use Rattle.book.specs.Book.{word, balance_at}
use Rattle.book.proofs.Words.{three, three_refl}
use Rattle.history.specs.Owed.{amounts, is_sent, is_failed}
use Rattle.history.specs.Statement.{cents_in, counts, paid_in, paid}

-- ---- parties

-- parties that are accounts and a security of the book
pub record AreAccounts (x : Parties) : Type 0 where
  pub security : x.security < 16
  pub payee : x.payee < 16
  pub payer : x.payer < 16

pub accounts : (x : Parties) → Dec (AreAccounts x)
accounts x = go (dec_lt x.security 16) (dec_lt x.payee 16) (dec_lt x.payer 16)
  where
    go : Dec (x.security < 16) → Dec (x.payee < 16) → Dec (x.payer < 16) → Dec (AreAccounts x)
    go (yes a) (yes b) (yes c) = yes (record { security = a; payee = b; payer = c })
    go (yes a) (yes b) (no d) = no (λ k. d k.payer)
    go (yes a) (no d) c = no (λ k. d k.payee)
    go (no d) b c = no (λ k. d k.security)

-- the test of two parties
between : Parties → Parties → Bool
between x y = eqb x.security y.security && eqb x.payee y.payee && eqb x.payer y.payer

between_refl : (x : Parties) → between x x ≡ true
unfolding between
between_refl x = three_refl x.security x.payee x.payer

apart : (x y : Parties) → x ≢ y → between x y ≡ false
unfolding between
apart x y d = go (between x y) refl
  where
    go : (b : Bool) → between x y ≡ b → between x y ≡ false
    go true e =
        let t = three x.security y.security x.payee y.payee x.payer y.payer e in
        absurd (d (λ i. record { security = t.first i; payee = t.second i; payer = t.third i }))
    go false e = e

-- what the payee has lent the payer on loan, and on repo
unfoldable pub loan : ℕ → Parties → Position
loan tracking x = record { tracking = tracking; security = x.security; lender = x.payee; borrower = x.payer }

-- ---- what claims pay

cond_and : (a b : Bool) (n : ℕ) → cond (a && b) n 0 ≡ cond a (cond b n 0) 0
cond_and true b n = refl
cond_and false b n = refl

-- nothing is due on no par
no_cents : (part : Part) (factor : ℕ) → cents_for part 0 factor ≡ 0
unfolding cents_for cents_on
no_cents of_interest factor = rw (zero-mul factor)
no_cents of_principal factor = rw (zero-mul factor)

amount_zero : (part : Part) (row : Row) → amount part 0 row ≡ 0
unfolding amount
amount_zero part row = no_cents part (factor_for part row)

pub amounts_zero : (part : Part) (row_test : ℕ → Bool) (rows : List Row) → amounts part row_test 0 rows ≡ 0
unfolding amounts
amounts_zero part row_test rows = sum_zero _ rows (λ row. rw (amount_zero part row) (cond_zero (row_test row.index)))

-- a transfer's claims are from its sender to its receiver: fail claims of a failed one, interim claims of one with code 0
sent_test : (m : List ℕ) (x : Parties) → is_sent m x ≡ (eqb (transfer_of m).code 0 && between (transfer_parties (transfer_of m)) x)
unfolding is_sent between transfer_parties
sent_test m x = refl

failed_test : (day : ℕ) (m : List ℕ) (x : Parties) → is_failed day m x ≡ (fails (transfer_of m) (contract_tag day m) && between (transfer_parties (transfer_of m)) x)
unfolding is_failed is_sent fails between transfer_parties
failed_test day m x = and_swap (tagged (contract_tag day m)) (eqb (transfer_of m).code 0) _
  where
    and_swap : (a b c : Bool) → a && (b && c) ≡ (b && a) && c
    and_swap true true c = refl
    and_swap true false c = refl
    and_swap false true c = refl
    and_swap false false c = refl

module _ (calendar tables : List ℕ) (part : Part) (claim_test : ℕ → ℕ → Bool) (x : Parties) where
  abbrev pays_by : Claim → ℕ
  pays_by c = cond (counts claim_test x c) (cents_in part c) 0

  -- the cents that claims have the payer pay the payee
  abbrev pub pays : List Claim → ℕ
  pays cs = sum pays_by cs

  pub paid_claims : (cs : List Claim) → paid part claim_test (map Some cs) x ≡ pays cs
  unfolding paid paid_in
  paid_claims cs = sum_map (paid_in part claim_test x) Some cs

  pays_none : pays [] ≡ 0
  unfolding sum
  pays_none = refl

  -- what a claim of a type on a row adds
  abbrev due_on : ℕ → ℕ → Row → ℕ
  due_on claim_type par row = cond (claim_test claim_type row.index) (amount part par row) 0

  -- a claim counts between its parties
  pays_one : (day n : ℕ) (y : Parties) (par claim_type : ℕ) (row : Row)
      → pays_by (claim_on calendar tables day n y par claim_type row) ≡ cond (between y x) (due_on claim_type par row) 0
  unfolding counts claim_on cents_in between
  pays_one day n y par claim_type row = go part
    where
      go : (q : Part) → cond (counts claim_test x (claim_on calendar tables day n y par claim_type row)) (cents_in q (claim_on calendar tables day n y par claim_type row)) 0
          ≡ cond (between y x) (cond (claim_test claim_type row.index) (amount q par row) 0) 0
      go of_interest = cond_and (between y x) (claim_test claim_type row.index) _
      go of_principal = cond_and (between y x) (claim_test claim_type row.index) _

  -- ---- a transfer

  pays_dues : (day n : ℕ) (y : Parties) (par claim_type : ℕ) (rows : List Row)
      → pays (map (λ (d : Due). claim_on calendar tables day n y par d.claim_type d.row) (map (due claim_type) rows))
      ≡ cond (between y x) (amounts part (claim_test claim_type) par rows) 0
  unfolding amounts
  pays_dues day n y par claim_type rows =
      sum_map _ _ (map (due claim_type) rows) ∙ sum_map _ (due claim_type) rows
      ∙ sum_equal _ _ rows (λ row. pays_one day n y par claim_type row)
      ∙ sum_cond (between y x) (due_on claim_type par) rows

  -- what a test allows, between the parties
  pays_part : (b : Bool) (day n : ℕ) (y : Parties) (par claim_type : ℕ) (rows : List Row)
      → pays (map (λ (d : Due). claim_on calendar tables day n y par d.claim_type d.row) (cond b (map (due claim_type) rows) []))
      ≡ cond (b && between y x) (amounts part (claim_test claim_type) par rows) 0
  pays_part true day n y par claim_type rows = pays_dues day n y par claim_type rows
  pays_part false day n y par claim_type rows = pays_none

  -- a transfer pays its eligible rows if it is failed and its interim rows if its code is 0, from its sender to its receiver
  pub pays_transfer : (limits : List ℕ) (day n : ℕ) (m : List ℕ)
      → pays (transfer_claims calendar tables limits day n (transfer_of m) (contract_tag day m))
      ≡ cond (is_failed day m x) (amounts part (claim_test fail_type) (transfer_of m).par (eligible tables limits day (transfer_of m) (contract_tag day m))) 0
      + cond (is_sent m x) (amounts part (claim_test interim_type) (transfer_of m).par (interim tables day (transfer_of m))) 0
  unfolding transfer_claims dues
  pays_transfer limits day n m =
      let t = transfer_of m in
      let failed = cond (fails t (contract_tag day m)) (map (due fail_type) (eligible tables limits day t (contract_tag day m))) [] in
      let between-dates = cond (eqb t.code 0) (map (due interim_type) (interim tables day t)) [] in
      ap pays (map-append claim failed between-dates)
      ∙ sum_append pays_by (map claim failed) (map claim between-dates)
      ∙ rw (failed_test day m x, sent_test m x)
      (ap₂ (λ (a b : ℕ). a + b)
      (pays_part (fails t (contract_tag day m)) day n (transfer_parties t) t.par fail_type (eligible tables limits day t (contract_tag day m)))
      (pays_part (eqb t.code 0) day n (transfer_parties t) t.par interim_type (interim tables day t)))
    where
      claim : Due → Claim
      claim d = claim_on calendar tables day n (transfer_parties (transfer_of m)) (transfer_of m).par d.claim_type d.row

  -- ---- a close

  pays_loan : (day claim_type : ℕ) (row : Row) (y : Parties) (par : ℕ)
      → pays (loan_claim calendar tables day claim_type row y par) ≡ cond (between y x) (due_on claim_type par row) 0
  unfolding loan_claim
  pays_loan day claim_type row y par = go (ltb 0 par) refl
    where
      go : (b : Bool) → ltb 0 par ≡ b → pays (cond b (claim_on calendar tables day 0 y par claim_type row ∷ []) []) ≡ cond (between y x) (due_on claim_type par row) 0
      go true e = sum_one pays_by _ ∙ pays_one day 0 y par claim_type row
      go false e =
          let z : par ≡ 0 = omega (arith, ltb-false 0 par e) in
          pays_none
          ∙ sym (ap (λ (v : ℕ). cond (between y x) (due_on claim_type v row) 0) z
          ∙ rw (amount_zero part row, cond_zero (claim_test claim_type row.index)) (cond_zero (between y x)))

  pays_other : (day claim_type : ℕ) (row : Row) (y : Parties) (par : ℕ) → y ≢ x → pays (loan_claim calendar tables day claim_type row y par) ≡ 0
  pays_other day claim_type row y par d = pays_loan day claim_type row y par ∙ rw (apart y x d)

  module _ (day : ℕ) (balances : List ℕ) where
    abbrev held : ℕ → ℕ → ℕ → ℕ → ℕ
    held k s l b = get_or (lender_balances (security_balances balances k s) l) b 0

    abbrev turn : Row → ℕ → ℕ → ℕ → ℕ → List Claim
    turn row k s l b = loan_claim calendar tables day (tracking_type k) row (loan_parties s l b) (held k s l b)

    -- a row of the parties' own security, on loan or on repo
    pays_tracking : AreAccounts x → (row : Row) (k : ℕ)
        → pays (tracking_claims calendar tables day (tracking_type k) x.security (security_balances balances k x.security) row)
        ≡ due_on (tracking_type k) (balance_at balances (loan k x)) row
    unfolding tracking_claims loan_parties
    pays_tracking r row k =
        sum_each_one pays_by 16 (λ l. each 16 (λ b. turn row k x.security l b)) x.payee r.payee
        (λ l d. sum_each_none pays_by 16 (turn row k x.security l) (λ b h. pays_other day _ row _ _ (λ e. d (ap (λ (y : Parties). y.payee) e))))
        ∙ sum_each_one pays_by 16 (turn row k x.security x.payee) x.payer r.payer
        (λ b d. pays_other day _ row _ _ (λ e. d (ap (λ (y : Parties). y.payer) e)))
        ∙ pays_loan day _ row (loan_parties x.security x.payee x.payer) (held k x.security x.payee x.payer)
        ∙ rw (between_refl x) (ap (λ (v : ℕ). due_on (tracking_type k) v row) word_of)
      where
        word_of : get_or (lender_balances (security_balances balances k x.security) x.payee) x.payer 0 ≡ balance_at balances (loan k x)
        word_of = balance_word balances k x.security x.payee x.payer r.payee r.payer ∙ (unfold balance_at loan word in refl)

    -- both together
    pays_crossing : AreAccounts x → (row : Row)
        → pays (row_claims calendar tables day x.security balances row)
        ≡ due_on lending_type (balance_at balances (loan 0 x)) row + due_on repo_type (balance_at balances (loan 1 x)) row
    unfolding row_claims tracking_type each
    pays_crossing r row = sum_append pays_by _ _ ∙ ap₂ (λ (a b : ℕ). a + b) (pays_tracking r row 0) (pays_tracking r row 1)

    -- a row of another security
    not_crossing : (s : ℕ) → s ≢ x.security → (row : Row) → pays (row_claims calendar tables day s balances row) ≡ 0
    unfolding row_claims tracking_claims loan_parties
    not_crossing s d row =
        sum_each_none pays_by 2 _
        (λ k h. sum_each_none pays_by 16 (λ l. each 16 (λ b. turn row k s l b))
        (λ l i. sum_each_none pays_by 16 (turn row k s l) (λ b m. pays_other day _ row _ _ (λ e. d (ap (λ (y : Parties). y.security) e)))))

    abbrev rows_of : ℕ → List Row
    rows_of s = crossed calendar tables day s

    pub pays_close : AreAccounts x
        → pays (close_claims calendar tables day balances)
        ≡ amounts part (claim_test lending_type) (balance_at balances (loan 0 x)) (crossed calendar tables day x.security)
        + amounts part (claim_test repo_type) (balance_at balances (loan 1 x)) (crossed calendar tables day x.security)
    unfolding close_claims amounts
    pays_close r =
        sum_each_one pays_by 16 (λ s. each_of (rows_of s) (row_claims calendar tables day s balances)) x.security r.security
        (λ s d. sum_each_of pays_by _ (λ row. 0) (rows_of s) (not_crossing s d) ∙ sum_zero (λ row. 0) (rows_of s) (λ row. refl))
        ∙ sum_each_of pays_by _ _ (rows_of x.security) (pays_crossing r)
        ∙ sym (sum_plus (due_on lending_type (balance_at balances (loan 0 x))) (due_on repo_type (balance_at balances (loan 1 x))) (rows_of x.security))

    -- who is no account of the book gets and pays nothing
    pub pays_outside : ¬ AreAccounts x → pays (close_claims calendar tables day balances) ≡ 0
    unfolding close_claims row_claims tracking_claims loan_parties
    pays_outside d =
        sum_each_none pays_by 16 (λ s. each_of (rows_of s) (row_claims calendar tables day s balances))
        (λ s a. sum_each_of pays_by _ (λ row. 0) (rows_of s)
        (λ row. sum_each_none pays_by 2 _
        (λ k h. sum_each_none pays_by 16 (λ l. each 16 (λ b. turn row k s l b))
        (λ l b. sum_each_none pays_by 16 (turn row k s l)
        (λ j c. pays_other day _ row _ _ (λ e. d (subst (λ (y : Parties). AreAccounts y) e (record { security = a; payee = b; payer = c })))))))
        ∙ sum_zero (λ row. 0) (rows_of s) (λ row. refl))
