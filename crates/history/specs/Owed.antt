-- Document 01, section The tally: what a history owes, said from the accepted messages' own fields.
use Rattle.std.specs.Prelude.{Bool, cond, ◌&&◌, List, [], ◌∷◌, ℕ, ◌+◌, eqb}
use Rattle.lists.specs.Sums.{sum}
use Rattle.records.specs.MessageRecords.{transfer_of}
use Rattle.securities.specs.declared.Row.{Row}
use Rattle.tags.specs.ContractDateTag.{tagged}
use Rattle.claims.specs.Amounts.{Part, amount, fail_type, interim_type, lending_type, repo_type}
use Rattle.claims.specs.declared.Parties.{Parties}
use Rattle.claims.specs.Fails.{contract_tag, eligible, interim}
use Rattle.claims.specs.Close.{crossed}
use Rattle.history.specs.Calls.{Call, transfer, close}
use Rattle.history.specs.Ledger.{Entry, par_lent}

-- The amount rule added up over the rows whose numbers pass a test.
unfoldable pub amounts : Part → (ℕ → Bool) → ℕ → List Row → ℕ
amounts part row_test par rows = sum (λ row. cond (row_test row.index) (amount part par row) 0) rows

-- A transfer with code 0 from the payer to the payee in the security.
unfoldable pub is_sent : List ℕ → Parties → Bool
is_sent m x =
    eqb (transfer_of m).code 0
    && (eqb (transfer_of m).security x.security && eqb (transfer_of m).receiver x.payee && eqb (transfer_of m).sender x.payer)

-- A failed one: on its day it has a tag with a date.
unfoldable pub is_failed : ℕ → List ℕ → Parties → Bool
is_failed day m x = tagged (contract_tag day m) && is_sent m x

-- What the payee has lent the payer, on loan (tracking 0) or on repo (tracking 1).
unfoldable pub lent_by : ℕ → List Entry → Parties → ℕ
lent_by tracking es x = par_lent es (record { tracking = tracking; security = x.security; lender = x.payee; borrower = x.payer })

-- What a call that was accepted on a day, after the entries before it, adds in claims whose type and row number pass a test: a failed
-- transfer its eligible dates on its own par, by the limits that it was lent (document 02, card 5) and by the rule of its day (card 7); a
-- transfer with code 0 its interim dates (card 1) on its own par; a close the rows that it crosses on the par on loan before it, and again
-- on the par on repo (card 3).
unfoldable pub owed_by : List ℕ → List ℕ → Part → (ℕ → ℕ → Bool) → List Entry → ℕ → Call → Parties → ℕ
owed_by calendar tables part claim_test before day (transfer a) x =
    let t = transfer_of a.message in
    cond (is_failed day a.message x) (amounts part (claim_test fail_type) t.par (eligible tables a.limits day t (contract_tag day a.message))) 0
    + cond (is_sent a.message x) (amounts part (claim_test interim_type) t.par (interim tables day t)) 0
owed_by calendar tables part claim_test before day (close a) x =
    let rows = crossed calendar tables day x.security in
    amounts part (claim_test lending_type) (lent_by 0 before x) rows + amounts part (claim_test repo_type) (lent_by 1 before x) rows

-- What a history owes from the payer to the payee in the security, in one part of the payments, in claims that pass the test.
unfoldable pub owed : List ℕ → List ℕ → Part → (ℕ → ℕ → Bool) → List Entry → Parties → ℕ
owed calendar tables part claim_test [] x = 0
owed calendar tables part claim_test (e ∷ before) x =
    owed_by calendar tables part claim_test before e.day e.call x + owed calendar tables part claim_test before x
