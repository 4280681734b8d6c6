-- Document 01, section Close, and document 02, card 3: the rows that a close crosses and the claims on the par on loan and on repo.
use Rattle.std.specs.Prelude.{Bool, cond, ◌&&◌, List, [], ◌∷◌, ℕ, ◌+◌, ◌*◌, ltb, leb, get_or}
use Rattle.lists.specs.Fields.{part}
use Rattle.lists.specs.Select.{select}
use Rattle.lists.specs.Tabulate.{each, each_of}
use Rattle.days.specs.Days.{open_after}
use Rattle.records.specs.declared.Claim.{Claim}
use Rattle.securities.specs.Securities.{security_count, filled_rows}
use Rattle.securities.specs.declared.Row.{Row}
use Rattle.claims.specs.Amounts.{lending_type, claim_on}
use Rattle.claims.specs.declared.Parties.{Parties}

abbrev pub account_count : ℕ
account_count = 16

-- A close of the day D, before the next open day E, crosses a row with D < Record Date ≤ E.
unfoldable pub crosses : ℕ → ℕ → Row → Bool
crosses day next row = ltb day row.record_date && leb row.record_date next

-- The rows of a security that a close of the day crosses.
unfoldable pub crossed : List ℕ → List ℕ → ℕ → ℕ → List Row
crossed calendar tables day s = select (crosses day (open_after calendar day)) (filled_rows tables s)

-- Payer is the borrower, payee the lender.
unfoldable pub loan_parties : ℕ → ℕ → ℕ → Parties
loan_parties s lender borrower = record { security = s; payee = lender; payer = borrower }

-- What a book tracks in balances: 0 lending, 1 repo.
abbrev pub tracking_count : ℕ
tracking_count = 2

-- Claim type 3 for lending, 4 for repo.
unfoldable pub tracking_type : ℕ → ℕ
tracking_type tracking = lending_type + tracking

-- The claim of a type on a row of the par that a lender has lent a borrower, with transfer number 0; none where there is no par.
unfoldable pub loan_claim : List ℕ → List ℕ → ℕ → ℕ → Row → Parties → ℕ → List Claim
loan_claim calendar tables day claim_type row x par =
    cond (ltb 0 par) (claim_on calendar tables day 0 x par claim_type row ∷ []) []

-- The balances of a tracking in a security, and those of one lender among them: lending first, repo from word 4,096 on.
unfoldable pub security_balances : List ℕ → ℕ → ℕ → List ℕ
security_balances balances tracking s = part (4096 * tracking + 256 * s) 256 balances

unfoldable pub lender_balances : List ℕ → ℕ → List ℕ
lender_balances held lender = part (16 * lender) 16 held

-- The claims of a type on a row of a security, by lender and borrower.
unfoldable pub tracking_claims : List ℕ → List ℕ → ℕ → ℕ → ℕ → List ℕ → Row → List Claim
tracking_claims calendar tables day claim_type s held row =
    each account_count λ lender.
    each account_count λ borrower.
    loan_claim calendar tables day claim_type row (loan_parties s lender borrower) (get_or (lender_balances held lender) borrower 0)

-- The claims on a row of a security, lending before repo.
unfoldable pub row_claims : List ℕ → List ℕ → ℕ → ℕ → List ℕ → Row → List Claim
row_claims calendar tables day s balances row =
    each tracking_count λ tracking. tracking_claims calendar tables day (tracking_type tracking) s (security_balances balances tracking s) row

-- The claims of a close, in the order security, row, tracking, lender, borrower.
unfoldable pub close_claims : List ℕ → List ℕ → ℕ → List ℕ → List Claim
close_claims calendar tables day balances =
    each security_count λ s.
    each_of (crossed calendar tables day s) (row_claims calendar tables day s balances)
