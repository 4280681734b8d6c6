-- Document 01, section Fail claims, and document 02, card 1, interim claims, card 2, long-delay pools, card 5, date limits, and card 7, days
-- before the 2023 memo: the rows that a transfer claims. S is the book's day, C the Contract Date.
use Rattle.std.specs.Prelude.{Bool, cond, ◌&&◌, List, [], ◌∷◌, ◌++◌, map, ℕ, eqb, ltb, leb}
use Rattle.lists.specs.Select.{select, last_of, keep_first}
use Rattle.days.specs.MemoDay.{before_memo, six_months_before}
use Rattle.records.specs.declared.Claim.{Claim}
use Rattle.records.specs.declared.Transfer.{Transfer}
use Rattle.records.specs.MessageRecords.{first_line, second_line}
use Rattle.securities.specs.Securities.{security_of, type_of, filled_rows}
use Rattle.securities.specs.declared.Row.{Row}
unfoldable pub use Rattle.securities.specs.Lent.{is_mbs, maximum_for, maximum_of}
use Rattle.tags.specs.declared.Tag.{Tag}
use Rattle.tags.specs.ContractDateTag.{tag_of, on_day, tagged, contract_date}
use Rattle.claims.specs.Amounts.{fail_type, interim_type, claim_on}
use Rattle.claims.specs.declared.Parties.{Parties}

-- The tag of a transfer message: that of its two free text lines.
unfoldable pub message_tag : List ℕ → Tag
message_tag m = tag_of (first_line m) (second_line m)

-- The tag of a transfer message as the book's day takes it (document 02, card 7).
unfoldable pub contract_tag : ℕ → List ℕ → Tag
contract_tag day m = on_day day (message_tag m)

-- ---- eligible rows

-- The published maximum numbers of Beneficiary Dates: MBS, then monthly, quarterly, semiannual, annual.
unfoldable pub maximum_numbers : List ℕ
maximum_numbers = 7 ∷ 6 ∷ 3 ∷ 2 ∷ 1 ∷ []

-- Document 01's eligible rows, before the cut: of the rows with Beneficiary Date on or before the day, the most recent up to a maximum
-- number; of these, each with a Beneficiary Date after the Contract Date, in table order.
unfoldable pub eligible_in : ℕ → ℕ → ℕ → List Row → List Row
eligible_in maximum contract day rows =
    select (λ row. ltb contract row.beneficiary_date) (last_of maximum (select (λ row. leb row.beneficiary_date day) rows))

-- A row waits for its Payment Date: it is after the day.
unfoldable pub waits : ℕ → Row → Bool
waits day row = ltb day row.payment_date

-- Card 2's cut: of the rows of a security of type 3 or 4 the first that waits is kept, and later ones that wait are dropped.
unfoldable pub cut : ℕ → ℕ → List Row → List Row
cut type day rows = cond (is_mbs type) (keep_first (waits day) rows) rows

-- The eligible rows of a transfer's security from the 2023 memo on.
unfoldable pub eligible_now : List ℕ → List ℕ → ℕ → ℕ → ℕ → List Row
eligible_now tables limits s contract day =
    cut (type_of (security_of tables s)) day (eligible_in (maximum_of tables limits s) contract day (filled_rows tables s))

-- Card 7: a Beneficiary Date after the Contract Date, and on or after the same day six months earlier.
unfoldable pub within_half_year : ℕ → ℕ → Row → Bool
within_half_year contract day row = ltb contract row.beneficiary_date && leb (six_months_before day) row.beneficiary_date

-- The eligible rows before the 2023 memo: of types 3 and 4 only, every such row with Beneficiary Date on or before the day, without a limit
-- in number and without the cut.
unfoldable pub eligible_before : ℕ → ℕ → ℕ → List Row → List Row
eligible_before type contract day rows =
    cond (is_mbs type) (select (within_half_year contract day) (select (λ row. leb row.beneficiary_date day) rows)) []

-- The eligible rows of a transfer's security, for its tag: the day chooses the rule.
unfoldable pub eligible : List ℕ → List ℕ → ℕ → Transfer → Tag → List Row
eligible tables limits day t tag =
    let s = t.security in
    cond (before_memo day)
    (eligible_before (type_of (security_of tables s)) (contract_date tag) day (filled_rows tables s))
    (eligible_now tables limits s (contract_date tag) day)

-- ---- interim rows

-- The day is on or after the Record Date and before the Beneficiary Date.
unfoldable pub is_interim : ℕ → Row → Bool
is_interim day row = leb row.record_date day && ltb day row.beneficiary_date

-- Of a security of type 3 or 4, every such row, in table order.
unfoldable pub interim_in : ℕ → ℕ → List Row → List Row
interim_in type day rows = cond (is_mbs type) (select (is_interim day) rows) []

-- The interim rows of a transfer's security; a tag has no part in them.
unfoldable pub interim : List ℕ → ℕ → Transfer → List Row
interim tables day t = interim_in (type_of (security_of tables t.security)) day (filled_rows tables t.security)

-- ---- the claims of a transfer

-- A row that is claimed, and the type of the claim.
pub record Due : Type 0 where
  pub claim_type : ℕ
  pub row : Row

abbrev pub due : ℕ → Row → Due
due claim_type row = record { claim_type = claim_type; row = row }

-- A failed transfer: only tracking code 0 with a tag.
unfoldable pub fails : Transfer → Tag → Bool
fails t tag = eqb t.code 0 && tagged tag

-- What a transfer claims: failed, its eligible rows; with tracking code 0, tag or no tag, its interim rows behind them. This is table
-- order, since a Beneficiary Date on or before the day stands before those after it.
unfoldable pub dues : List ℕ → List ℕ → ℕ → Transfer → Tag → List Due
dues tables limits day t tag =
    cond (fails t tag) (map (due fail_type) (eligible tables limits day t tag)) []
    ++ cond (eqb t.code 0) (map (due interim_type) (interim tables day t)) []

-- Payer is the sender, payee the receiver.
unfoldable pub transfer_parties : Transfer → Parties
transfer_parties t = record { security = t.security; payee = t.receiver; payer = t.sender }

-- The claims of the transfer with a number, on its own par.
unfoldable pub transfer_claims : List ℕ → List ℕ → List ℕ → ℕ → ℕ → Transfer → Tag → List Claim
transfer_claims calendar tables limits day number t tag =
    map (λ d. claim_on calendar tables day number (transfer_parties t) t.par d.claim_type d.row) (dues tables limits day t tag)
