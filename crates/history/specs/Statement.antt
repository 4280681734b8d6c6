-- Demand 3, in words. Take any calendar, tables, balances and opening day for which opening is accepted, and any list of transfer and close
-- calls, refused ones included; each transfer is lent date limits, published or others, and minimum pieces, the same all through or not;
-- each call gets the book and balances that the last one left. Then every answer (number, book, claim count, claim buffer with the bytes
-- behind the records as found) and the day, count and balances after the list are those of the ledger of accepted calls. For any two
-- accounts and security the par lent and the accepted decreases together are the accepted increases, on loan and on repo apart. The records,
-- read back from the claim buffers, add up to what the history owes, interest and principal apart: for every payer, payee and security, for
-- each row of it, and for each claim type on each row, so that claims on par on loan and claims on par on repo pay each their own. Every
-- Record Date passed is crossed exactly once, no transfer claims a Beneficiary Date twice, be it as failed or as interim, its claims come in
-- row order, no close claims a row twice, and a call is refused exactly when a cause of its table applies, and then changes nothing.
use Rattle.std.specs.Prelude.{◌≡◌, ◌↔◌, ◌≢◌, Bool, true, cond, ◌&&◌, List, [], ◌∷◌, ◌++◌, map, ℕ, ◌+◌, ◌*◌, ◌≤◌, ◌<◌, eqb, length, drop, get_or}
use Rattle.lists.specs.First.{NoneApplies}
use Rattle.lists.specs.Select.{rising}
use Rattle.lists.specs.Sums.{sum}
use Rattle.days.specs.Days.{open_after}
use Rattle.records.specs.declared.Claim.{Claim}
use Rattle.std.specs.Prelude.{Option, Some, None}
use Rattle.records.specs.declared.Transfer.{Transfer}
use Rattle.securities.specs.declared.Row.{Row}
use Rattle.tags.specs.declared.Tag.{Tag}
use Rattle.claims.specs.Amounts.{Part, of_interest, of_principal}
use Rattle.claims.specs.declared.Parties.{Parties}
use Rattle.claims.specs.Fails.{dues}
use Rattle.claims.specs.Close.{crosses, crossed}
use Rattle.claims.specs.Written.{claim_size, readings, AllRead}
use Rattle.book.specs.declared.Position.{Position}
use Rattle.book.specs.Book.{InRange}
use Rattle.history.specs.Calls.{Call, transfer, close, buffer_of}
use Rattle.history.specs.Causes.{causes}
use Rattle.history.specs.Results.{Answer, Run, opened, run_from}
use Rattle.history.specs.Ledger.{Entry, Ledger, started, transfers, increases, decreases, par_lent, book_of, balances_of, keep, number_on, Judged, judged}
use Rattle.history.specs.Owed.{owed}

-- ---- what the records pay

-- The records that the calls wrote, read from their claim buffers.
unfoldable pub records_in : List Answer → List (Option Claim)
records_in [] = []
records_in (a ∷ answers) = readings a.claims a.buffer ++ records_in answers

-- The cents of a part of a record.
unfoldable pub cents_in : Part → Claim → ℕ
cents_in of_interest c = c.interest.0
cents_in of_principal c = c.principal.0

-- A record between the parties whose type and row number pass the test.
unfoldable pub counts : (ℕ → ℕ → Bool) → Parties → Claim → Bool
counts claim_test x c =
    (eqb c.security x.security && eqb c.payee x.payee && eqb c.payer x.payer) && claim_test c.claim_type c.row

unfoldable pub paid_in : Part → (ℕ → ℕ → Bool) → Parties → Option Claim → ℕ
paid_in part claim_test x None = 0
paid_in part claim_test x (Some c) = cond (counts claim_test x c) (cents_in part c) 0

-- The cents of a part that the records have the payer pay the payee, settled and noticed together.
unfoldable pub paid : Part → (ℕ → ℕ → Bool) → List (Option Claim) → Parties → ℕ
paid part claim_test rs x = sum (paid_in part claim_test x) rs

-- The claims of a type on a row, those on a row, and all.
abbrev pub of_type_and_row : ℕ → ℕ → ℕ → ℕ → Bool
of_type_and_row claim_type row = λ t r. eqb claim_type t && eqb row r

abbrev pub of_row : ℕ → ℕ → ℕ → Bool
of_row row = λ t r. eqb row r

abbrev pub of_all : ℕ → ℕ → Bool
of_all = λ t r. true

-- ---- the par between two accounts

-- Par lent and accepted decreases together are the accepted increases.
abbrev pub Balanced : List Entry → Type 0
Balanced es = (p : Position) → par_lent es p + decreases es p ≡ increases es p

-- So before each kept call.
abbrev pub BalancedBefore : List Entry → Type 0
BalancedBefore [] = Unit {0}
BalancedBefore (e ∷ before) = Balanced before × BalancedBefore before

-- ---- the Record Dates crossed

-- How many of the accepted closes cross the Record Date of a row.
unfoldable pub crossings_of : List ℕ → Row → Entry → ℕ
crossings_of calendar row e = elim e.call [
  | transfer a ↦ 0
  | close a ↦ cond (crosses e.day (open_after calendar e.day) row) 1 0
]

unfoldable pub crossings : List ℕ → List Entry → Row → ℕ
crossings calendar es row = sum (crossings_of calendar row) es

-- Once if it lies after the opening's day and on or before the last day, and never otherwise.
pub record CrossedOnce (calendar : List ℕ) (start : ℕ) (t : Ledger) (row : Row) : Type 0 where
  pub within : start < row.record_date → row.record_date ≤ t.day → crossings calendar t.entries row ≡ 1
  pub early : row.record_date ≤ start → crossings calendar t.entries row ≡ 0
  pub late : t.day < row.record_date → crossings calendar t.entries row ≡ 0

-- ---- the claim buffers

-- A claim buffer keeps its length and the bytes behind the counted records.
pub record AsFound (call : Call) (a : Answer) : Type 0 where
  pub size : length a.buffer ≡ length (buffer_of call)
  pub behind : drop (claim_size * a.claims) a.buffer ≡ drop (claim_size * a.claims) (buffer_of call)

-- One answer for each call, its claim buffer kept so.
abbrev pub AllAsFound : List Call → List Answer → Type 0
AllAsFound [] [] = Unit {0}
AllAsFound [] (a ∷ answers) = ⊥
AllAsFound (call ∷ calls) [] = ⊥
AllAsFound (call ∷ calls) (a ∷ answers) = AsFound call a × AllAsFound calls answers

-- ---- the statement

-- A run is what the ledger says.
pub record AgreesWithLedger (calendar tables : List ℕ) (start : ℕ) (calls : List Call) (r : Run) (j : Judged) : Type 0 where
  -- Numbers, books, claim counts and claim buffers.
  pub answers : r.answers ≡ j.answers
  pub buffers : AllAsFound calls r.answers
  -- Day, count and balances after the list, the balance of a lender and a borrower in its word.
  pub day : r.book.day ≡ j.ledger.day
  pub count : r.book.count ≡ transfers j.ledger.entries
  pub balances : r.balances ≡ balances_of j.ledger
  pub words : length r.balances ≡ 8192
  pub lent : (p : Position) → InRange p
      → get_or r.balances (4096 * p.tracking + 256 * p.security + 16 * p.lender + p.borrower) 0 + decreases j.ledger.entries p
      ≡ increases j.ledger.entries p
  pub lent_before : BalancedBefore j.ledger.entries
  -- The counted records read, and add up to what the history owes: for each claim type on each row, for each row, and for all together.
  pub readable : AllRead (records_in r.answers)
  pub type_payments : (part : Part) (x : Parties) (claim_type row : ℕ)
      → paid part (of_type_and_row claim_type row) (records_in r.answers) x
      ≡ owed calendar tables part (of_type_and_row claim_type row) j.ledger.entries x
  pub row_payments : (part : Part) (x : Parties) (row : ℕ)
      → paid part (of_row row) (records_in r.answers) x ≡ owed calendar tables part (of_row row) j.ledger.entries x
  pub payments : (part : Part) (x : Parties)
      → paid part of_all (records_in r.answers) x ≡ owed calendar tables part of_all j.ledger.entries x
  pub crossed_once : (row : Row) → CrossedOnce calendar start j.ledger row
  -- The rows that the next transfer claims, failed or interim, with whatever limits it is lent, rise in Beneficiary Date, so none is
  -- claimed twice.
  pub dates_once : (limits : List ℕ) (t : Transfer) (tag : Tag) → t.security < 16
      → rising (λ row. row.beneficiary_date) (map (λ d. d.row) (dues tables limits j.ledger.day t tag)) ≡ true
  -- They rise in row number too: a transfer's claims come in row order.
  pub row_order : (limits : List ℕ) (t : Transfer) (tag : Tag) → t.security < 16
      → rising (λ row. row.index) (map (λ d. d.row) (dues tables limits j.ledger.day t tag)) ≡ true
  -- The rows that the next close crosses rise in Record Date, so none is claimed twice in it.
  pub rows_once : (s : ℕ) → s < 16 → rising (λ row. row.record_date) (crossed calendar tables j.ledger.day s) ≡ true
  -- The next call is accepted exactly when no cause of its table applies; refused, it leaves the ledger as it was.
  pub accepted : (call : Call)
      → (number_on calendar tables j.ledger call ≡ 0) ↔ NoneApplies (causes calendar tables (book_of j.ledger) (balances_of j.ledger) call)
  pub refused : (call : Call) → number_on calendar tables j.ledger call ≢ 0
      → keep (number_on calendar tables j.ledger call) calendar j.ledger call ≡ j.ledger

-- Every list of calls from an accepted opening.
abbrev pub EveryHistory : Type 0
EveryHistory = (calendar tables balances : List ℕ) (day : ℕ) → (opened calendar tables balances day).number ≡ 0 → (calls : List Call)
    → AgreesWithLedger calendar tables day calls (run_from calendar tables (opened calendar tables balances day) calls)
    (judged calendar tables (started day) calls)
