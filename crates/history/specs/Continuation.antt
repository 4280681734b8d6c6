-- A history that goes on, in words. Take any ledger that is sound: the decreases it has accepted are nowhere more than the increases,
-- also before each kept call, and only positions of the book were increased. From its book and balances on, with any calendar and tables,
-- every answer and the book and balances after the list are those of the ledger that goes on. The par between two accounts counts the
-- calls before and the calls since. What the records from then on pay is what the calls from then on owe, for each claim type on each row,
-- for each row and for all; a close since then is on the par of all calls before it, those before the change too. Every Record Date passed
-- since then is crossed exactly once. The ledger stays sound, so calendar and tables may change any number of times: a security has 16
-- rows, so a book that lives for years gets new tables. `owed` and `CrossedOnce` of a whole history speak of one calendar and tables; over
-- such a change it is each period that owes and crosses by its own.
use Rattle.std.specs.Prelude.{◌≡◌, Bool, List, [], ◌∷◌, ◌++◌, ℕ, ◌+◌, ◌*◌, ◌≤◌, ◌<◌, get_or}
use Rattle.securities.specs.declared.Row.{Row}
use Rattle.claims.specs.Amounts.{Part}
use Rattle.claims.specs.declared.Parties.{Parties}
use Rattle.claims.specs.Written.{AllRead}
use Rattle.book.specs.declared.Book.{Book}
use Rattle.book.specs.declared.Position.{Position}
use Rattle.book.specs.Book.{InRange}
use Rattle.history.specs.Calls.{Call}
use Rattle.history.specs.Results.{Run, run, opened}
use Rattle.history.specs.Ledger.{Entry, Ledger, started, increases, decreases, book_of, balances_of, Judged, judged}
use Rattle.history.specs.Owed.{owed_by}
use Rattle.history.specs.Statement.{records_in, paid, of_type_and_row, of_row, of_all, BalancedBefore, AllAsFound, CrossedOnce}

-- What the entries since then owe, behind those before: a close on the par lent by all entries before it.
unfoldable pub owed_since : List ℕ → List ℕ → Part → (ℕ → ℕ → Bool) → List Entry → List Entry → Parties → ℕ
owed_since calendar tables part claim_test before [] x = 0
owed_since calendar tables part claim_test before (e ∷ since) x =
    owed_by calendar tables part claim_test (since ++ before) e.day e.call x + owed_since calendar tables part claim_test before since x

-- A sound ledger: accepted decreases are at most the accepted increases, also before each kept call, and only positions of the book were
-- increased.
pub record SoundLedger (t : Ledger) : Type 0 where
  pub covered : (p : Position) → decreases t.entries p ≤ increases t.entries p
  pub inside : (p : Position) → 0 < increases t.entries p → InRange p
  pub balanced_before : BalancedBefore t.entries

-- A run from a ledger's book and balances is what the ledger that goes on says.
pub record GoesOn (calendar tables : List ℕ) (before : Ledger) (calls : List Call) (r : Run) (j : Judged) : Type 0 where
  -- The entries kept since then stand in front of those before.
  pub since : List Entry
  pub grows : j.ledger.entries ≡ since ++ before.entries
  pub sound : SoundLedger j.ledger
  -- Numbers, books, claim counts and claim buffers; book and balances after the list.
  pub answers : r.answers ≡ j.answers
  pub buffers : AllAsFound calls r.answers
  pub book : r.book ≡ book_of j.ledger
  pub balances : r.balances ≡ balances_of j.ledger
  pub lent : (p : Position) → InRange p
      → get_or r.balances (4096 * p.tracking + 256 * p.security + 16 * p.lender + p.borrower) 0 + decreases j.ledger.entries p
      ≡ increases j.ledger.entries p
  -- The counted records read, and add up to what the entries since then owe: for each claim type on each row, for each row, and for all.
  pub readable : AllRead (records_in r.answers)
  pub type_payments : (part : Part) (x : Parties) (claim_type row : ℕ)
      → paid part (of_type_and_row claim_type row) (records_in r.answers) x
      ≡ owed_since calendar tables part (of_type_and_row claim_type row) before.entries since x
  pub row_payments : (part : Part) (x : Parties) (row : ℕ)
      → paid part (of_row row) (records_in r.answers) x ≡ owed_since calendar tables part (of_row row) before.entries since x
  pub payments : (part : Part) (x : Parties)
      → paid part of_all (records_in r.answers) x ≡ owed_since calendar tables part of_all before.entries since x
  -- The entries since then cross a Record Date once if it lies after the day of the ledger before them and on or before the last day, and
  -- never otherwise.
  pub crossed_once : (row : Row) → CrossedOnce calendar before.day (record { day = j.ledger.day; entries = since }) row

-- Every list of calls from a sound ledger on, whatever calendar and tables its entries were accepted with.
abbrev pub EveryContinuation : Type 0
EveryContinuation = (calendar tables : List ℕ) (before : Ledger) → SoundLedger before → (calls : List Call)
    → GoesOn calendar tables before calls (run calendar tables (book_of before) (balances_of before) calls) (judged calendar tables before calls)

-- ---- calendar and tables that change

-- The calls that get one calendar and tables.
pub record Period : Type 0 where
  pub calendar : List ℕ
  pub tables : List ℕ
  pub calls : List Call

-- Each period goes on from the ledger, book and balances that the last one left.
abbrev pub AllGoOn : Ledger → Book → List ℕ → List Period → Type 0
AllGoOn before book balances [] = Unit {0}
AllGoOn before book balances (p ∷ periods) =
    let r = run p.calendar p.tables book balances p.calls in
    let j = judged p.calendar p.tables before p.calls in
    GoesOn p.calendar p.tables before p.calls r j × AllGoOn j.ledger r.book r.balances periods

-- Every list of periods from an accepted opening on.
abbrev pub EveryPeriod : Type 0
EveryPeriod = (calendar tables balances : List ℕ) (day : ℕ) → (opened calendar tables balances day).number ≡ 0 → (periods : List Period)
    → AllGoOn (started day) (opened calendar tables balances day).book (opened calendar tables balances day).balances periods
