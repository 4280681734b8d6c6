-- Document 02, card 8, in words. For every list of transfers without repo codes and closes, on every book and every 4,096 balances, sound or
-- not: the calls on the balances with repo empty give the answers (numbers, books, claim counts and claim buffers) that they give in the
-- form with lending alone, and leave its balances with repo empty. So every list after an accepted move, also as a caller makes its calls.
-- A history that begins before the move counts on both sides of it: calls without repo codes in the form with lending alone, the move, which
-- is accepted, then any calls. All answers, and the book and balances after the list, are those of the ledger of both lists, one behind the
-- other: the par between two accounts, what the records pay and what the history owes.
-- So where calendar and tables change on the way, before the move and after it.
use Rattle.std.specs.Prelude.{◌≡◌, Bool, false, ◌&&◌, List, [], ◌∷◌, ◌++◌, ℕ, ltb, leb, length}
use Rattle.records.specs.MessageRecords.{transfer_of}
use Rattle.book.specs.declared.Book.{Book}
use Rattle.book.specs.declared.Done.{Done}
use Rattle.book.specs.Book.{balance_words, tracking_words}
use Rattle.history.specs.Calls.{Call, transfer, close}
use Rattle.history.specs.Results.{Run, left_open, run, followed_by, run_from}
use Rattle.history.specs.Ledger.{Ledger, started, judged}
use Rattle.history.specs.Statement.{AgreesWithLedger}
use Rattle.history.specs.Continuation.{GoesOn, Period, AllGoOn}
use Rattle.history.specs.ByValue.{Step, AllKeep, run_of}
use Rattle.carry_over.specs.CarriedOver.{widened, carried}
use Rattle.carry_over.specs.LendingForm.{lending_run, lending_opened}

-- A transfer with a repo code, 7 to 12.
unfoldable pub is_repo : Call → Bool
is_repo (transfer a) = ltb 6 (transfer_of a.message).code && leb (transfer_of a.message).code 12
is_repo (close a) = false

-- A list of transfers without repo codes and closes.
abbrev pub NoRepo : List Call → Type 0
NoRepo [] = Unit {0}
NoRepo (call ∷ calls) = (is_repo call ≡ false) × NoRepo calls

-- What a list of calls in the form with lending alone gives and leaves, with repo empty.
unfoldable pub with_repo_empty : Run → Run
with_repo_empty r = record { answers = r.answers; book = r.book; balances = widened r.balances }

-- ---- lists after the move

-- On every book and every 4,096 balances.
abbrev pub EveryLendingList : Type 0
EveryLendingList = (calendar tables : List ℕ) (book : Book) (balances : List ℕ) → length balances ≡ tracking_words
    → (calls : List Call) → NoRepo calls
    → run calendar tables book (widened balances) calls ≡ with_repo_empty (lending_run calendar tables book balances calls)

-- After an accepted move, whatever calendar the later calls get.
abbrev pub EveryLaterList : Type 0
EveryLaterList = (calendar : List ℕ) (book : Book) (saved balances : List ℕ) → (carried calendar book saved balances).number ≡ 0
    → (later tables : List ℕ) (calls : List Call) → NoRepo calls
    → run_from later tables (carried calendar book saved balances) calls ≡ with_repo_empty (lending_run later tables book saved calls)

-- As a caller makes them: the move keeps its contract and is accepted, and each call keeps its own on the book that the last one returned and
-- the balances that it left.
abbrev pub EveryLaterCall : Type 0
EveryLaterCall = (calendar : List ℕ) (book : Book) (saved balances : List ℕ) (moved : Done) (filled : List ℕ)
    → left_open moved filled ≡ carried calendar book saved balances → moved.number ≡ 0
    → (later tables : List ℕ) (calls : List Call) (steps : List Step) → NoRepo calls → AllKeep later tables moved.book filled calls steps
    → run_of moved.book filled steps ≡ with_repo_empty (lending_run later tables book saved calls)

-- ---- histories on both sides of the move

-- The list before the move left r. The move of what it left is accepted, and both lists are one history.
pub record CountsBothSides (calendar tables : List ℕ) (day : ℕ) (before after : List Call) (balances : List ℕ) (r : Run) : Type 0 where
  pub accepted : (carried calendar r.book r.balances balances).number ≡ 0
  pub agrees : AgreesWithLedger calendar tables day (before ++ after)
      (followed_by r (run_from calendar tables (carried calendar r.book r.balances balances) after))
      (judged calendar tables (started day) (before ++ after))

-- The balances that the move fills may hold anything.
abbrev pub EveryCarriedHistory : Type 0
EveryCarriedHistory = (calendar tables words : List ℕ) (day : ℕ) → (lending_opened calendar tables words day).number ≡ 0
    → (before : List Call) → NoRepo before → (balances : List ℕ) → length balances ≡ balance_words → (after : List Call)
    → (let start = lending_opened calendar tables words day in
    CountsBothSides calendar tables day before after balances (lending_run calendar tables start.book start.balances before))

-- As a caller makes the move and the calls after it.
abbrev pub EveryCarriedCall : Type 0
EveryCarriedCall = (calendar tables words : List ℕ) (day : ℕ) → (lending_opened calendar tables words day).number ≡ 0
    → (before : List Call) → NoRepo before → (balances : List ℕ) → length balances ≡ balance_words
    → (let start = lending_opened calendar tables words day in
    let r = lending_run calendar tables start.book start.balances before in
    (moved : Done) (filled : List ℕ) → left_open moved filled ≡ carried calendar r.book r.balances balances
    → (after : List Call) (steps : List Step) → AllKeep calendar tables moved.book filled after steps
    → (moved.number ≡ 0)
    × AgreesWithLedger calendar tables day (before ++ after) (followed_by r (run_of moved.book filled steps))
    (judged calendar tables (started day) (before ++ after)))

-- ---- calendar and tables that change

abbrev pub NoRepoIn : List Period → Type 0
NoRepoIn [] = Unit {0}
NoRepoIn (p ∷ periods) = NoRepo p.calls × NoRepoIn periods

-- Each period before the move goes on as the ledger does, in the form with lending alone and with repo empty; then the book and balances
-- that the last one left are carried over, and where this is accepted, each period after it goes on.
abbrev pub AllCarryOn : Ledger → Book → List ℕ → List Period → List ℕ → List ℕ → List Period → Type 0
AllCarryOn ledger book saved [] calendar balances after =
    (carried calendar book saved balances).number ≡ 0
    → AllGoOn ledger (carried calendar book saved balances).book (carried calendar book saved balances).balances after
AllCarryOn ledger book saved (p ∷ before) calendar balances after =
    let r = lending_run p.calendar p.tables book saved p.calls in
    let j = judged p.calendar p.tables ledger p.calls in
    GoesOn p.calendar p.tables ledger p.calls (with_repo_empty r) j × AllCarryOn j.ledger r.book r.balances before calendar balances after

-- Every list of periods from an accepted opening of the form with lending alone on, whatever calendar the move gets.
abbrev pub EveryCarriedPeriod : Type 0
EveryCarriedPeriod = (calendar tables words : List ℕ) (day : ℕ) → (lending_opened calendar tables words day).number ≡ 0
    → (before : List Period) → NoRepoIn before → (move balances : List ℕ) (after : List Period)
    → (let start = lending_opened calendar tables words day in
    AllCarryOn (started day) start.book start.balances before move balances after)
