-- Document 02, card 3: lending and repo never change each other. A word of the balances of one tracking changes only by an accepted
-- transfer whose code is of that tracking: 1 to 6 for lending, whose words are 0 to 4,095, 7 to 12 for repo, whose words are 4,096 to
-- 8,191. Whatever the calendar, tables, book and balances: a list of calls without such a transfer leaves every word of the tracking.
use Rattle.std.specs.Prelude.{◌≡◌, List, [], ◌∷◌, ℕ, ◌+◌, ◌*◌, ◌≤◌, ◌<◌, get_or}
use Rattle.records.specs.MessageRecords.{transfer_of}
use Rattle.book.specs.declared.Book.{Book}
use Rattle.history.specs.Calls.{Call, transfer, close}
use Rattle.history.specs.Results.{result, run}

-- A code of a tracking.
pub record OfTracking (tracking code : ℕ) : Type 0 where
  pub above : 6 * tracking < code
  pub up_to : code ≤ 6 * tracking + 6

-- A call that is no transfer with a code of the tracking.
abbrev pub NotOf : ℕ → Call → Type 0
NotOf tracking (transfer a) = ¬ OfTracking tracking (transfer_of a.message).code
NotOf tracking (close a) = Unit {0}

abbrev pub NoneOf : ℕ → List Call → Type 0
NoneOf tracking [] = Unit {0}
NoneOf tracking (call ∷ calls) = NotOf tracking call × NoneOf tracking calls

-- Every word of the tracking holds what it held.
abbrev pub Kept : ℕ → List ℕ → List ℕ → Type 0
Kept tracking before after = (w : ℕ) → 4096 * tracking ≤ w → w < 4096 * tracking + 4096 → get_or after w 0 ≡ get_or before w 0

-- A call, accepted or refused.
abbrev pub EveryCallApart : Type 0
EveryCallApart = (calendar tables : List ℕ) (book : Book) (balances : List ℕ) (tracking : ℕ) (call : Call) → NotOf tracking call
    → Kept tracking balances (result calendar tables book balances call).balances

-- A list of calls.
abbrev pub EveryListApart : Type 0
EveryListApart = (calendar tables : List ℕ) (book : Book) (balances : List ℕ) (tracking : ℕ) (calls : List Call) → NoneOf tracking calls
    → Kept tracking balances (run calendar tables book balances calls).balances
