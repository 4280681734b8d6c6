-- Trials: lists of transfers, closes, marks set and returns to marks, on a freshly opened book, or one that goes on from a sound ledger, and
-- any store of the right length, as a caller makes them. Each call keeps its contract on the book, balances and store that the last one left,
-- and nobody else writes these. Beside the trial run its histories: the calls since its start with the answers handed out to them, and for
-- each mark the history that ended at it.
-- A transfer or a close goes on with the current history, a mark keeps it, a return takes the kept one up again; what was answered between
-- the mark and the return is dropped.
-- Then after every trial the day, count, balances and answers along the current history are those of its calls, made one after another on
-- what the trial began with, and so are the par between two accounts, what the records pay and what is owed. Setting a mark is accepted, and
-- so is going back to a mark that the trial has set; outside 1 to 4 both get 16, and going back to an unset mark gets 17. Marks that the
-- trial has not set are as they were.
use Rattle.std.specs.Prelude.{◌≡◌, Bool, true, false, cond, not, ◌||◌, List, [], ◌∷◌, ◌++◌, ℕ, ◌≤◌, eqb, length}
use Rattle.lists.specs.First.{first_of}
use Rattle.book.specs.declared.Book.{Book}
use Rattle.book.specs.declared.Done.{Done}
use Rattle.book.specs.Soundness.{book_causes}
use Rattle.history.specs.Calls.{Call}
use Rattle.history.specs.Causes.{largest_count}
use Rattle.history.specs.Results.{Answer, Run, Gives, left, result, Opened, left_open, opened, run_from}
use Rattle.history.specs.Ledger.{Ledger, started, transfers, book_of, balances_of, judged}
use Rattle.history.specs.Statement.{AgreesWithLedger}
use Rattle.history.specs.Continuation.{SoundLedger, GoesOn}
use Rattle.marks.specs.Marks.{store_words, is_mark, mark_in, is_set, words_for, left_mark, marked, returned}

-- ---- a trial

-- What a call gets that the last one left.
pub record State : Type 0 where
  pub book : Book
  pub balances : List ℕ
  pub store : List ℕ

-- A turn of a trial, as its caller sees it.
pub data Turn : Type 0 where
  -- A transfer or a close, its answer, and the claim buffer and balances after it.
  worked : (call : Call) (done : Done) (buffer balances : List ℕ) → Turn
  -- A mark that was set, the number answered, and the store after it.
  mark_set : (mark number : ℕ) (store : List ℕ) → Turn
  -- A return to a mark, its answer, and the balances after it.
  went_back : (mark : ℕ) (done : Done) (balances : List ℕ) → Turn

-- What the next call gets.
unfoldable pub after : State → Turn → State
after s (worked call done buffer balances) = record { book = done.book; balances = balances; store = s.store }
after s (mark_set k number store) = record { book = s.book; balances = s.balances; store = store }
after s (went_back k done balances) = record { book = done.book; balances = balances; store = s.store }

unfoldable pub after_all : State → List Turn → State
after_all s [] = s
after_all s (t ∷ turns) = after_all (after s t) turns

-- A turn keeps the contract of its call.
abbrev pub Keeps : List ℕ → List ℕ → State → Turn → Type 0
Keeps calendar tables s (worked call done buffer balances) = Gives calendar tables s.book s.balances call done buffer balances
Keeps calendar tables s (mark_set k number store) = left_mark number store ≡ marked calendar s.book s.balances s.store k
Keeps calendar tables s (went_back k done balances) = left_open done balances ≡ returned calendar s.book s.balances s.store k

-- Each on what the last one left.
abbrev pub AllKeep : List ℕ → List ℕ → State → List Turn → Type 0
AllKeep calendar tables s [] = Unit {0}
AllKeep calendar tables s (t ∷ turns) = Keeps calendar tables s t × AllKeep calendar tables (after s t) turns

-- ---- its histories

-- A history: its calls since the start of the trial, and what was answered to each.
pub record Past : Type 0 where
  pub calls : List Call
  pub answers : List Answer

-- What a trial keeps of a mark: nothing, or the history that ended at it.
pub data Kept : Type 0 where
  unset : Kept
  ended : Past → Kept

-- The current history, and those that ended at the marks.
pub record Histories : Type 0 where
  pub current : Past
  pub marks : ℕ → Kept

unfoldable pub begun : Histories
begun = record { current = record { calls = []; answers = [] }; marks = λ k. unset }

unfoldable pub went_on : Past → Call → Answer → Past
went_on p call answer = record { calls = p.calls ++ (call ∷ []); answers = p.answers ++ (answer ∷ []) }

-- Mark k keeps the current history.
unfoldable pub kept_at : ℕ → Histories → Histories
kept_at k h = record { current = h.current; marks = λ j. cond (eqb j k) (ended h.current) (h.marks j) }

-- The history that a mark keeps, if there is one, is taken up again; the marks stay.
unfoldable pub taken_up : Kept → Histories → Histories
taken_up unset h = h
taken_up (ended p) h = record { current = p; marks = h.marks }

unfoldable pub followed : Histories → Turn → Histories
followed h (worked call done buffer balances) =
    record { current = went_on h.current call (left done buffer balances).answer; marks = h.marks }
followed h (mark_set k number store) = cond (is_mark k) (kept_at k h) h
followed h (went_back k done balances) = taken_up (h.marks k) h

unfoldable pub followed_all : Histories → List Turn → Histories
followed_all h [] = h
followed_all h (t ∷ turns) = followed_all (followed h t) turns

unfoldable pub is_ended : Kept → Bool
is_ended unset = false
is_ended (ended p) = true

-- ---- which returns are spoken of

-- To a mark that the trial has set before, to one that stood unset in the store at first, or to none of the four.
unfoldable pub may_return : List ℕ → Histories → ℕ → Bool
may_return store h k = is_ended (h.marks k) || not (is_set (mark_in store k)) || not (is_mark k)

abbrev pub Spoken : List ℕ → Histories → Turn → Type 0
Spoken store h (worked call done buffer balances) = Unit {0}
Spoken store h (mark_set k number words) = Unit {0}
Spoken store h (went_back k done balances) = may_return store h k ≡ true

abbrev pub AllSpoken : List ℕ → Histories → List Turn → Type 0
AllSpoken store h [] = Unit {0}
AllSpoken store h (t ∷ turns) = Spoken store h t × AllSpoken store (followed h t) turns

-- No mark of a store is set.
abbrev pub NoneSet : List ℕ → Type 0
NoneSet store = (k : ℕ) → is_mark k ≡ true → is_set (mark_in store k) ≡ false

-- On such a store any return may be asked for.
abbrev pub EveryUnsetStore : Type 0
EveryUnsetStore = (store : List ℕ) → NoneSet store → (h : Histories) (turns : List Turn) → AllSpoken store h turns

-- ---- what setting and going back answer

unfoldable pub set_answer : ℕ → ℕ
set_answer k = cond (is_mark k) 0 16

unfoldable pub return_answer : Histories → ℕ → ℕ
return_answer h k = cond (is_mark k) (cond (is_ended (h.marks k)) 0 17) 16

-- Transfers and closes answer along their history.
abbrev pub Answers : Histories → Turn → Type 0
Answers h (worked call done buffer balances) = Unit {0}
Answers h (mark_set k number store) = number ≡ set_answer k
Answers h (went_back k done balances) = done.number ≡ return_answer h k

abbrev pub AllAnswer : Histories → List Turn → Type 0
AllAnswer h [] = Unit {0}
AllAnswer h (t ∷ turns) = Answers h t × AllAnswer (followed h t) turns

-- ---- the statement

-- The answers handed out along a history, and the book and balances of the trial.
unfoldable pub along : Past → State → Run
along p s = record { answers = p.answers; book = s.book; balances = s.balances }

-- A mark that the trial has set holds the state of the history that ended at it; one that it has not set is as it was.
abbrev pub Holds : List ℕ → List ℕ → Opened → List ℕ → Kept → List ℕ → Type 0
Holds calendar tables start first unset words = words ≡ first
Holds calendar tables start first (ended p) words =
    let r = run_from calendar tables start p.calls in (words ≡ words_for r.book r.balances) × (p.answers ≡ r.answers)

-- Where a trial stands that began on start and with the store first: answers, book and balances are those of the current history's calls on
-- start, and the store holds the histories that ended at the marks.
pub record AtHistory (calendar tables : List ℕ) (start : Opened) (first : List ℕ) (s : State) (h : Histories) : Type 0 where
  pub run : along h.current s ≡ run_from calendar tables start h.current.calls
  pub words : length s.store ≡ store_words
  pub marks : (k : ℕ) → is_mark k ≡ true → Holds calendar tables start (mark_in first k) (h.marks k) (mark_in s.store k)

-- Every trial behind an opening that keeps its contract and is accepted: answers, book and balances are what the ledger of the current history's
-- calls says, par lent, what the records pay and what the history owes. It may end anywhere, so this holds after each turn, and the transfers
-- and closes behind a return are calls of the history that ended at the mark.
abbrev pub EveryTrial : Type 0
EveryTrial = (calendar tables balances : List ℕ) (day : ℕ) (opening : Done) (cleared : List ℕ)
    → left_open opening cleared ≡ opened calendar tables balances day → opening.number ≡ 0
    → (store : List ℕ) → length store ≡ store_words → (turns : List Turn)
    → (let s : State = record { book = opening.book; balances = cleared; store = store } in
    let last = after_all s turns in
    let h = followed_all begun turns in
    AllKeep calendar tables s turns → AllSpoken store begun turns
    → AllAnswer begun turns
    × AtHistory calendar tables (opened calendar tables balances day) store last h
    × AgreesWithLedger calendar tables day h.current.calls (along h.current last) (judged calendar tables (started day) h.current.calls))

-- So on a book that has gone on for long, with any calendar and tables: on the book and balances of a sound ledger that numbers 1 to 4 do not
-- refuse, with a count of 32 bits. The current history goes on from that ledger.
abbrev pub EveryLaterTrial : Type 0
EveryLaterTrial = (calendar tables : List ℕ) (before : Ledger) → SoundLedger before
    → first_of (book_causes calendar tables before.day (balances_of before)) ≡ 0 → transfers before.entries ≤ largest_count
    → (store : List ℕ) → length store ≡ store_words → (turns : List Turn)
    → (let s : State = record { book = book_of before; balances = balances_of before; store = store } in
    let last = after_all s turns in
    let h = followed_all begun turns in
    AllKeep calendar tables s turns → AllSpoken store begun turns
    → AllAnswer begun turns
    × AtHistory calendar tables (record { number = 0; book = book_of before; balances = balances_of before }) store last h
    × GoesOn calendar tables before h.current.calls (along h.current last) (judged calendar tables before h.current.calls))

-- ---- a mark and a return to it

-- No turn of the list sets mark k.
abbrev pub Leaves : ℕ → List Turn → Type 0
Leaves k [] = Unit {0}
Leaves k (worked call done buffer balances ∷ turns) = Leaves k turns
Leaves k (mark_set j number store ∷ turns) = (eqb k j ≡ false) × Leaves k turns
Leaves k (went_back j done balances ∷ turns) = Leaves k turns

-- What a return to mark k gives that was set in state s with histories h: day, count and balances as they were, and the history as it was.
pub record BringsBack (s : State) (h : Histories) (done : Done) (taken : List ℕ) (resumed : Histories) : Type 0 where
  pub number : done.number ≡ 0
  pub book : done.book ≡ s.book
  pub balances : taken ≡ s.balances
  pub history : resumed.current ≡ h.current

-- Every trial on a book that numbers 1 to 4 do not refuse, freshly opened or not, in which a mark is set and later gone back to, whatever
-- comes between, as long as nothing sets the mark again.
abbrev pub EveryReturn : Type 0
EveryReturn = (calendar tables : List ℕ) (s : State) → first_of (book_causes calendar tables s.book.day s.balances) ≡ 0
    → s.book.count ≤ largest_count → length s.store ≡ store_words
    → (before : List Turn) (k number : ℕ) (marks : List ℕ) (between : List Turn) (done : Done) (taken : List ℕ)
    → is_mark k ≡ true → Leaves k between
    → (let whole = before ++ (mark_set k number marks ∷ (between ++ (went_back k done taken ∷ []))) in
    AllKeep calendar tables s whole → AllSpoken s.store begun whole
    → BringsBack (after_all s before) (followed_all begun before) done taken (followed_all begun whole))

-- ---- every list of steps is a trial

pub data Step : Type 0 where
  work : Call → Step
  mark : ℕ → Step
  back : ℕ → Step

unfoldable pub turn_of : List ℕ → List ℕ → State → Step → Turn
turn_of calendar tables s (work call) =
    let r = result calendar tables s.book s.balances call in
    worked call (record { number = r.answer.number; book = r.answer.book; claims = r.answer.claims }) r.answer.buffer r.balances
turn_of calendar tables s (mark k) =
    let m = marked calendar s.book s.balances s.store k in
    mark_set k m.number m.store
turn_of calendar tables s (back k) =
    let r = returned calendar s.book s.balances s.store k in
    went_back k (record { number = r.number; book = r.book; claims = 0 }) r.balances

-- Each step on what the last one left.
unfoldable pub turns_of : List ℕ → List ℕ → State → List Step → List Turn
turns_of calendar tables s [] = []
turns_of calendar tables s (x ∷ steps) =
    let t = turn_of calendar tables s x in
    t ∷ turns_of calendar tables (after s t) steps

-- Every list of steps has turns that keep the contracts.
abbrev pub EveryListIsATrial : Type 0
EveryListIsATrial = (calendar tables : List ℕ) (s : State) (steps : List Step) → AllKeep calendar tables s (turns_of calendar tables s steps)
