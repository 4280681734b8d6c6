-- Transfer and close have two forms: the book by value, and the caller's own book, which the call updates. One promise, `Gives`, says what
-- both give and leave, so on the same values they give and leave the same. A transfer by value has a further form, which is lent date
-- limits. Every form of the transfer is lent pieces.
use Rattle.std.specs.Prelude.{◌≡◌, ◌≢◌, List, [], ◌∷◌, ℕ, ◌+◌}
use Rattle.days.specs.Days.{open_after}
use Rattle.book.specs.declared.Book.{Book}
use Rattle.book.specs.declared.Done.{Done}
use Rattle.history.specs.Calls.{Arguments, TransferArguments, Call, transfer, close, lent_transfer, published_transfer, buffer_of}
use Rattle.history.specs.Results.{Gives}
use Rattle.tracker.specs.declared.own_book.Reply.{Reply}

-- The reply of the second form and the caller's book after the call, as the by-value call returns them.
abbrev pub together : Reply → Book → Done
together r book = record { number = r.number; book = book; claims = r.claims }

-- ---- the promise in other words

-- Two answers, with claim buffers and balances after them, that are the same.
pub record Same (d : Done) (buffer after : List ℕ) (d' : Done) (buffer' after' : List ℕ) : Type 0 where
  pub answer : d ≡ d'
  pub buffer_same : buffer ≡ buffer'
  pub balances_same : after ≡ after'

-- On the same values a by-value call and a call of the second form give and leave the same.
abbrev pub FormsAgree : Type 0
FormsAgree = (calendar tables : List ℕ) (book : Book) (balances : List ℕ) (call : Call) (d : Done) (buffer after : List ℕ) (r : Reply)
    (own : Book) (buffer' after' : List ℕ) → Gives calendar tables book balances call d buffer after
    → Gives calendar tables book balances call (together r own) buffer' after' → Same d buffer after (together r own) buffer' after'

-- On the same values, pieces among them, a transfer that is lent the published numbers and one in the form without limits give and leave
-- the same.
abbrev pub PublishedFormAgrees : Type 0
PublishedFormAgrees = (calendar tables pieces : List ℕ) (book : Book) (balances message found : List ℕ) (d d' : Done) (buffer after buffer' after' : List ℕ)
    → Gives calendar tables book balances (lent_transfer (7 ∷ 6 ∷ 3 ∷ 2 ∷ 1 ∷ []) pieces (record { message = message; buffer = found })) d buffer after
    → Gives calendar tables book balances (published_transfer pieces (record { message = message; buffer = found })) d' buffer' after'
    → Same d buffer after d' buffer' after'

-- A refused call leaves the caller's book, the claim buffer and the balances as they were, and writes no claim.
pub record AsItWas (book own : Book) (found buffer balances after : List ℕ) (claims : ℕ) : Type 0 where
  pub book_kept : own ≡ book
  pub buffer_kept : buffer ≡ found
  pub balances_kept : after ≡ balances
  pub none_written : claims ≡ 0

abbrev pub RefusedLeaves : Type 0
RefusedLeaves = (calendar tables : List ℕ) (book : Book) (balances : List ℕ) (call : Call) (r : Reply) (own : Book)
    (buffer after : List ℕ) → Gives calendar tables book balances call (together r own) buffer after → r.number ≢ 0
    → AsItWas book own (buffer_of call) buffer balances after r.claims

-- An accepted transfer counts on the caller's book and leaves its day; an accepted close moves its day to the next open day and leaves
-- its count.
abbrev pub AcceptedTransferCounts : Type 0
AcceptedTransferCounts = (calendar tables : List ℕ) (book : Book) (balances : List ℕ) (a : TransferArguments) (r : Reply) (own : Book)
    (buffer after : List ℕ) → Gives calendar tables book balances (transfer a) (together r own) buffer after → r.number ≡ 0
    → (own.count ≡ book.count + 1) × (own.day ≡ book.day)

abbrev pub AcceptedCloseMoves : Type 0
AcceptedCloseMoves = (calendar tables : List ℕ) (book : Book) (balances : List ℕ) (a : Arguments) (r : Reply) (own : Book)
    (buffer after : List ℕ) → Gives calendar tables book balances (close a) (together r own) buffer after → r.number ≡ 0
    → (own.day ≡ open_after calendar book.day) × (own.count ≡ book.count)
