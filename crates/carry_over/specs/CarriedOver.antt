-- Document 02, card 8: a book saved with 4,096 balances, those on loan, is carried over to the form with 8,192, repo empty.
use Rattle.std.specs.Prelude.{List, ◌++◌, ℕ, zero, suc, replicate}
use Rattle.lists.specs.First.{first_of}
use Rattle.book.specs.declared.Book.{Book}
use Rattle.book.specs.Book.{tracking_words}
use Rattle.book.specs.Soundness.{carry_causes}
use Rattle.history.specs.Results.{Opened}

-- The balances on loan, then those on repo, all zero.
unfoldable pub widened : List ℕ → List ℕ
widened saved = saved ++ replicate tracking_words 0

-- The number of the move: that of its first cause that applies, 0 if none does.
unfoldable pub carry_number : List ℕ → Book → List ℕ → List ℕ → ℕ
carry_number calendar book saved balances = first_of (carry_causes calendar book.day saved balances)

-- The book comes back as it was given. Accepted, the balances are the saved ones with repo empty; refused, they are as they were.
unfoldable pub carried_for : ℕ → Book → List ℕ → List ℕ → Opened
carried_for zero book saved balances = record { number = 0; book = book; balances = widened saved }
carried_for (suc n) book saved balances = record { number = suc n; book = book; balances = balances }

-- What the move of a book answers and leaves.
unfoldable pub carried : List ℕ → Book → List ℕ → List ℕ → Opened
carried calendar book saved balances = carried_for (carry_number calendar book saved balances) book saved balances
