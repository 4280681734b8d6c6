-- Document 01, section The book: positions and the words of the balances.
use Rattle.std.specs.Prelude.{Bool, ◌&&◌, List, ℕ, ◌+◌, ◌*◌, ◌/◌, ◌%◌, ◌<◌, eqb, get_or}
use Rattle.lists.specs.Tabulate.{tabulate}
use Rattle.book.specs.declared.Position.{Position}

-- 8,192 words hold the balances, 4,096 of lending and then 4,096 of repo (document 02, card 3): 16 securities, 16 lenders, 16 borrowers
-- each.
abbrev pub balance_words : ℕ
balance_words = 8192

-- Those of one tracking. A book saved before repo was tracked has the words of lending alone.
abbrev pub tracking_words : ℕ
tracking_words = 4096

-- A balance is at most 9,000,000,000.
abbrev pub largest_balance : ℕ
largest_balance = 9000000000

-- A position of the book's two trackings, 16 securities and 16 accounts.
pub record InRange (p : Position) : Type 0 where
  pub tracking : p.tracking < 2
  pub security : p.security < 16
  pub lender : p.lender < 16
  pub borrower : p.borrower < 16

unfoldable pub same : Position → Position → Bool
same p q =
    eqb p.tracking q.tracking
    && (eqb p.security q.security && eqb p.lender q.lender && eqb p.borrower q.borrower)

-- The word that holds a position, and the position that a word holds.
unfoldable pub word : Position → ℕ
word p = 4096 * p.tracking + 256 * p.security + 16 * p.lender + p.borrower

unfoldable pub position : ℕ → Position
position w = record { tracking = w / 4096; security = w / 256 % 16; lender = w / 16 % 16; borrower = w % 16 }

-- The par of a position.
unfoldable pub balance_at : List ℕ → Position → ℕ
balance_at balances p = get_or balances (word p) 0

-- The words that hold the par of every position.
unfoldable pub layout : (Position → ℕ) → List ℕ
layout par = tabulate 0 balance_words (λ w. par (position w))
