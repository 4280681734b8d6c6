-- Document 01, section Loans, and document 02, card 3: what a transfer does to the par on loan and on repo; card 6: which par may be
-- sent; card 7: the days before lending.
use Rattle.std.specs.Prelude.{Bool, false, cond, not, ◌&&◌, ◌||◌, List, [], ◌∷◌, ℕ, ◌+◌, ◌-◌, ◌%◌, eqb, leb, ltb, set}
use Rattle.lists.specs.First.{Cause, cause}
use Rattle.days.specs.MemoDay.{before_memo}
use Rattle.records.specs.declared.Transfer.{Transfer}
use Rattle.securities.specs.Lent.{piece_of}
use Rattle.book.specs.declared.Change.{Change}
use Rattle.book.specs.declared.Change.TheVariants.{Unchanged as unchanged, Increase as increase, Decrease as decrease}
use Rattle.book.specs.declared.Position.{Position}
use Rattle.book.specs.Book.{largest_balance, word, balance_at}

-- Codes 7 to 12 do for repo what 1 to 6 do for lending: the tracking of a code, and its place in the tracking.
unfoldable pub tracking_of : ℕ → ℕ
tracking_of code = cond (ltb 6 code) 1 0

unfoldable pub step_of : ℕ → ℕ
step_of code = cond (ltb 6 code) (code - 6) code

-- 1 start, 4 return reversal and 5 balance-only increase add par to what the sender has lent the receiver.
unfoldable pub increasing : ℕ → Bool
increasing code = eqb code 1 || eqb code 4 || eqb code 5

unfoldable pub by_sender : Transfer → Position
by_sender t = record { tracking = tracking_of t.code; security = t.security; lender = t.sender; borrower = t.receiver }

-- 2 start reversal, 3 return and 6 balance-only decrease take par from what the receiver has lent the sender.
unfoldable pub decreasing : ℕ → Bool
decreasing code = eqb code 2 || eqb code 3 || eqb code 6

unfoldable pub by_receiver : Transfer → Position
by_receiver t = record { tracking = tracking_of t.code; security = t.security; lender = t.receiver; borrower = t.sender }

-- Loans each way stand beside each other: a transfer changes one position, or none.
unfoldable pub change_of : Transfer → Change
change_of t = cond (increasing (step_of t.code)) (increase (by_sender t)) (cond (decreasing (step_of t.code)) (decrease (by_receiver t)) unchanged)

-- The balances after a change of par.
unfoldable pub changed : List ℕ → Change → ℕ → List ℕ
changed balances unchanged par = balances
changed balances (increase p) par = set balances (word p) (balance_at balances p + par)
changed balances (decrease p) par = set balances (word p) (balance_at balances p - par)

-- A decrease above the balance: number 7.
unfoldable pub above_balance : List ℕ → Change → ℕ → Bool
above_balance balances unchanged par = false
above_balance balances (increase p) par = false
above_balance balances (decrease p) par = ltb (balance_at balances p) par

-- An increase past 9,000,000,000: number 8.
unfoldable pub past_limit : List ℕ → Change → ℕ → Bool
past_limit balances unchanged par = false
past_limit balances (increase p) par = ltb largest_balance (balance_at balances p + par)
past_limit balances (decrease p) par = false

-- Numbers 7 and 8 of a transfer.
unfoldable pub loan_causes : List ℕ → Transfer → List Cause
loan_causes balances t =
    cause 7 (above_balance balances (change_of t) t.par)
    ∷ cause 8 (past_limit balances (change_of t) t.par)
    ∷ []

-- A decrease that takes exactly the whole balance, that of its own tracking, may have any par.
unfoldable pub clears_balance : List ℕ → Change → ℕ → Bool
clears_balance balances unchanged par = false
clears_balance balances (increase p) par = false
clears_balance balances (decrease p) par = eqb (balance_at balances p) par

-- Par is no multiple of the security's piece, and does not clear the whole balance: number 14.
unfoldable pub off_piece : List ℕ → List ℕ → Transfer → Bool
off_piece pieces balances t =
    not (eqb (t.par % piece_of pieces t.security) 0) && not (clears_balance balances (change_of t) t.par)

-- A lending code, 1 to 6, on a day before the 2023 memo, when lending did not yet exist: number 15.
unfoldable pub lends_early : ℕ → ℕ → Bool
lends_early day code = before_memo day && (leb 1 code && leb code 6)

-- Numbers 14, 15, 7 and 8 of a transfer.
unfoldable pub posting_causes : List ℕ → ℕ → List ℕ → Transfer → List Cause
posting_causes pieces day balances t = cause 14 (off_piece pieces balances t) ∷ cause 15 (lends_early day t.code) ∷ loan_causes balances t
