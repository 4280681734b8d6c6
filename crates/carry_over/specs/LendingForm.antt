-- The form with lending alone (document 02, card 8: the rules in force, with repo left out). It is made from the rules in force, so that
-- every cause and every claim of them is in it: three tests of the causes are replaced, and a close claims on the par on loan alone.
use Rattle.std.specs.Prelude.{Bool, false, ◌||◌, List, ℕ, ltb}
use Rattle.lists.specs.First.{Cause, first_of, with_test}
use Rattle.lists.specs.Tabulate.{each, each_of}
use Rattle.records.specs.declared.Claim.{Claim}
use Rattle.records.specs.MessageRecords.{transfer_of}
use Rattle.securities.specs.Securities.{security_count}
use Rattle.claims.specs.Amounts.{lending_type}
use Rattle.claims.specs.Close.{crossed, security_balances, tracking_claims}
use Rattle.book.specs.declared.Book.{Book}
use Rattle.book.specs.Book.{tracking_words}
use Rattle.book.specs.Soundness.{wrong_length_for, opening_causes}
use Rattle.history.specs.Calls.{Call, transfer, close, buffer_of, claims_of}
use Rattle.history.specs.Causes.{out_of_range, no_room, causes}
use Rattle.history.specs.Results.{Result, Run, Opened, result_with, opened_for, run_by}

-- ---- the claims

-- Those of a close: claim type 3 on the par on loan, in the order security, row, lender, borrower.
unfoldable pub lending_claims : List ℕ → List ℕ → ℕ → List ℕ → List Claim
lending_claims calendar tables day balances =
    each security_count λ s.
    each_of (crossed calendar tables day s) (tracking_claims calendar tables day lending_type s (security_balances balances 0 s))

-- Those of a transfer are the same in both forms.
unfoldable pub lending_claims_of : List ℕ → List ℕ → Book → List ℕ → Call → List Claim
lending_claims_of calendar tables book balances (transfer a) = claims_of calendar tables book balances (transfer a)
lending_claims_of calendar tables book balances (close a) = lending_claims calendar tables book.day balances

-- ---- a call

-- What is out of range in the form with repo, or a code over 6, the last of lending: number 6.
unfoldable pub lending_out_of_range : List ℕ → Call → Bool
lending_out_of_range tables (transfer a) = out_of_range tables (transfer_of a.message) || ltb 6 (transfer_of a.message).code
lending_out_of_range tables (close a) = false

-- The causes in force, but for three tests: 1 wants 4,096 balances, 6 refuses codes over 6, and 10 counts the claims of this form.
unfoldable pub lending_causes : List ℕ → List ℕ → Book → List ℕ → Call → List Cause
lending_causes calendar tables book balances call =
    with_test 1 (wrong_length_for tracking_words calendar tables balances)
    (with_test 6 (lending_out_of_range tables call)
    (with_test 10 (no_room (lending_claims_of calendar tables book balances call) (buffer_of call))
    (causes calendar tables book balances call)))

-- The number of the first cause that applies, 0 if none does.
unfoldable pub lending_number : List ℕ → List ℕ → Book → List ℕ → Call → ℕ
lending_number calendar tables book balances call = first_of (lending_causes calendar tables book balances call)

-- What a transfer or a close of this form answers and leaves.
unfoldable pub lending_result : List ℕ → List ℕ → Book → List ℕ → Call → Result
lending_result calendar tables book balances call =
    result_with (lending_number calendar tables book balances call) (lending_claims_of calendar tables book balances call) calendar book balances call

-- ---- a list of calls

-- Each call on the book and balances that the last one left.
abbrev pub lending_run : List ℕ → List ℕ → Book → List ℕ → List Call → Run
lending_run calendar tables book balances calls = run_by (lending_result calendar tables) book balances calls

-- An opening of this form.
unfoldable pub lending_opened : List ℕ → List ℕ → List ℕ → ℕ → Opened
lending_opened calendar tables balances day =
    opened_for (first_of (with_test 1 (wrong_length_for tracking_words calendar tables balances) (opening_causes calendar tables balances day))) balances day
