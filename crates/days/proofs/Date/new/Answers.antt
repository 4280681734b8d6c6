-- Each test of the code is the next test of the definition.
use mathlib.Core.Path.{◌≡◌, subst}
use Prim.Native.Nat.{ℕ, ◌/◌, ◌%◌, ◌<◌, ◌≤◌}
use borrow.Author.Tests.{le-leb, lt-leb}
use Rattle.days.specs.Days.{checked, is_date, month_length}
use Rattle.std.proofs.Common.{Some, None}
use Rattle.days.proofs.Lengths.{length_ge}
use Rattle.days.proofs.Parts.{date_by_length}
use native.Mathlib.Omega.{arith}
use Rattle.days.proofs.Date.new.Goals as goal

-- behind the tests before, the month's length decides
module _ (n : ℕ) (h : 20000101 ≤ n) (l : n ≤ 20391231) (hm : 1 ≤ n / 100 % 100) (lm : n / 100 % 100 ≤ 12) (hd : 1 ≤ n % 100) where
  has-day : n % 100 ≤ month_length (n / 10000) (n / 100 % 100) → Some (record { 0 = n }) ≡ checked n
  unfolding checked
  has-day e = simp (date_by_length n h l hm lm hd, le-leb _ _ e)

  lacks-day : month_length (n / 10000) (n / 100 % 100) < n % 100 → None ≡ checked n
  unfolding checked
  lacks-day e = simp (date_by_length n h l hm lm hd, lt-leb _ _ e)

pub returns-then-n : goal.returns-then-n
unfolding checked is_date
returns-then-n c =
    let n = c.args.n in
    simp (lt-leb 20000101 n (omega arith))

pub returns-then-n-2 : goal.returns-then-n-2
unfolding checked is_date
returns-then-n-2 c =
    let n = c.args.n in
    simp (le-leb 20000101 n (omega arith), lt-leb n 20391231 (omega arith))

pub returns-then-m-lt1 : goal.returns-then-m-lt1
unfolding checked is_date
returns-then-m-lt1 c =
    let n = c.args.n in
    simp (le-leb 20000101 n (omega arith), le-leb n 20391231 (omega arith), lt-leb 1 (n / 100 % 100) (omega arith))

pub returns-then-m-gt12 : goal.returns-then-m-gt12
unfolding checked is_date
returns-then-m-gt12 c =
    let n = c.args.n in
    simp (le-leb 20000101 n (omega arith), le-leb n 20391231 (omega arith), le-leb 1 (n / 100 % 100) (omega arith), lt-leb (n / 100 % 100) 12 (omega arith))

pub returns-then-d-lt1 : goal.returns-then-d-lt1
unfolding checked is_date
returns-then-d-lt1 c =
    let n = c.args.n in
    simp (le-leb 20000101 n (omega arith), le-leb n 20391231 (omega arith), le-leb 1 (n / 100 % 100) (omega arith), le-leb (n / 100 % 100) 12 (omega arith), lt-leb 1 (n % 100) (omega arith))

pub returns-then-d-le28 : goal.returns-then-d-le28
returns-then-d-le28 c =
    let n = c.args.n in
    let g = length_ge (n / 10000) (n / 100 % 100) (omega arith) (omega arith) (omega arith) (omega arith) in
    has-day n (omega arith) (omega arith) (omega arith) (omega arith) (omega arith) (omega arith)

pub returns-then-month_length-d : goal.returns-then-month_length-d
returns-then-month_length-d c =
    let n = c.args.n in
    lacks-day n (omega arith) (omega arith) (omega arith) (omega arith) (omega arith)
    (subst (λ (l : ℕ). l < n % 100) c.month_length.ensures c.if-month_length-d.true)

pub returns : goal.returns
returns c =
    let n = c.args.n in
    has-day n (omega arith) (omega arith) (omega arith) (omega arith) (omega arith)
    (subst (λ (l : ℕ). n % 100 ≤ l) c.month_length.ensures c.if-month_length-d.false)
