-- The stored book follows the ledger: what a call does to the ledger's book and balances is what the ledger keeps. The steps hold of
-- any number that is 0 only if no cause of the call applies.
use mathlib.Core.Path.{◌≡◌, refl, sym, ap, ap₂, ◌∙◌, subst₂, fun_ext}
use mathlib.Core.Bool.{Bool, true, false, cond}
use mathlib.Core.List.{List, [], ◌∷◌}
use Prim.Native.Nat.{ℕ, zero, suc, ◌+◌, ◌≤◌, ◌<◌}
use native.Mathlib.Nat.{zero-add}
use native.Mathlib.Omega.{arith}
use lib.ListN.{length}
use Rattle.lists.specs.Sums.{sum}
use Rattle.days.specs.Days.{open_after}
use Rattle.records.specs.declared.Transfer.{Transfer}
use Rattle.records.specs.MessageRecords.{transfer_of}
use Rattle.claims.specs.Written.{written}
use Rattle.book.specs.declared.Book.{Book}
use Rattle.book.specs.declared.Position.{Position}
use Rattle.book.specs.Book.{InRange, layout}
use Rattle.history.specs.Calls.{Call, transfer, close, buffer_of, claims_of}
use Rattle.history.specs.Causes.{number_for}
use Rattle.history.specs.Results.{Answer, next_book, next_balances, result_with, result_for, result, Run, run_by, run}
use Rattle.history.specs.Ledger.{is_increase, Entry, Ledger, transfer_count, transfers, increased_by, decreased_by, increases, decreases, par_lent, book_of, balances_of, day_after, keep, number_on, answer_for, Judged, judged}
use Rattle.history.specs.Statement.{Balanced, BalancedBefore}
use Rattle.history.proofs.Balances.{increase_range, covered_transfer, balances_transfer}
use Rattle.history.proofs.Accepted.{Fields, taken}

-- the accepted decreases of a position are never more than its accepted increases
abbrev pub Covered : List Entry → Type 0
Covered es = (p : Position) → decreases es p ≤ increases es p

-- only positions of the book are ever increased
abbrev pub Inside : List Entry → Type 0
Inside es = (p : Position) → 0 < increases es p → InRange p

-- par lent and decreases together are the increases
balanced : (es : List Entry) → Covered es → Balanced es
unfolding par_lent
balanced es h p = omega (arith, h p)

module _ (calendar tables : List ℕ) where
  -- n is the number that the call gets: 0 only if no cause applies
  abbrev pub Accepts : Ledger → Call → ℕ → Type 0
  Accepts t call n = n ≡ 0 → number_for calendar tables (book_of t) (balances_of t) call ≡ 0

  -- ---- one call: the balances

  pub covered_step : (t : Ledger) (call : Call) (n : ℕ) → Covered t.entries → Accepts t call n → Covered (keep n calendar t call).entries
  unfolding keep increases decreases increased_by decreased_by balances_of par_lent sum
  covered_step t (transfer a) zero h e =
      let k = taken calendar tables (book_of t) (balances_of t) a (e refl) in
      covered_transfer (increases t.entries) (decreases t.entries) h (transfer_of a.message) k.fields.code k.within k.enough
  covered_step t (close a) zero h e = λ p. omega (arith, h p)
  covered_step t call (suc n) h e = h

  pub balances_step : (t : Ledger) (call : Call) (n : ℕ) → Covered t.entries → Accepts t call n
      → (result_for n calendar tables (book_of t) (balances_of t) call).balances ≡ balances_of (keep n calendar t call)
  unfolding result_with next_balances keep increases decreases increased_by decreased_by balances_of par_lent sum
  balances_step t (transfer a) zero h e =
      let k = taken calendar tables (book_of t) (balances_of t) a (e refl) in
      balances_transfer (increases t.entries) (decreases t.entries) h (transfer_of a.message) k.fields.code k.within k.enough
  balances_step t (close a) zero h e =
      let k : (p : Position) → par_lent t.entries p ≡ par_lent (record { day = t.day; call = close a } ∷ t.entries) p = λ p. simp zero-add in
      ap layout (fun_ext k)
  balances_step t call (suc n) h e = refl

  inside_transfer : (t : Transfer) (p : Position) (v n : ℕ) → Fields t → (0 < n → InRange p) → 0 < cond (is_increase t p) v 0 + n → InRange p
  inside_transfer t p v n f ih k = go (is_increase t p) refl k
    where
      go : (d : Bool) → is_increase t p ≡ d → 0 < cond d v 0 + n → InRange p
      go true e k = increase_range t p e f
      go false e k = ih (omega arith)

  pub inside_step : (t : Ledger) (call : Call) (n : ℕ) → Inside t.entries → Accepts t call n → Inside (keep n calendar t call).entries
  unfolding keep increases increased_by sum
  inside_step t (transfer a) zero h e p k =
      let f = taken calendar tables (book_of t) (balances_of t) a (e refl) in
      inside_transfer (transfer_of a.message) p _ (increases t.entries p) f.fields (h p) k
  inside_step t (close a) zero h e p k = h p (omega arith)
  inside_step t call (suc n) h e p k = h p k

  balanced_step : (t : Ledger) (call : Call) (n : ℕ) → Covered t.entries
      → BalancedBefore t.entries → BalancedBefore (keep n calendar t call).entries
  unfolding keep
  balanced_step t call zero h k = (balanced t.entries h, k)
  balanced_step t call (suc n) h k = k

  -- ---- one call: the answer

  -- the book after an accepted call
  next_book_lem : (t : Ledger) (call : Call) → next_book calendar (book_of t) call ≡ book_of (keep 0 calendar t call)
  unfolding next_book keep book_of day_after transfers transfer_count sum
  next_book_lem t (transfer a) =
      let e : transfers t.entries + 1 ≡ 1 + transfers t.entries = omega arith in
      λ i. record { day = t.day; count = e i }
  next_book_lem t (close a) =
      let e : transfers t.entries ≡ 0 + transfers t.entries = omega arith in
      λ i. record { day = open_after calendar t.day; count = e i }

  answer_step : (t : Ledger) (call : Call) (n : ℕ) → (result_for n calendar tables (book_of t) (balances_of t) call).answer ≡ answer_for n calendar tables t call
  unfolding result_with answer_for
  answer_step t call zero =
      let claims = claims_of calendar tables (book_of t) (balances_of t) call in
      let b = next_book_lem t call in
      λ i. record { number = 0; book = b i; claims = length claims; buffer = written claims (buffer_of call) }
  answer_step t call (suc n) = refl

  -- the book that an answer returns is the ledger's after the call
  answer_book : (t : Ledger) (call : Call) (n : ℕ) → (answer_for n calendar tables t call).book ≡ book_of (keep n calendar t call)
  unfolding answer_for keep
  answer_book t call zero = refl
  answer_book t call (suc n) = refl

  -- ---- every list of calls

  pub record Follows (r : Run) (j : Judged) : Type 0 where
    pub answers : r.answers ≡ j.answers
    pub book : r.book ≡ book_of j.ledger
    pub balances : r.balances ≡ balances_of j.ledger
    pub covered : Covered j.ledger.entries
    pub before : BalancedBefore j.ledger.entries

  pub follows : (calls : List Call) (t : Ledger) → Covered t.entries → BalancedBefore t.entries
      → Follows (run calendar tables (book_of t) (balances_of t) calls) (judged calendar tables t calls)
  unfolding run_by judged result number_on
  follows [] t h k = record { answers = refl; book = refl; balances = refl; covered = h; before = k }
  follows (call ∷ calls) t h k =
      let n = number_for calendar tables (book_of t) (balances_of t) call in
      let next = keep n calendar t call in
      let done = result_for n calendar tables (book_of t) (balances_of t) call in
      let answer : done.answer ≡ answer_for n calendar tables t call = answer_step t call n in
      let rest : Follows (run calendar tables done.answer.book done.balances calls) (judged calendar tables next calls) =
      subst₂ (λ (b : Book) (l : List ℕ). Follows (run calendar tables b l calls) (judged calendar tables next calls))
      (sym (ap (λ (a : Answer). a.book) answer ∙ answer_book t call n)) (sym (balances_step t call n h (λ z. z)))
      (follows calls next (covered_step t call n h (λ z. z)) (balanced_step t call n h k)) in
      record {
        answers = ap₂ ◌∷◌ answer rest.answers;
        book = rest.book;
        balances = rest.balances;
        covered = rest.covered;
        before = rest.before;
      }
