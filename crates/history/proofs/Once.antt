-- Which Record Dates the accepted closes cross: the day only moves on, so each of those passed is crossed once.
use mathlib.Core.Path.{◌≡◌, refl, sym, ◌∙◌}
use mathlib.Core.Bool.{Bool, true, false, cond, true≢false}
use mathlib.Core.List.{List, [], ◌∷◌}
use Prim.Native.Nat.{ℕ, zero, suc, ◌≤◌, ◌<◌}
use native.Mathlib.Omega.{arith}
use native.Mathlib.Decide.{dec_lt}
use Rattle.lists.specs.Sums.{sum}
use Rattle.days.specs.Days.{open_after}
use Rattle.days.proofs.OpenDays.{open_date, after_later}
use Rattle.securities.specs.declared.Row.{Row}
use Rattle.claims.specs.Close.{crosses}
use Rattle.claims.proofs.Crossed.{crosses_words}
use Rattle.book.proofs.Judged.{kept}
use Rattle.history.specs.Calls.{Call, transfer, close}
use Rattle.history.specs.Causes.{number_for}
use Rattle.history.specs.Ledger.{Entry, Ledger, started, book_of, balances_of, day_after, keep, number_on, judged}
use Rattle.history.specs.Statement.{crossings_of, crossings, CrossedOnce}
use Rattle.history.proofs.Accepted.{closed}
use Rattle.history.proofs.Simulation.{Accepts}

-- the crossing that a close adds, by the days
record Adds (day next : ℕ) (row : Row) (n : ℕ) : Type 0 where
  hit : day < row.record_date → row.record_date ≤ next → n ≡ 1
  before : row.record_date ≤ day → n ≡ 0
  after : next < row.record_date → n ≡ 0

adds : (day next : ℕ) (row : Row) → Adds day next row (cond (crosses day next row) 1 0)
adds day next row = go (crosses day next row) refl
  where
    go : (b : Bool) → crosses day next row ≡ b → Adds day next row (cond b 1 0)
    go true e =
        let k = (crosses_words day next row).0 e in
        record { hit = λ x y. refl; before = λ x. absurd (omega (arith, k.0)); after = λ x. absurd (omega (arith, k.1)) }
    go false e =
        record {
          hit = λ x y. absurd (true≢false (sym ((crosses_words day next row).1 (x, y)) ∙ e));
          before = λ x. refl;
          after = λ x. refl;
        }

-- a ledger's day is not before the opening's, and what it passed is crossed
pub record Passed (calendar : List ℕ) (start : ℕ) (t : Ledger) (row : Row) : Type 0 where
  pub later : start ≤ t.day
  pub crossed_once : CrossedOnce calendar start t row

-- entries and that of a call, if it is accepted
unfoldable pub with_entry : ℕ → Ledger → Call → List Entry → List Entry
with_entry zero t call es = record { day = t.day; call = call } ∷ es
with_entry (suc n) t call es = es

module _ (calendar tables : List ℕ) (start : ℕ) (row : Row) where
  -- a call of a ledger, with any entries counted up to it
  pub passed_step : (t : Ledger) (es : List Entry) (call : Call) (n : ℕ) → Accepts calendar tables t call n
      → Passed calendar start (record { day = t.day; entries = es }) row
      → Passed calendar start (record { day = (keep n calendar t call).day; entries = with_entry n t call es }) row
  unfolding keep with_entry day_after crossings crossings_of book_of sum
  passed_step t es (transfer a) zero e h =
      let c = h.crossed_once in
      record {
        later = h.later;
        crossed_once = record {
          within = λ x y. omega (arith, c.within x y);
          early = λ x. omega (arith, c.early x);
          late = λ x. omega (arith, c.late x);
        };
      }
  passed_step t es (close a) zero e h =
      let k = (closed calendar tables (book_of t) (balances_of t) a (e refl)).sound in
      let d = k.day_sound in
      let next = after_later (kept k.tables_sound) t.day (open_date calendar t.day d.open_day) d.next_day in
      let c = h.crossed_once in
      let f = adds t.day (open_after calendar t.day) row in
      let o = h.later in
      record {
        later = omega arith;
        crossed_once = record {
          within = λ x y. elim (dec_lt t.day row.record_date) [
            | yes z ↦ omega (arith, c.late z, f.hit z y)
            | no z ↦ omega (arith, c.within x (omega arith), f.before (omega arith))
          ];
          early = λ x. omega (arith, c.early x, f.before (omega arith));
          late = λ x. omega (arith, c.late (omega arith), f.after x);
        };
      }
  passed_step t es call (suc n) e h = h

  -- all entries of the ledger
  passed_kept : (t : Ledger) (call : Call) (n : ℕ) → Accepts calendar tables t call n
      → Passed calendar start t row → Passed calendar start (keep n calendar t call) row
  unfolding keep with_entry
  passed_kept t call zero e h = passed_step t t.entries call zero e h
  passed_kept t call (suc n) e h = h

  pub passed : (calls : List Call) (t : Ledger) → Passed calendar start t row → Passed calendar start (judged calendar tables t calls).ledger row
  unfolding judged number_on
  passed [] t h = h
  passed (call ∷ calls) t h =
      let n = number_for calendar tables (book_of t) (balances_of t) call in
      passed calls (keep n calendar t call) (passed_kept t call n (λ z. z) h)

  -- no entries, from a day on
  pub passed_none : Passed calendar start (record { day = start; entries = [] }) row
  unfolding crossings sum
  passed_none = record {
    later = omega arith;
    crossed_once = record { within = λ x y. absurd (omega arith); early = λ x. refl; late = λ x. refl };
  }

  pub passed_started : Passed calendar start (started start) row
  unfolding started
  passed_started = passed_none
