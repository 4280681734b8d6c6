-- The numbers 5, 9 and 10 of a close on a sound book, each by the facts that code has there, and what a pass over its claims asks.
use mathlib.Core.Path.{◌≡◌, refl, sym, ap, ◌∙◌}
use mathlib.Core.Bool.{Bool, true, false, cond, not, true≢false}
use mathlib.Core.List.{List, [], ◌∷◌}
use Prim.Native.Nat.{ℕ, suc, ◌*◌, ◌≤◌, ◌<◌}
use lib.ListN.{length}
use lib.Dec.{eqb}
use Rattle.std.proofs.Common.{Option, Some, None}
use Rattle.std.specs.Option.{is_some}
use borrow.Author.Tests.{eqb-true, eq-eqb, ne_eqb, lt-ltb, le-ltb, not-false}
use Rattle.lists.specs.Tests.{and_left, and_right, and_both, or_false_right}
use Rattle.lists.specs.All.{all}
use Rattle.lists.specs.First.{first_of, applies_at, hit, skip, none}
use Rattle.lists.proofs.First.{cleared}
use Rattle.days.specs.Days.{is_date, open_at, open_after, as_day}
use Rattle.days.specs.declared.Date.{Date}
use Rattle.records.specs.MessageRecords.{close_kind, reads}
use Rattle.claims.specs.Close.{close_claims}
use Rattle.claims.specs.Turns.{small, SoundClose}
use Rattle.book.specs.declared.Book.{Book}
use Rattle.book.specs.Book.{position}
use Rattle.book.specs.Soundness.{bad_day, good_balance, good_balances_from, bad_balances, table_causes, state_causes, book_causes}
use Rattle.book.proofs.Judged.{SoundBook, numbered_book}
use Rattle.history.specs.Calls.{Arguments, close, claims_of}
use Rattle.history.specs.Causes.{record_causes, last_day_causes, room_causes, call_causes}

module _ (calendar tables : List ℕ) (book : Book) (balances : List ℕ) (a : Arguments) where
  module _ (r : reads close_kind a.message ≡ true) where
    pub close_last : open_after calendar (open_after calendar book.day) ≡ 0 → 9 ≡ first_of (call_causes calendar tables book balances (close a))
    unfolding call_causes record_causes last_day_causes room_causes
    close_last z = skip 5 _ (ap not r) (hit 9 _ (eq-eqb _ 0 z))

    module _ (n : open_after calendar (open_after calendar book.day) ≡ 0 → ⊥) where
      pub close_room : length a.buffer < 35 * length (close_claims calendar tables book.day balances)
          → 10 ≡ first_of (call_causes calendar tables book balances (close a))
      unfolding call_causes record_causes last_day_causes room_causes claims_of
      close_room h = skip 5 _ (ap not r) (skip 9 _ (ne_eqb _ 0 n) (hit 10 _ (lt-ltb _ _ h)))

      pub close_accepted : 35 * length (close_claims calendar tables book.day balances) ≤ length a.buffer
          → 0 ≡ first_of (call_causes calendar tables book balances (close a))
      unfolding call_causes record_causes last_day_causes room_causes claims_of
      close_accepted h = skip 5 _ (ap not r) (skip 9 _ (ne_eqb _ 0 n) (skip 10 _ (le-ltb _ _ h) none))

  pub close_cut : reads close_kind a.message ≡ false → 5 ≡ first_of (call_causes calendar tables book balances (close a))
  unfolding call_causes record_causes
  close_cut r = hit 5 _ (ap not r)

-- ---- the two open days that follow

-- where no open day follows, none follows the number 0 either
pub no_later : (calendar : List ℕ) (day : ℕ) → open_after calendar day ≡ 0 → open_after calendar (open_after calendar day) ≡ 0
unfolding open_after open_at is_date
no_later calendar day z = rw z refl

-- what a test of a search's answer says of the number
module _ (n : ℕ) {r : Option Date} (e : r ≡ as_day n) where
  pub none_found : {b : Bool} → is_some r ≡ not b → b ≡ true → n ≡ 0
  unfolding as_day
  none_found q t = go (eqb n 0) refl (sym (ap is_some e) ∙ q ∙ ap not t)
    where
      day : Date
      day = record { 0 = n }

      go : (b : Bool) → eqb n 0 ≡ b → is_some (cond b None (Some day)) ≡ false → n ≡ 0
      go true z k = eqb-true n 0 z
      go false z k = absurd (true≢false k)

  pub one_found : {b : Bool} → is_some r ≡ not b → b ≡ false → n ≡ 0 → ⊥
  unfolding as_day
  one_found q f z = true≢false (sym q' ∙ ap is_some (e ∙ ap as_day z))
    where
      q' : is_some r ≡ true
      q' = q ∙ ap not f

-- ---- a sound book

pub sound_close : (calendar tables : List ℕ) (day : ℕ) (balances : List ℕ) (next : ℕ) → SoundBook calendar tables day balances
    → next ≡ open_after calendar day → SoundClose calendar tables day next
sound_close calendar tables day balances next s e =
    record {
      table_rules = s.tables_sound.table_rules;
      next_day = e;
    }

small_one : (w par : ℕ) → good_balance (position w) par ≡ true → small par ≡ true
unfolding good_balance small
small_one w par e = and_left _ _ e

small_from : (w : ℕ) (pars : List ℕ) → good_balances_from w pars ≡ true → all small pars ≡ true
unfolding good_balances_from
small_from w [] e = refl
small_from w (par ∷ pars) e =
    and_both (small_one w par (and_left (good_balance (position w) par) (good_balances_from (suc w) pars) e))
    (small_from (suc w) pars (and_right (good_balance (position w) par) (good_balances_from (suc w) pars) e))

pub small_balances : (calendar tables : List ℕ) (day : ℕ) (balances : List ℕ) → first_of (book_causes calendar tables day balances) ≡ 0
    → all small balances ≡ true
unfolding book_causes table_causes state_causes bad_balances applies_at
small_balances calendar tables day balances z =
    let cs = book_causes calendar tables day balances in
    small_from 0 balances
    (not-false _ (or_false_right (bad_day calendar day) _ (cleared 4 cs (numbered_book calendar tables day balances) z)))
