-- The answers of the functions that find the tag, each from what the code has seen.
use mathlib.Core.Path.{◌≡◌, sym, ap, ◌∙◌}
use mathlib.Core.Bool.{true, false}
use mathlib.Core.List.{List}
use Prim.Native.Nat.{ℕ, ◌+◌, ◌-◌, ◌≤◌, ◌<◌}
use native.Mathlib.Omega.{arith}
use lib.ListN.{length, get_or}
use borrow.Author.Tests.{eq-eqb, ne_eqb, lt-ltb, le-leb, lt-leb}
use Rattle.lists.specs.All.{all}
use Rattle.lists.specs.Fields.{part}
use Rattle.days.specs.declared.Date.{Date}
use Rattle.std.proofs.Common.{Option, Some, None}
use Rattle.days.specs.Days.{checked}
use Rattle.days.proofs.Parts.{is_date_lem, not_date}
use Rattle.tags.specs.declared.Tag.TheVariants.{Absent, Several, Unended, Empty, NotDate, On}
use Rattle.tags.specs.ContractDateTag.{openers, end_from, is_digit, digits_number, writes_date, tag_holding, tag_at, tag_of}

-- ---- what a tag holds

module _ (bs : List ℕ) where
  pub holding_length : (length bs ≡ 8 → ⊥) → NotDate ≡ tag_holding bs
  unfolding tag_holding writes_date
  holding_length n = rw (ne_eqb (length bs) 8 n)

  module _ (h : length bs ≡ 8) where
    pub holding_other : all is_digit bs ≡ false → NotDate ≡ tag_holding bs
    unfolding tag_holding writes_date
    holding_other e = rw (eq-eqb (length bs) 8 h, e)

    module _ {n : ℕ} {r : Option Date} (t : all is_digit bs ≡ true) (e : digits_number bs ≡ n) (c : r ≡ checked n) where
      pub holding_date : {d : Date} → r ≡ Some d → On d ≡ tag_holding bs
      unfolding tag_holding writes_date
      holding_date f =
          let i = is_date_lem n c f in
          ap (λ (x : ℕ). On (record { 0 = x })) (i.1 ∙ sym e) ∙ rw (eq-eqb (length bs) 8 h, t, e, i.0)

      pub holding_not : r ≡ None → NotDate ≡ tag_holding bs
      unfolding tag_holding writes_date
      holding_not f = rw (eq-eqb (length bs) 8 h, t, e, not_date n c f)

-- ---- the tag at an opener

module _ (line : List ℕ) (at : ℕ) {end : ℕ} (e : end ≡ end_from line (at + 10)) where
  pub at_unended : length line ≤ end → Unended ≡ tag_at line at
  unfolding tag_at
  at_unended h = rw (← e, le-leb (length line) end h)

  module _ (h : end < length line) where
    pub at_empty : end ≡ at + 10 → Empty ≡ tag_at line at
    unfolding tag_at
    at_empty z = rw (← e, lt-leb (length line) end h, eq-eqb end (at + 10) z)

    pub at_filled : (end ≡ at + 10 → ⊥) → tag_holding (part (at + 10) (end - (at + 10)) line) ≡ tag_at line at
    unfolding tag_at
    at_filled n = rw (← e, lt-leb (length line) end h, ne_eqb end (at + 10) n)

-- ---- the tag of two lines

module _ (a b : List ℕ) {m n : ℕ} (em : m ≡ length (openers a)) (en : n ≡ length (openers b)) where
  pub of_none : m + n ≡ 0 → Absent ≡ tag_of a b
  unfolding tag_of
  of_none h = rw (← em, ← en, eq-eqb _ _ h)

  pub of_several : 1 < m + n → Several ≡ tag_of a b
  unfolding tag_of
  of_several k = rw (← em, ← en, ne_eqb (m + n) 0 (λ e. omega arith), lt-ltb _ _ k)

  pub of_first : m + n ≡ 1 → m ≡ 1 → tag_at a (get_or (openers a) 0 0) ≡ tag_of a b
  unfolding tag_of
  of_first h l = rw (← em, ← en, h, l)

  pub of_second : m + n ≡ 1 → (m ≡ 1 → ⊥) → tag_at b (get_or (openers b) 0 0) ≡ tag_of a b
  unfolding tag_of
  of_second h l = rw (← em, ← en, h, ne_eqb _ _ l)
