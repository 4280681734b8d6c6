-- A tag on a day in other words: it has the Contract Date that it writes, or it is empty, the day is before the 2023 memo and the date is
-- the day; it is refused as no date where it holds something else, or is empty on a day from then on.
use mathlib.Core.Path.{◌≡◌, refl, sym, ap}
use mathlib.Core.Logic.{◌↔◌, ◌⊎◌, inl, inr}
use mathlib.Core.Bool.{Bool, true, false, cond}
use Prim.Native.Nat.{ℕ, ◌≤◌, ◌<◌}
use native.Mathlib.Omega.{arith}
use lib.Dec.{ltb}
use borrow.Author.Tests.{ltb-true, ltb-false, lt-ltb, le-ltb}
use Rattle.days.specs.declared.Date.{Date}
use Rattle.days.specs.MemoDay.{memo_day, before_memo}
use Rattle.tags.specs.declared.Tag.{Tag}
use Rattle.tags.specs.declared.Tag.TheVariants.{Absent, Several, Unended, Empty, NotDate, On}
use Rattle.tags.specs.ContractDateTag.{on_day, contract_date, is_not_date}

-- ---- the code's cases

module _ (day : ℕ) where
  pub empty_before : before_memo day ≡ true → On (record { 0 = day }) ≡ on_day day Empty
  unfolding on_day
  empty_before e = rw e

  pub empty_later : before_memo day ≡ false → Empty ≡ on_day day Empty
  unfolding on_day
  empty_later e = rw e

  -- only an empty tag changes
  pub other_same : (tag : Tag) → (tag ≡ Empty → ⊥) → tag ≡ on_day day tag
  unfolding on_day
  other_same Absent n = refl
  other_same Several n = refl
  other_same Unended n = refl
  other_same Empty n = absurd (n refl)
  other_same NotDate n = refl
  other_same (On d) n = refl

-- ---- in other words

-- The tag writes this date; or it is empty, the day is before the memo, and the date is the day.
pub on_day_words : (day : ℕ) (tag : Tag) (d : Date)
    → (on_day day tag ≡ On d) ↔ (tag ≡ On d ⊎ ((tag ≡ Empty) × (day < memo_day) × (d.0 ≡ day)))
unfolding on_day before_memo contract_date
on_day_words day tag d = (there tag, back)
  where
    empty : (b : Bool) → ltb day memo_day ≡ b → cond b (On (record { 0 = day })) Empty ≡ On d
        → Empty ≡ On d ⊎ ((Empty ≡ Empty) × (day < memo_day) × (d.0 ≡ day))
    empty true t e = inr (refl, ltb-true day memo_day t, sym (ap contract_date e))
    empty false t e = inl e

    there : (tag : Tag) → on_day day tag ≡ On d → tag ≡ On d ⊎ ((tag ≡ Empty) × (day < memo_day) × (d.0 ≡ day))
    there Absent e = inl e
    there Several e = inl e
    there Unended e = inl e
    there Empty e = empty (ltb day memo_day) refl e
    there NotDate e = inl e
    there (On x) e = inl e

    back : tag ≡ On d ⊎ ((tag ≡ Empty) × (day < memo_day) × (d.0 ≡ day)) → on_day day tag ≡ On d
    back (inl e) = rw e
    back (inr h) = rw (h.0, lt-ltb day memo_day h.1, ← h.2)

-- It holds something that is no date; or it is empty, and the day is not before the memo.
pub no_date_words : (day : ℕ) (tag : Tag) → (is_not_date (on_day day tag) ≡ true) ↔ (tag ≡ NotDate ⊎ ((tag ≡ Empty) × (memo_day ≤ day)))
unfolding on_day before_memo is_not_date
no_date_words day tag = (there tag, back)
  where
    differ : {A : Type 0} → false ≡ true → A
    differ e = absurd (let z : ◌≡◌ {A = ℕ} 0 1 = cc in omega arith)

    empty : (b : Bool) → ltb day memo_day ≡ b → is_not_date (cond b (On (record { 0 = day })) Empty) ≡ true
        → Empty ≡ NotDate ⊎ ((Empty ≡ Empty) × (memo_day ≤ day))
    empty true t e = differ e
    empty false t e = inr (refl, ltb-false day memo_day t)

    there : (tag : Tag) → is_not_date (on_day day tag) ≡ true → tag ≡ NotDate ⊎ ((tag ≡ Empty) × (memo_day ≤ day))
    there Absent e = differ e
    there Several e = differ e
    there Unended e = differ e
    there Empty e = empty (ltb day memo_day) refl e
    there NotDate e = inl refl
    there (On d) e = differ e

    back : tag ≡ NotDate ⊎ ((tag ≡ Empty) × (memo_day ≤ day)) → is_not_date (on_day day tag) ≡ true
    back (inl e) = rw e
    back (inr h) = rw (h.0, le-ltb day memo_day h.1)
