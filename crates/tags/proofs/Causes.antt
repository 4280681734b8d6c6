-- The edits of a tag: the number of the first that applies, case by case, and when each applies.
use mathlib.Core.Path.{◌≡◌, refl, sym}
use mathlib.Core.Bool.{Bool, true, false, not, ◌&&◌}
use mathlib.Core.List.{[], ◌∷◌}
use Prim.Native.Nat.{ℕ, ◌≤◌, ◌<◌}
use native.Mathlib.Omega.{arith}
use lib.Dec.{eqb, ltb}
use borrow.Author.Tests.{eq-eqb, ne_eqb, le-ltb, lt-ltb, ltb-true, ltb-false, eqb-true, eqb-false}
use Rattle.lists.specs.First.{cause, first_of, numbered, applies_at, hit, skip, none}
use Rattle.days.specs.declared.Date.{Date}
use Rattle.tags.specs.declared.Tag.{Tag}
use Rattle.tags.specs.declared.Tag.TheVariants.{Absent, Several, Unended, Empty, NotDate, On}
use Rattle.tags.specs.ContractDateTag.{tagged, contract_date, is_several, is_unended, is_not_date, edit_causes}

-- ---- the number, case by case

module _ (class day : ℕ) where
  pub absent_accepted : first_of (edit_causes Absent class day) ≡ 0
  unfolding first_of edit_causes is_several is_unended is_not_date tagged
  absent_accepted = refl

  pub several_number : first_of (edit_causes Several class day) ≡ 132
  unfolding first_of edit_causes is_several
  several_number = refl

  pub unended_number : first_of (edit_causes Unended class day) ≡ 133
  unfolding first_of edit_causes is_several is_unended
  unended_number = refl

  pub empty_number : first_of (edit_causes Empty class day) ≡ 135
  unfolding first_of edit_causes is_several is_unended is_not_date
  empty_number = refl

  pub not_date_number : first_of (edit_causes NotDate class day) ≡ 135
  unfolding first_of edit_causes is_several is_unended is_not_date
  not_date_number = refl

  module _ (d : Date) where
    pub late_number : day < d.0 → first_of (edit_causes (On d) class day) ≡ 138
    unfolding edit_causes is_several is_unended is_not_date tagged contract_date
    late_number h = sym (skip 132 _ refl (skip 133 _ refl (skip 135 _ refl (hit 138 _ (lt-ltb day d.0 h)))))

    -- the first four edits do not apply, and the last decides
    on_time : {n : ℕ} → d.0 ≤ day → n ≡ first_of (cause 139 (eqb class 1 && not (eqb d.0 day)) ∷ []) → first_of (edit_causes (On d) class day) ≡ n
    unfolding edit_causes is_several is_unended is_not_date tagged contract_date
    on_time h e = sym (skip 132 _ refl (skip 133 _ refl (skip 135 _ refl (skip 138 _ (le-ltb day d.0 h) e))))

    pub other_day_number : d.0 ≤ day → class ≡ 1 → (d.0 ≡ day → ⊥) → first_of (edit_causes (On d) class day) ≡ 139
    other_day_number h c n = on_time h (hit 139 _ (rw (eq-eqb class 1 c, ne_eqb d.0 day n)))

    pub market_accepted : d.0 ≤ day → (class ≡ 1 → ⊥) → first_of (edit_causes (On d) class day) ≡ 0
    market_accepted h c = on_time h (skip 139 _ (rw (ne_eqb class 1 c)) none)

    pub same_day_accepted : d.0 ≡ day → first_of (edit_causes (On d) class day) ≡ 0
    same_day_accepted e = on_time (omega arith) (skip 139 _ (rw (eq-eqb d.0 day e) (never (eqb class 1))) none)
      where
        never : (b : Bool) → b && false ≡ false
        never true = refl
        never false = refl

-- ---- the causes by their numbers

module _ (tag : Tag) (class day : ℕ) where
  pub edits_numbered : numbered (edit_causes tag class day) ≡ true
  unfolding numbered edit_causes
  edits_numbered = refl

  pub applies_132 : applies_at 132 (edit_causes tag class day) ≡ is_several tag
  unfolding applies_at edit_causes
  applies_132 = refl

  pub applies_133 : applies_at 133 (edit_causes tag class day) ≡ is_unended tag
  unfolding applies_at edit_causes
  applies_133 = refl

  pub applies_135 : applies_at 135 (edit_causes tag class day) ≡ is_not_date tag
  unfolding applies_at edit_causes
  applies_135 = refl

  pub applies_138 : applies_at 138 (edit_causes tag class day) ≡ (tagged tag && ltb day (contract_date tag))
  unfolding applies_at edit_causes
  applies_138 = refl

  pub applies_139 : applies_at 139 (edit_causes tag class day) ≡ (tagged tag && (eqb class 1 && not (eqb (contract_date tag) day)))
  unfolding applies_at edit_causes
  applies_139 = refl

-- ---- a transfer that no edit refuses

-- No edit refuses: there is no opener, or the tag has a date not after the day, and for class 1 it is the day.
abbrev pub Passed : Tag → ℕ → ℕ → Type 0
Passed Absent class day = Unit {0}
Passed Several class day = ⊥
Passed Unended class day = ⊥
Passed Empty class day = ⊥
Passed NotDate class day = ⊥
Passed (On d) class day = (d.0 ≤ day) × (class ≡ 1 → d.0 ≡ day)

pub passed : (tag : Tag) (class day : ℕ) → first_of (edit_causes tag class day) ≡ 0 → Passed tag class day
passed Absent class day e = tt
passed Several class day e = absurd (omega (arith, several_number class day))
passed Unended class day e = absurd (omega (arith, unended_number class day))
passed Empty class day e = absurd (omega (arith, empty_number class day))
passed NotDate class day e = absurd (omega (arith, not_date_number class day))
passed (On d) class day e = go (ltb day d.0) refl
  where
    go : (b : Bool) → ltb day d.0 ≡ b → (d.0 ≤ day) × (class ≡ 1 → d.0 ≡ day)
    go true t = absurd (omega (arith, late_number class day d (ltb-true day d.0 t)))
    go false f =
        let l = ltb-false day d.0 f in
        (l, λ c. on_day_lem (eqb d.0 day) refl l c)
      where
        on_day_lem : (b : Bool) → eqb d.0 day ≡ b → d.0 ≤ day → class ≡ 1 → d.0 ≡ day
        on_day_lem true t l c = eqb-true d.0 day t
        on_day_lem false f l c = absurd (omega (arith, other_day_number class day d l c (eqb-false d.0 day f)))

pub passed_accepted : (tag : Tag) (class day : ℕ) → Passed tag class day → first_of (edit_causes tag class day) ≡ 0
passed_accepted Absent class day p = absent_accepted class day
passed_accepted Several class day p = absurd p
passed_accepted Unended class day p = absurd p
passed_accepted Empty class day p = absurd p
passed_accepted NotDate class day p = absurd p
passed_accepted (On d) class day p = go (eqb class 1) refl
  where
    go : (b : Bool) → eqb class 1 ≡ b → first_of (edit_causes (On d) class day) ≡ 0
    go true t = same_day_accepted class day d (p.1 (eqb-true class 1 t))
    go false f = market_accepted class day d p.0 (eqb-false class 1 f)

differ : false ≡ true → ⊥
differ p = let z : ◌≡◌ {A = ℕ} 0 1 = cc in omega arith

-- The Contract Date of an accepted transfer is not after the day, and for class 1 it is the day.
pub accepted_date : (tag : Tag) (class day : ℕ) → first_of (edit_causes tag class day) ≡ 0 → contract_date tag ≤ day
unfolding contract_date
accepted_date Absent class day e = omega arith
accepted_date Several class day e = omega arith
accepted_date Unended class day e = omega arith
accepted_date Empty class day e = omega arith
accepted_date NotDate class day e = omega arith
accepted_date (On d) class day e = (passed (On d) class day e).0

pub accepted_other : (tag : Tag) (day : ℕ) → first_of (edit_causes tag 1 day) ≡ 0 → tagged tag ≡ true → contract_date tag ≡ day
unfolding tagged contract_date
accepted_other Absent day e t = absurd (differ t)
accepted_other Several day e t = absurd (differ t)
accepted_other Unended day e t = absurd (differ t)
accepted_other Empty day e t = absurd (differ t)
accepted_other NotDate day e t = absurd (differ t)
accepted_other (On d) day e t = (passed (On d) 1 day e).1 refl
