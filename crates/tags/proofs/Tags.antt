-- What each case of the tag of two lines says in other words, both ways: each case says it, and where it holds the tag is that case.
use mathlib.Core.Path.{◌≡◌, refl, sym, ap, ◌∙◌, subst}
use mathlib.Core.Bool.{Bool, true, false, cond}
use mathlib.Core.List.Memᴰ
use mathlib.Core.List.{List, [], ◌∷◌}
use Prim.Native.Nat.{ℕ, ◌+◌, ◌-◌, ◌≤◌, ◌<◌}
use native.Mathlib.Nat.{le_refl, le_antisymm, lt_of_not-le}
use native.Mathlib.Omega.{arith}
use lib.Dec.{eqb, leb}
use lib.ListN.{length, get_or}
use borrow.Author.Tests.{eqb-true, eqb-false, leb-true, leb-false}
use Rattle.lists.specs.Tests.{and_left, and_right}
use Rattle.lists.specs.All.{all}
use Rattle.lists.specs.Fields.{part, part_length}
use Rattle.days.specs.declared.Date.{Date}
use Rattle.days.specs.Days.{is_date}
use Rattle.days.proofs.Parts.{parts}
use Rattle.tags.specs.declared.Tag.{Tag}
use Rattle.tags.specs.declared.Tag.TheVariants.{Absent, Several, Unended, Empty, NotDate, On}
use Rattle.tags.specs.ContractDateTag.{openers, end_from, is_digit, digits_number, writes_date, tag_holding, tag_at, tag_of, tagged, contract_date}
use Rattle.tags.proofs.Openers.{opener_there}
use Rattle.tags.proofs.Ends.{EndAt, NoEnd, end_at, end_none, at_end_lem, none_end}
use Rattle.tags.proofs.Digits.{written, digits_written, written_number, written_digits}
use Rattle.tags.proofs.Answers.{at_unended, at_empty, at_filled, of_none, of_several, of_first, of_second}

-- The one opener of both lines together has this place in this line.
pub data Sole (first second : List ℕ) : List ℕ → ℕ → Type 0 where
  in_first : {at : ℕ} → openers first ≡ at ∷ [] → openers second ≡ [] → Sole first second first at
  in_second : {at : ℕ} → openers first ≡ [] → openers second ≡ at ∷ [] → Sole first second second at

-- One opener, and no } after it in its line.
pub record UnendedTag (first second : List ℕ) : Type 0 where
  pub line : List ℕ
  pub place : ℕ
  pub sole : Sole first second line place
  pub unended : NoEnd line (place + 10)

-- One opener, and a } straight after it.
pub record EmptyTag (first second : List ℕ) : Type 0 where
  pub line : List ℕ
  pub place : ℕ
  pub sole : Sole first second line place
  pub ended : EndAt line (place + 10) (place + 10)

-- One opener, and what stands between it and the first } after it is something, and not eight digits that are a date.
pub record OtherTag (first second : List ℕ) : Type 0 where
  pub line : List ℕ
  pub place : ℕ
  pub end : ℕ
  pub sole : Sole first second line place
  pub ended : EndAt line (place + 10) end
  pub filled : place + 10 < end
  pub other : (n : ℕ) → is_date n ≡ true → part (place + 10) (end - (place + 10)) line ≡ written n → ⊥

-- One opener, the first } after it behind eight bytes, and these write a date.
pub record DatedTag (first second : List ℕ) (n : ℕ) : Type 0 where
  pub line : List ℕ
  pub place : ℕ
  pub sole : Sole first second line place
  pub ended : EndAt line (place + 10) (place + 18)
  pub digits : part (place + 10) 8 line ≡ written n
  pub date : is_date n ≡ true

-- What each case of a tag says of the two lines.
abbrev pub Says : List ℕ → List ℕ → Tag → Type 0
Says first second Absent = (openers first ≡ []) × (openers second ≡ [])
Says first second Several = 1 < length (openers first) + length (openers second)
Says first second Unended = UnendedTag first second
Says first second Empty = EmptyTag first second
Says first second NotDate = OtherTag first second
Says first second (On d) = DatedTag first second d.0

-- ---- what eight digits that are a date are

-- The bytes write a date: its eight digits.
pub record Written (bs : List ℕ) (n : ℕ) : Type 0 where
  pub eight : length bs ≡ 8
  pub digits : bs ≡ written n
  pub date : is_date n ≡ true

writes_date_lem : (bs : List ℕ) → writes_date bs ≡ true → Written bs (digits_number bs)
unfolding writes_date
writes_date_lem bs e =
    let h = eqb-true (length bs) 8 (and_left _ _ e) in
    let r = and_right (eqb (length bs) 8) _ e in
    record { eight = h; digits = digits_written bs h (and_left _ _ r); date = and_right (all is_digit bs) _ r }

date_number : (n : ℕ) → is_date n ≡ true → digits_number (written n) ≡ n
date_number n d = let p = parts n d in written_number n (omega arith)

date_writes : (n : ℕ) → is_date n ≡ true → writes_date (written n) ≡ true
unfolding writes_date
date_writes n d = rw (written_digits n, date_number n d, d)

date_held : (n : ℕ) → is_date n ≡ true → tag_holding (written n) ≡ On (record { 0 = n })
unfolding tag_holding
date_held n d = rw (date_writes n d, date_number n d)

other_held : (bs : List ℕ) → ((n : ℕ) → is_date n ≡ true → bs ≡ written n → ⊥) → tag_holding bs ≡ NotDate
unfolding tag_holding
other_held bs f = go (writes_date bs) refl
  where
    go : (b : Bool) → writes_date bs ≡ b → cond b (On (record { 0 = digits_number bs })) NotDate ≡ NotDate
    go true e = let w = writes_date_lem bs e in absurd (f (digits_number bs) w.date w.digits)
    go false e = refl

-- ---- each case says it

pub sole_count : {first second line : List ℕ} {at : ℕ} → Sole first second line at → length (openers first) + length (openers second) ≡ 1
sole_count (in_first p q) = rw (p, q)
sole_count (in_second p q) = rw (p, q)

pub sole_fits : {first second line : List ℕ} {at : ℕ} → Sole first second line at → at + 10 ≤ length line
sole_fits {first} {second} {at = at} (in_first p q) = (opener_there first at (rw p (Memᴰ.head refl))).0
sole_fits {first} {second} {at = at} (in_second p q) = (opener_there second at (rw q (Memᴰ.head refl))).0

-- what stands between the opener and a place behind it
abbrev held : List ℕ → ℕ → ℕ → List ℕ
held line at end = part (at + 10) (end - (at + 10)) line

module _ {first second line : List ℕ} {at : ℕ} (s : Sole first second line at) where
  module _ (end : ℕ) (a : EndAt line (at + 10) end) where
    ended_date : (e : writes_date (held line at end) ≡ true) → DatedTag first second (digits_number (held line at end))
    ended_date e =
        let w = writes_date_lem (held line at end) e in
        let l = part_length (at + 10) (end - (at + 10)) line (omega (arith, a.within, a.after)) in
        let h : end ≡ at + 18 = omega (arith, w.eight, a.after) in
        let k : end - (at + 10) ≡ 8 = omega (arith, w.eight) in
        record {
          line = line;
          place = at;
          sole = s;
          ended = subst (EndAt line (at + 10)) h a;
          digits = ap (λ (n : ℕ). part (at + 10) n line) (sym k) ∙ w.digits;
          date = w.date;
        }

    ended_empty : end ≡ at + 10 → EmptyTag first second
    ended_empty h = record { line = line; place = at; sole = s; ended = subst (EndAt line (at + 10)) h a }

    ended_other : (end ≡ at + 10 → ⊥) → (e : writes_date (held line at end) ≡ false) → OtherTag first second
    ended_other h e = record {
      line = line;
      place = at;
      end = end;
      sole = s;
      ended = a;
      filled = beyond a.after;
      other = λ n d q. differ (sym e ∙ ap writes_date q ∙ date_writes n d);
    }
      where
        beyond : at + 10 ≤ end → at + 10 < end
        beyond l = lt_of_not-le (λ m. h (le_antisymm m l))

        differ : false ≡ true → ⊥
        differ p = let z : ◌≡◌ {A = ℕ} 0 1 = cc in omega arith

    ended_says : Says first second (cond (eqb end (at + 10)) Empty (tag_holding (held line at end)))
    unfolding tag_holding
    ended_says = empty (eqb end (at + 10)) refl
      where
        go : (b : Bool) → writes_date (held line at end) ≡ b → (end ≡ at + 10 → ⊥)
            → Says first second (cond b (On (record { 0 = digits_number (held line at end) })) NotDate)
        go true e h = ended_date e
        go false e h = ended_other h e

        empty : (b : Bool) → eqb end (at + 10) ≡ b
            → Says first second (cond b Empty (cond (writes_date (held line at end)) (On (record { 0 = digits_number (held line at end) })) NotDate))
        empty true e = ended_empty (eqb-true end (at + 10) e)
        empty false e = go (writes_date (held line at end)) refl (eqb-false end (at + 10) e)

  at_says : Says first second (tag_at line at)
  unfolding tag_at
  at_says = go (leb (length line) (end_from line (at + 10))) refl
    where
      go : (b : Bool) → leb (length line) (end_from line (at + 10)) ≡ b
          → Says first second (cond b Unended (cond (eqb (end_from line (at + 10)) (at + 10)) Empty (tag_holding (held line at (end_from line (at + 10))))))
      go true e = record {
        line = line;
        place = at;
        sole = s;
        unended = end_none line (at + 10) (sole_fits s) (leb-true (length line) (end_from line (at + 10)) e);
      }
      go false e =
          ended_says (end_from line (at + 10)) (end_at line (at + 10) (sole_fits s) (leb-false (length line) (end_from line (at + 10)) e))

-- the tag of the two lines is the one at the sole opener
sole_tag : {first second line : List ℕ} {at : ℕ} → Sole first second line at → tag_at line at ≡ tag_of first second
sole_tag {first} {second} {at = at} (in_first p q) =
    ap (λ (l : List ℕ). tag_at first (get_or l 0 0)) (sym p) ∙ of_first first second (ap length (sym p)) (ap length (sym q)) refl refl
sole_tag {first} {second} {at = at} (in_second p q) =
    ap (λ (l : List ℕ). tag_at second (get_or l 0 0)) (sym q)
    ∙ of_second first second (ap length (sym p)) (ap length (sym q)) refl (λ e. omega arith)

pub tag_says : (first second : List ℕ) → Says first second (tag_of first second)
tag_says first second = go (openers first) (openers second) refl refl
  where
    one : {line : List ℕ} {at : ℕ} → Sole first second line at → Says first second (tag_of first second)
    one s = subst (Says first second) (sole_tag s) (at_says s)

    several : 1 < length (openers first) + length (openers second) → Says first second (tag_of first second)
    several h = subst (Says first second) (of_several first second refl refl h) h

    go : (xs ys : List ℕ) → openers first ≡ xs → openers second ≡ ys → Says first second (tag_of first second)
    go [] [] p q =
        subst (Says first second) (of_none first second (ap length (sym p)) (ap length (sym q)) refl) (p, q)
    go (x ∷ []) [] p q = one (in_first p q)
    go [] (y ∷ []) p q = one (in_second p q)
    go [] (y ∷ z ∷ ys) p q = several (omega (arith, ap length p, ap length q))
    go (x ∷ []) (y ∷ ys) p q = several (omega (arith, ap length p, ap length q))
    go (x ∷ w ∷ xs) ys p q = several (omega (arith, ap length p, ap length q))

-- ---- and the other way

-- Where a case's words hold, the tag is that case.
pub says_tag : (first second : List ℕ) (t : Tag) → Says first second t → tag_of first second ≡ t
says_tag first second Absent s = sym (of_none first second (ap length (sym s.0)) (ap length (sym s.1)) refl)
says_tag first second Several s = sym (of_several first second refl refl s)
says_tag first second Unended s =
    sym (sole_tag s.sole)
    ∙ sym (at_unended s.line s.place (sym (none_end s.line (s.place + 10) (sole_fits s.sole) s.unended)) (le_refl _))
says_tag first second Empty s =
    sym (sole_tag s.sole)
    ∙ sym (at_empty s.line s.place (sym (at_end_lem s.line (s.place + 10) (sole_fits s.sole) s.ended)) s.ended.within refl)
says_tag first second NotDate s =
    sym (sole_tag s.sole)
    ∙ sym (at_filled s.line s.place (sym (at_end_lem s.line (s.place + 10) (sole_fits s.sole) s.ended)) s.ended.within
    (λ q. omega (arith, s.filled)))
    ∙ other_held _ s.other
says_tag first second (On d) s =
    let k : s.place + 18 - (s.place + 10) ≡ 8 = omega arith in
    sym (sole_tag s.sole)
    ∙ sym (at_filled s.line s.place (sym (at_end_lem s.line (s.place + 10) (sole_fits s.sole) s.ended)) s.ended.within
    (λ q. omega arith))
    ∙ ap tag_holding (ap (λ (n : ℕ). part (s.place + 10) n s.line) k ∙ s.digits) ∙ date_held d.0 s.date

-- ---- the Contract Date

-- A tag with a date has one opener, the first } after it behind eight bytes, and these write the date.
pub on_says : (first second : List ℕ) {d : Date} → tag_of first second ≡ On d → DatedTag first second d.0
on_says first second e = subst (Says first second) e (tag_says first second)

pub on_date : (first second : List ℕ) {d : Date} → tag_of first second ≡ On d → is_date d.0 ≡ true
on_date first second e = (on_says first second e).date

pub tagged_on : (t : Tag) → tagged t ≡ true → t ≡ On (record { 0 = contract_date t })
unfolding tagged contract_date
tagged_on Absent e = cc
tagged_on Several e = cc
tagged_on Unended e = cc
tagged_on Empty e = cc
tagged_on NotDate e = cc
tagged_on (On d) e = refl

pub untagged_zero : (t : Tag) → tagged t ≡ false → contract_date t ≡ 0
unfolding tagged contract_date
untagged_zero Absent e = refl
untagged_zero Several e = refl
untagged_zero Unended e = refl
untagged_zero Empty e = refl
untagged_zero NotDate e = refl
untagged_zero (On d) e = cc

-- The Contract Date of a tag with a date is a date.
pub tagged_date : (first second : List ℕ) → tagged (tag_of first second) ≡ true → is_date (contract_date (tag_of first second)) ≡ true
tagged_date first second e = on_date first second (tagged_on (tag_of first second) e)

-- There is a Contract Date exactly where its number is not 0.
pub dated_tagged : (t : Tag) → (contract_date t ≡ 0 → ⊥) → tagged t ≡ true
dated_tagged t n = go (tagged t) refl
  where
    go : (b : Bool) → tagged t ≡ b → b ≡ true
    go true e = refl
    go false e = absurd (n (untagged_zero t e))

pub tagged_dated : (first second : List ℕ) → tagged (tag_of first second) ≡ true → contract_date (tag_of first second) ≡ 0 → ⊥
tagged_dated first second e z = let p = parts _ (tagged_date first second e) in omega (arith, p.from)
