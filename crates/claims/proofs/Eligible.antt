-- Eligible rows in other words, where Beneficiary Dates rise: a row is eligible exactly when C < Beneficiary Date ≤ S, fewer than the
-- maximum number of rows have a Beneficiary Date after it and on or before S, and the cut leaves it: it is not MBS, or is paid, or no
-- earlier such row waits. Taking the last rows of a rising list is counting those behind. Before the 2023 memo a row is eligible exactly
-- when it is MBS, C < Beneficiary Date ≤ S, and the Beneficiary Date is not before the same day six months earlier.
use mathlib.Core.Path.{◌≡◌, refl, sym, ap, ◌∙◌}
use mathlib.Core.Logic.{◌↔◌, ◌⊎◌, inl, inr}
use mathlib.Core.Bool.{Bool, true, false, cond, not, ◌&&◌, and-false}
use mathlib.Core.List.{List, [], ◌∷◌}
use Prim.Native.Nat.{ℕ, ◌≤◌, ◌<◌}
use native.Mathlib.Omega.{arith}
use lib.ListN.{length}
use lib.Dec.{ltb, leb}
use borrow.Author.Tests.{ltb-true, ltb-false, leb-true, leb-false, lt-ltb, le-ltb, le-leb, lt-leb}
use Rattle.lists.specs.Tests.{and_left, and_right, and_both}
use Rattle.lists.specs.All.{all}
use Rattle.lists.specs.Select.{select, last_of, keep_first, rising, select_agree, select_same, select_never, select_both, last_none, last_front, rising_select, one_kept, keep_first_words}
use Rattle.days.specs.MemoDay.{six_months_before}
use Rattle.securities.specs.declared.Row.{Row}
use Rattle.claims.specs.Fails.{is_mbs, eligible_in, waits, cut, within_half_year, eligible_before}

-- a test of all rows, and one of each
pub select_under : {A : Type 0} (b : Bool) (p : A → Bool) (xs : List A) → cond b (select p xs) [] ≡ select (λ x. b && p x) xs
select_under true p xs = refl
select_under false p xs = sym (select_never (λ x. false) xs (λ x. refl))

-- the order of a security's rows
abbrev pub beneficiary : Row → ℕ
beneficiary row = row.beneficiary_date

-- a Beneficiary Date after a date and on or before the day
unfoldable pub is_after : ℕ → ℕ → Row → Bool
is_after day date row = ltb date row.beneficiary_date && leb row.beneficiary_date day

-- fewer than n rows have a Beneficiary Date after this one's and on or before the day
unfoldable pub is_recent : ℕ → ℕ → List Row → Row → Bool
is_recent n day rows row = leb row.beneficiary_date day && ltb (length (select (is_after day row.beneficiary_date) rows)) n

unfoldable pub is_eligible : ℕ → ℕ → ℕ → List Row → Row → Bool
is_eligible n contract day rows row = ltb contract row.beneficiary_date && is_recent n day rows row

pub eligible_words : (n contract day : ℕ) (rows : List Row) (row : Row)
    → (is_eligible n contract day rows row ≡ true)
    ↔ ((contract < row.beneficiary_date) × (row.beneficiary_date ≤ day) × (length (select (is_after day row.beneficiary_date) rows) < n))
unfolding is_eligible is_recent
eligible_words n contract day rows row = (
  λ e. let r = and_right (ltb contract row.beneficiary_date) _ e in (
    ltb-true contract row.beneficiary_date (and_left _ _ e),
    leb-true row.beneficiary_date day (and_left _ _ r),
    ltb-true _ n (and_right (leb row.beneficiary_date day) _ r),
  ),
  λ h. rw (lt-ltb contract row.beneficiary_date h.0, le-leb row.beneficiary_date day h.1, lt-ltb _ n h.2),
)

-- the rows behind a row of a rising list are the later ones
later_behind : (day : ℕ) (row : Row) (rows : List Row) → all (λ other. ltb row.beneficiary_date other.beneficiary_date) rows ≡ true
    → select (is_after day row.beneficiary_date) (row ∷ rows) ≡ select (λ other. leb other.beneficiary_date day) rows
unfolding select is_after
later_behind day row rows e =
    rw (le-ltb row.beneficiary_date row.beneficiary_date (omega arith)) (select_agree _ _ _ rows e (λ other h. rw h))

-- an earlier row in front changes nothing for those behind
front_agrees : (n day : ℕ) (row : Row) (others rows : List Row) → all (λ other. ltb row.beneficiary_date other.beneficiary_date) rows ≡ true
    → select (is_recent n day (row ∷ others)) rows ≡ select (is_recent n day others) rows
front_agrees n day row others rows e =
    select_agree _ _ _ rows e
    (λ other h. let l = ltb-true row.beneficiary_date other.beneficiary_date h in
    unfold is_recent is_after select in rw (le-ltb other.beneficiary_date row.beneficiary_date (omega arith)))

last_recent : (n day : ℕ) (rows : List Row) → rising beneficiary rows ≡ true
    → last_of n (select (λ row. leb row.beneficiary_date day) rows) ≡ select (is_recent n day rows) rows
unfolding select rising
last_recent n day [] e = last_none n
last_recent n day (row ∷ rows) e =
    let later = and_left (all (λ other. ltb row.beneficiary_date other.beneficiary_date) rows) (rising beneficiary rows) e in
    let rest = and_right (all (λ other. ltb row.beneficiary_date other.beneficiary_date) rows) (rising beneficiary rows) e in
    let held = select (λ row. leb row.beneficiary_date day) rows in
    let tail : select (is_recent n day (row ∷ rows)) rows ≡ last_of n held
    = front_agrees n day row rows rows later ∙ sym (last_recent n day rows rest) in
    let head : is_recent n day (row ∷ rows) row ≡ (leb row.beneficiary_date day && ltb (length held) n) =
    unfold is_recent in ap (λ (l : List Row). leb row.beneficiary_date day && ltb (length l) n) (later_behind day row rows later) in
    go (leb row.beneficiary_date day) held ∙ sym (rw (head, tail))
  where
    go : (b : Bool) (held : List Row)
        → last_of n (cond b (row ∷ held) held) ≡ cond (b && ltb (length held) n) (row ∷ last_of n held) (last_of n held)
    go true held = last_front n row held
    go false held = refl

-- the eligible rows before the cut are those of the table that are eligible, in its order
pub eligible_is : (n contract day : ℕ) (rows : List Row) → rising beneficiary rows ≡ true
    → eligible_in n contract day rows ≡ select (is_eligible n contract day rows) rows
unfolding eligible_in is_eligible
eligible_is n contract day rows e = rw (last_recent n day rows e) (select_both _ _ rows)

-- ---- the cut

-- an eligible row with a Beneficiary Date before a date, which waits
unfoldable pub waits_before : ℕ → ℕ → ℕ → List Row → ℕ → Row → Bool
waits_before n contract day rows date row = (ltb row.beneficiary_date date && waits day row) && is_eligible n contract day rows row

-- an eligible row that the cut leaves
unfoldable pub is_kept : ℕ → ℕ → ℕ → ℕ → List Row → Row → Bool
is_kept type n contract day rows row =
    not (is_mbs type && (waits day row && ltb 0 (length (select (waits_before n contract day rows row.beneficiary_date) rows))))
    && is_eligible n contract day rows row

-- eligible, and of another type, or paid, or with no earlier eligible row that waits
pub cut_words : (type n contract day : ℕ) (rows : List Row) (row : Row)
    → (is_kept type n contract day rows row ≡ true)
    ↔ ((is_eligible n contract day rows row ≡ true)
    × (type < 3 ⊎ row.payment_date ≤ day ⊎ length (select (waits_before n contract day rows row.beneficiary_date) rows) ≡ 0))
unfolding is_kept is_mbs waits
cut_words type n contract day rows row = (
  λ e. (
    and_right (not (leb 3 type && (ltb day row.payment_date && ltb 0 before))) _ e,
    why (leb 3 type) (ltb day row.payment_date) (ltb 0 before) refl refl refl (and_left _ _ e),
  ),
  λ h. and_both (left h.1) h.0,
)
  where
    before : ℕ
    before = length (select (waits_before n contract day rows row.beneficiary_date) rows)

    why : (a b c : Bool) → leb 3 type ≡ a → ltb day row.payment_date ≡ b → ltb 0 before ≡ c → not (a && (b && c)) ≡ true
        → type < 3 ⊎ row.payment_date ≤ day ⊎ before ≡ 0
    why false b c p q r e = inl (leb-false 3 type p)
    why true false c p q r e = inr (inl (ltb-false day row.payment_date q))
    why true true false p q r e = inr (inr (omega (arith, ltb-false 0 before r)))
    why true true true p q r e = inr (inr cc)

    left : type < 3 ⊎ row.payment_date ≤ day ⊎ before ≡ 0 → not (leb 3 type && (ltb day row.payment_date && ltb 0 before)) ≡ true
    left (inl h) = rw (lt-leb 3 type h)
    left (inr (inl h)) = rw (le-ltb day row.payment_date h, and-false (leb 3 type))
    left (inr (inr h)) = rw (le-ltb 0 before (omega arith), and-false (ltb day row.payment_date), and-false (leb 3 type))

-- what the cut leaves of the eligible rows are those of the table that it leaves, in its order
pub cut_is : (type n contract day : ℕ) (rows : List Row) → rising beneficiary rows ≡ true
    → cut type day (eligible_in n contract day rows) ≡ select (is_kept type n contract day rows) rows
unfolding cut is_kept waits_before
cut_is type n contract day rows e = rw (eligible_is n contract day rows e) (go (is_mbs type))
  where
    held : List Row
    held = select (is_eligible n contract day rows) rows

    go : (b : Bool) → cond b (keep_first (waits day) held) held
        ≡ select (λ row. not (b && (waits day row && ltb 0 (length (select (waits_before n contract day rows row.beneficiary_date) rows))))
        && is_eligible n contract day rows row) rows
    go true =
        keep_first_words beneficiary (waits day) held (rising_select beneficiary _ rows e)
        ∙ select_both _ (is_eligible n contract day rows) rows
        ∙ select_same _ _ rows (λ row.
        ap (λ (l : List Row). not (waits day row && ltb 0 (length l)) && is_eligible n contract day rows row)
        (select_both _ (is_eligible n contract day rows) rows))
    go false = refl

-- of MBS no more than one is paid after the day
pub one_waits : (type day : ℕ) (rows : List Row) → 3 ≤ type → length (select (waits day) (cut type day rows)) ≤ 1
unfolding cut is_mbs
one_waits type day rows h = rw (le-leb 3 type h) (one_kept (waits day) rows)

-- they rise too: no Beneficiary Date is eligible twice
pub rising_eligible : (type n contract day : ℕ) (rows : List Row) → rising beneficiary rows ≡ true
    → rising beneficiary (cut type day (eligible_in n contract day rows)) ≡ true
rising_eligible type n contract day rows e = rw (cut_is type n contract day rows e) (rising_select beneficiary _ rows e)

-- ---- before the 2023 memo

-- of a security of a type, a row with a Beneficiary Date on or before the day, after the Contract Date and within the half year
unfoldable pub is_eligible_before : ℕ → ℕ → ℕ → Row → Bool
is_eligible_before type contract day row = is_mbs type && (within_half_year contract day row && leb row.beneficiary_date day)

pub before_words : (type contract day : ℕ) (row : Row)
    → (is_eligible_before type contract day row ≡ true)
    ↔ ((3 ≤ type) × (contract < row.beneficiary_date) × (six_months_before day ≤ row.beneficiary_date) × (row.beneficiary_date ≤ day))
unfolding is_eligible_before is_mbs within_half_year
before_words type contract day row = (
  λ e. let r = and_right (leb 3 type) _ e in
      let w = and_left (ltb contract row.beneficiary_date && leb (six_months_before day) row.beneficiary_date) _ r in (
        leb-true 3 type (and_left _ _ e),
        ltb-true contract row.beneficiary_date (and_left _ _ w),
        leb-true (six_months_before day) row.beneficiary_date (and_right (ltb contract row.beneficiary_date) _ w),
        leb-true row.beneficiary_date day (and_right (ltb contract row.beneficiary_date && leb (six_months_before day) row.beneficiary_date) _ r),
      ),
  λ h. rw (le-leb 3 type h.0, lt-ltb contract row.beneficiary_date h.1, le-leb (six_months_before day) row.beneficiary_date h.2, le-leb row.beneficiary_date day h.3),
)

-- the eligible rows are those of the table that are so, in its order
pub before_is : (type contract day : ℕ) (rows : List Row) → eligible_before type contract day rows ≡ select (is_eligible_before type contract day) rows
unfolding eligible_before is_eligible_before
before_is type contract day rows = rw (select_both (within_half_year contract day) (λ row. leb row.beneficiary_date day) rows) (select_under (is_mbs type) _ rows)
