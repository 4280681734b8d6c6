-- In sound tables both dates rise, so the rows that a day has reached by either date come first, and the interim rows stand behind those
-- that it has reached by Beneficiary Date; factors are in range, those of empty rows too.
use mathlib.Core.Path.{◌≡◌, refl, ap, ◌∙◌}
use mathlib.Core.Bool.{Bool, true, false, cond, ◌&&◌, and-true, and-false}
use mathlib.Core.List.{List, [], ◌∷◌}
use Prim.Native.Nat.{ℕ, zero, suc, ◌≤◌, ◌<◌}
use native.Mathlib.Omega.{arith}
use lib.Dec.{ltb, leb}
use lib.ListN.{length, take, drop}
use borrow.Author.Tests.{ltb-true, leb-true, leb-false, eqb-true, lt-ltb, le-ltb, le-leb, lt-leb}
use Rattle.lists.specs.Tests.{and_left, and_right, and_both}
use Rattle.lists.specs.All.{all, all_weaken}
use Rattle.lists.specs.Select.{select}
use Rattle.days.specs.Days.{is_date}
use Rattle.securities.specs.Securities.{largest_factor, is_empty, is_filled, good_row, good_rows}
use Rattle.securities.specs.declared.Row.{Row}
use Rattle.securities.proofs.Sound.{good_row_lem, none_filled}
use Rattle.claims.specs.Fails.{is_interim}
use Rattle.claims.specs.Reached.{leading, date_at, is_reached}

-- ---- leading rows

pub leading_within : {A : Type 0} (p : A → Bool) (xs : List A) → leading p xs ≤ length xs
unfolding leading
leading_within p [] = omega arith
leading_within p (x ∷ xs) = go (p x) (leading_within p xs)
  where
    go : (b : Bool) → leading p xs ≤ length xs → cond b (suc (leading p xs)) 0 ≤ length (x ∷ xs)
    go true h = omega arith
    go false h = omega arith

-- ---- either date

-- that of the row before, by the dates of its Record Date and its Beneficiary Date
start_at : ℕ → ℕ → ℕ → ℕ
start_at zero a b = a
start_at (suc column) a b = b

-- the dates of an empty row are 0, those of a good row are not
empty_date : (column : ℕ) (row : Row) → is_empty row ≡ true → date_at column row ≡ 0
unfolding date_at is_empty
empty_date zero row e = eqb-true row.record_date 0 (search (and_left, and_right, e) depth 12)
empty_date (suc column) row e = eqb-true row.beneficiary_date 0 (search (and_left, and_right, e) depth 12)

date_positive : (date : ℕ) → is_date date ≡ true → 0 < date
unfolding is_date
date_positive date e = let h = leb-true 20000101 date (and_left _ _ e) in omega arith

good_date : (column last : ℕ) (row : Row) → good_row last row ≡ true → 0 < date_at column row
unfolding date_at
good_date zero last row e = date_positive row.record_date (good_row_lem last row e).record_is_date
good_date (suc column) last row e = date_positive row.beneficiary_date (good_row_lem last row e).beneficiary_is_date

later_date : (column a b : ℕ) (row : Row) → a < row.record_date → b < row.beneficiary_date → start_at column a b < date_at column row
unfolding date_at start_at
later_date zero a b row h k = h
later_date (suc column) a b row h k = k

start_date : (column : ℕ) (row : Row) → start_at column row.record_date row.beneficiary_date ≡ date_at column row
unfolding date_at start_at
start_date zero row = refl
start_date (suc column) row = refl

-- ---- factors in range

pub in_range : Row → Bool
in_range row = leb row.interest_factor largest_factor && leb row.principal_factor largest_factor

empty_in_range : (row : Row) → is_empty row ≡ true → in_range row ≡ true
unfolding in_range is_empty
empty_in_range row e =
    rw (eqb-true row.interest_factor 0 (search (and_left, and_right, e) depth 12), eqb-true row.principal_factor 0 (search (and_left, and_right, e) depth 12))

pub factors : (row : Row) → in_range row ≡ true → (row.interest_factor ≤ 2000000000) × (row.principal_factor ≤ 2000000000)
unfolding in_range
factors row e = (
  leb-true row.interest_factor largest_factor (and_left _ _ e),
  leb-true row.principal_factor largest_factor (and_right (leb row.interest_factor largest_factor) _ e),
)

module _ (last day : ℕ) where
  -- what follows a row that is good
  abbrev Follows : Row → List Row → Type 0
  Follows row rows = good_rows last row.record_date row.beneficiary_date rows ≡ true

  -- a row of good rows: empty, and so are those behind it; or good and later by both dates than the row before
  data Case (a b : ℕ) (row : Row) (rows : List Row) : Type 0 where
    empty : is_empty row ≡ true → all is_empty rows ≡ true → Case a b row rows
    filled : is_empty row ≡ false → good_row last row ≡ true → a < row.record_date → b < row.beneficiary_date → Follows row rows → Case a b row rows

  cases : (a b : ℕ) (row : Row) (rows : List Row) → good_rows last a b (row ∷ rows) ≡ true → Case a b row rows
  unfolding good_rows
  cases a b row rows e = go (is_empty row) refl e
    where
      go : (c : Bool) → is_empty row ≡ c
          → cond c (all is_empty rows)
          (good_row last row && ltb a row.record_date && ltb b row.beneficiary_date && good_rows last row.record_date row.beneficiary_date rows) ≡ true
          → Case a b row rows
      go true q e = empty q e
      go false q e =
          filled q (search (and_left, and_right, e) depth 8) (ltb-true a row.record_date (search (and_left, and_right, e) depth 8))
          (ltb-true b row.beneficiary_date (search (and_left, and_right, e) depth 8)) (search (and_left, and_right, e) depth 8)

  -- ---- the rows that the day has reached come first

  module _ (column : ℕ) where
    -- rows with the date on or before the day, of the filled ones
    unfoldable pub dated : List Row → List Row
    dated rows = select (λ row. leb (date_at column row) day) (select is_filled rows)

    -- nothing behind a later date is dated
    none_dated : (a b : ℕ) (rows : List Row) → good_rows last a b rows ≡ true → day < start_at column a b → dated rows ≡ []
    unfolding dated select is_filled
    none_dated a b [] e h = refl
    none_dated a b (row ∷ rows) e h = go (cases a b row rows e) (none_dated row.record_date row.beneficiary_date rows)
      where
        go : Case a b row rows → (Follows row rows → day < start_at column row.record_date row.beneficiary_date → dated rows ≡ [])
            → dated (row ∷ rows) ≡ []
        go (empty q n) ih = rw (q, none_filled rows n)
        go (filled q g l k f) ih =
            let d : day < date_at column row = omega (arith, later_date column a b row l k) in
            rw (q, lt-leb (date_at column row) day d) (ih f (omega (arith, start_date column row)))

    -- the dated rows are the leading ones that are reached
    pub dated_leading : (a b : ℕ) (rows : List Row) → good_rows last a b rows ≡ true → dated rows ≡ take (leading (is_reached column day) rows) rows
    unfolding dated select is_filled leading is_reached
    dated_leading a b [] e = refl
    dated_leading a b (row ∷ rows) e = go (cases a b row rows e) (dated_leading row.record_date row.beneficiary_date rows)
      where
        later : (c : Bool) → leb (date_at column row) day ≡ c → Follows row rows
            → (Follows row rows → dated rows ≡ take (leading (is_reached column day) rows) rows)
            → cond c (row ∷ dated rows) (dated rows) ≡ take (cond c (suc (leading (is_reached column day) rows)) 0) (row ∷ rows)
        later true q f ih = ap (◌∷◌ row) (ih f)
        later false q f ih =
            none_dated row.record_date row.beneficiary_date rows f (omega (arith, start_date column row, leb-false (date_at column row) day q))

        go : Case a b row rows → (Follows row rows → dated rows ≡ take (leading (is_reached column day) rows) rows)
            → dated (row ∷ rows) ≡ take (leading (is_reached column day) (row ∷ rows)) (row ∷ rows)
        go (empty q n) ih = rw (q, none_filled rows n, le-ltb 0 (date_at column row) (omega (arith, empty_date column row q)))
        go (filled q g l k f) ih =
            rw (q, lt-ltb 0 (date_at column row) (good_date column last row g)) (later (leb (date_at column row) day) refl f ih)

  -- ---- interim rows stand behind the rows that the day has reached by Beneficiary Date

  unfoldable pub between : List Row → List Row
  between rows = select (is_interim day) (select is_filled rows)

  abbrev reached : List Row → ℕ
  reached rows = leading (is_reached 1 day) rows

  -- the rows behind them
  abbrev rest : List Row → List Row
  rest rows = drop (reached rows) rows

  -- behind a later Beneficiary Date the Record Date alone decides
  by_record : (a b : ℕ) (rows : List Row) → good_rows last a b rows ≡ true → day < b → between rows ≡ dated 0 rows
  unfolding between dated select is_filled is_interim date_at
  by_record a b [] e h = refl
  by_record a b (row ∷ rows) e h = go (cases a b row rows e) (by_record row.record_date row.beneficiary_date rows)
    where
      go : Case a b row rows → (Follows row rows → day < row.beneficiary_date → between rows ≡ dated 0 rows) → between (row ∷ rows) ≡ dated 0 (row ∷ rows)
      go (empty q n) ih = rw (q, none_filled rows n)
      go (filled q g l k f) ih =
          rw (q, lt-ltb day row.beneficiary_date (omega arith), and-true (leb row.record_date day), ← ih f (omega arith))

  by_first : (row : Row) (rows : List Row) → is_empty row ≡ false → Follows row rows → day < row.beneficiary_date
      → between (row ∷ rows) ≡ dated 0 (row ∷ rows)
  unfolding between dated select is_filled is_interim date_at
  by_first row rows q f h =
      rw (q, lt-ltb day row.beneficiary_date h, and-true (leb row.record_date day), ← by_record row.record_date row.beneficiary_date rows f h)

  -- of the rest, the rows that the day has reached by Record Date
  abbrev Between : List Row → Type 0
  Between rows = between rows ≡ take (leading (is_reached 0 day) (rest rows)) (rest rows)

  pub interim_rows : (a b : ℕ) (rows : List Row) → good_rows last a b rows ≡ true → Between rows
  unfolding between select is_filled is_interim leading is_reached date_at
  interim_rows a b [] e = refl
  interim_rows a b (row ∷ rows) e = go (cases a b row rows e) (interim_rows row.record_date row.beneficiary_date rows)
    where
      all_rows : between (row ∷ rows) ≡ dated 0 (row ∷ rows) → between (row ∷ rows) ≡ take (leading (is_reached 0 day) (row ∷ rows)) (row ∷ rows)
      all_rows h = h ∙ dated_leading 0 a b (row ∷ rows) e

      here : (c : Bool) → leb row.beneficiary_date day ≡ c → is_empty row ≡ false → good_row last row ≡ true → Follows row rows
          → (Follows row rows → Between rows) → Between (row ∷ rows)
      here true t q g f ih =
          let b = leb-true row.beneficiary_date day t in
          rw (q, t, le-ltb day row.beneficiary_date b, lt-ltb 0 row.beneficiary_date (good_date 1 last row g), and-false (leb row.record_date day)) (ih f)
      here false t q g f ih =
          rw (t, and-false (ltb 0 row.beneficiary_date)) (all_rows (by_first row rows q f (leb-false row.beneficiary_date day t)))

      go : Case a b row rows → (Follows row rows → Between rows) → Between (row ∷ rows)
      go (empty q n) ih =
          rw (q, none_filled rows n, le-ltb 0 row.beneficiary_date (omega (arith, empty_date 1 row q)), le-ltb 0 row.record_date (omega (arith, empty_date 0 row q)))
      go (filled q g l k f) ih = here (leb row.beneficiary_date day) refl q g f ih

  -- ---- factors of good rows, empty ones too, are in range

  good_in_range : (row : Row) → good_row last row ≡ true → in_range row ≡ true
  unfolding in_range
  good_in_range row e =
      let g = good_row_lem last row e in
      rw (le-leb row.interest_factor largest_factor g.interest, le-leb row.principal_factor largest_factor g.principal)

  pub all_in_range : (a b : ℕ) (rows : List Row) → good_rows last a b rows ≡ true → all in_range rows ≡ true
  all_in_range a b [] e = refl
  all_in_range a b (row ∷ rows) e = go (cases a b row rows e) (all_in_range row.record_date row.beneficiary_date rows)
    where
      go : Case a b row rows → (Follows row rows → all in_range rows ≡ true) → all in_range (row ∷ rows) ≡ true
      go (empty q n) ih = and_both (empty_in_range row q) (all_weaken is_empty in_range rows n empty_in_range)
      go (filled q g l k f) ih = and_both (good_in_range row g) (ih f)
