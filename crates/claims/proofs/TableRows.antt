-- The rows of a security in their places in the tables, and what sound tables say of them.
use mathlib.Core.Path.{◌≡◌, refl, sym, ap, ap₂, ◌∙◌}
use mathlib.Core.Bool.{Bool, true, false, cond, ◌&&◌}
use mathlib.Core.List.{List, [], ◌∷◌}
use Prim.Native.Nat.{ℕ, zero, suc, ◌+◌, ◌*◌, ◌≤◌, ◌<◌}
use native.Mathlib.Nat.{add-zero, zero-add, not-suc-le-zero}
use native.Mathlib.Omega.{arith}
use lib.Dec.{eqb, ltb, leb}
use lib.ListN.{length, take, drop, get_or}
use lib.Seq.{drop-drop, get_or-take, get_or-drop}
use borrow.Author.Tests.{leb-true, eqb-true, lt-ltb}
use Rattle.lists.specs.Tests.{and_left, and_right, and_both, below_at}
use Rattle.lists.specs.All.{all}
use Rattle.lists.specs.Fields.{part, part_take}
use Rattle.lists.specs.Select.{rising, all_drop, rising_select}
use Rattle.days.specs.Days.{last_open}
use Rattle.securities.specs.Securities.{security_of, type_of, frequency_of, row_of, rows_from, rows_of, is_empty, is_filled, filled_rows, good_rows, good_security, good_tables}
use Rattle.securities.specs.declared.Row.{Row}
use Rattle.securities.proofs.Sound.{zero_at, zeros_empty}
use Rattle.claims.specs.Reached.{row_at, date_at}

-- ---- a row in its place

-- a row is its seven words alone
pub row_part_lem : (i : ℕ) (words : List ℕ) → row_of i (take 7 words) ≡ row_of i words
unfolding row_of
row_part_lem i words =
    rw (get_or-take 7 words 0 0 (omega arith), get_or-take 7 words 1 0 (omega arith), get_or-take 7 words 2 0 (omega arith), get_or-take 7 words 3 0 (omega arith), get_or-take 7 words 4 0 (omega arith), get_or-take 7 words 5 0 (omega arith), get_or-take 7 words 6 0 (omega arith))

pub rows_length : (n i : ℕ) (words : List ℕ) → length (rows_from n i words) ≡ n
unfolding rows_from
rows_length zero i words = refl
rows_length (suc n) i words = ap suc (rows_length n (suc i) (drop 7 words))

rows_from_at : (n k : ℕ) (words : List ℕ) (i : ℕ) (d : Row) → i < n → get_or (rows_from n k words) i d ≡ row_of (k + i) (drop (7 * i) words)
unfolding rows_from
rows_from_at zero k words i d h = absurd (not-suc-le-zero h)
rows_from_at (suc n) k words zero d h = ap (λ (x : ℕ). row_of x words) (sym (add-zero k))
rows_from_at (suc n) k words (suc i) d h =
    let a : suc k + i ≡ k + suc i = omega arith in
    let b : 7 + 7 * i ≡ 7 * suc i = omega arith in
    rows_from_at n (suc k) (drop 7 words) i d (omega arith)
    ∙ ap₂ row_of a (drop-drop (7 * i) 7 words ∙ ap (λ (x : ℕ). drop x words) b)

pub rows_of_at : (tables : List ℕ) (s i : ℕ) (d : Row) → i < 16 → get_or (rows_of (security_of tables s)) i d ≡ row_at tables s i
unfolding rows_of security_of row_at
rows_of_at tables s i d h =
    let from = drop (114 * s) tables in
    let a : 114 * s + (2 + 7 * i) ≡ 114 * s + 2 + 7 * i = omega arith in
    rows_from_at 16 0 (drop 2 (take 114 from)) i d h
    ∙ ap (λ (k : ℕ). row_of k (drop (7 * i) (drop 2 (take 114 from)))) (zero-add i)
    ∙ ap (λ (words : List ℕ). row_of i words) (drop-drop (7 * i) 2 (take 114 from))
    ∙ sym (row_part_lem i (drop (2 + 7 * i) (take 114 from)))
    ∙ ap (λ (words : List ℕ). row_of i words) (part_take (2 + 7 * i) 7 114 from (omega arith) ∙ ap (take 7) (drop-drop (2 + 7 * i) (114 * s) tables))
    ∙ ap (λ (k : ℕ). row_of i (part k 7 tables)) a

pub row_number : (tables : List ℕ) (s i : ℕ) → (row_at tables s i).index ≡ i
unfolding row_at row_of
row_number tables s i = refl

pub length_rows_of : (tables : List ℕ) (s : ℕ) → length (rows_of (security_of tables s)) ≡ 16
unfolding rows_of
length_rows_of tables s = rows_length 16 0 (drop 2 (security_of tables s))

-- the rows behind the first k
pub row_behind : (tables : List ℕ) (s k j : ℕ) (d : Row) → k + j < 16 → get_or (drop k (rows_of (security_of tables s))) j d ≡ row_at tables s (k + j)
row_behind tables s k j d h = get_or-drop k (rows_of (security_of tables s)) j d ∙ rows_of_at tables s (k + j) d h

-- a word of a row, in its place
row_word : (tables : List ℕ) (s i k : ℕ) → k < 7 → get_or tables (114 * s + 2 + 7 * i + k) 0 ≡ get_or (part (114 * s + 2 + 7 * i) 7 tables) k 0
row_word tables s i k h =
    sym (get_or-take 7 (drop (114 * s + 2 + 7 * i) tables) k 0 h ∙ get_or-drop (114 * s + 2 + 7 * i) tables k 0)

-- the Record Date or the Beneficiary Date
pub date_word : (tables : List ℕ) (s i column : ℕ) → column < 2 → get_or tables (114 * s + 2 + 7 * i + column) 0 ≡ date_at column (row_at tables s i)
unfolding row_at row_of date_at
date_word tables s i column h = row_word tables s i column (omega arith) ∙ go column h
  where
    words : List ℕ
    words = part (114 * s + 2 + 7 * i) 7 tables

    go : (column : ℕ) → column < 2 → get_or words column 0 ≡ date_at column (row_of i words)
    go zero h = refl
    go (suc zero) h = refl
    go (suc (suc column)) h = absurd (omega arith)

-- the Payment Date
pub payment_word : (tables : List ℕ) (s i : ℕ) → get_or tables (114 * s + 2 + 7 * i + 2) 0 ≡ (row_at tables s i).payment_date
unfolding row_at row_of
payment_word tables s i = row_word tables s i 2 (omega arith)

-- ---- the numbers of rows rise

rows_above : (n i k : ℕ) (words : List ℕ) → k < i → all (λ (other : Row). ltb k other.index) (rows_from n i words) ≡ true
unfolding rows_from row_of
rows_above zero i k words h = refl
rows_above (suc n) i k words h = and_both (lt-ltb k i h) (rows_above n (suc i) k (drop 7 words) (omega arith))

rising_rows : (n i : ℕ) (words : List ℕ) → rising (λ row. row.index) (rows_from n i words) ≡ true
unfolding rows_from rising row_of
rising_rows zero i words = refl
rising_rows (suc n) i words = and_both (rows_above n (suc i) i (drop 7 words) (omega arith)) (rising_rows n (suc i) (drop 7 words))

pub rising_numbers : (tables : List ℕ) (s : ℕ) → rising (λ row. row.index) (filled_rows tables s) ≡ true
unfolding filled_rows rows_of
rising_numbers tables s = rising_select (λ (row : Row). row.index) is_filled _ (rising_rows 16 0 (drop 2 (security_of tables s)))

-- ---- the rules of a security of sound tables

-- empty rows keep the rules
good_empty : (last a b : ℕ) (rows : List Row) → all is_empty rows ≡ true → good_rows last a b rows ≡ true
unfolding good_rows
good_empty last a b [] t = refl
good_empty last a b (row ∷ rows) t =
    rw (and_left (is_empty row) (all is_empty rows) t) (and_right (is_empty row) (all is_empty rows) t)

module _ (calendar tables : List ℕ) (s : ℕ) (t : good_tables calendar tables ≡ true) (h : s < 16) where
  good_security_lem : good_security (last_open calendar) (security_of tables s) ≡ true
  unfolding good_tables
  good_security_lem = below_at (λ s. good_security (last_open calendar) (security_of tables s)) 16 t s h

  words : List ℕ
  words = security_of tables s

  -- an unused security has empty rows and frequency 0
  rules : (good_rows (last_open calendar) 0 0 (rows_of words) ≡ true) × (frequency_of words ≤ 4)
  unfolding good_security words
  rules = go (eqb (type_of words) 0) good_security_lem
    where
      go : (b : Bool)
          → cond b (all (λ w. eqb w 0) words)
          (leb (type_of words) 4 && leb 1 (frequency_of words) && leb (frequency_of words) 4 && good_rows (last_open calendar) 0 0 (rows_of words)) ≡ true
          → (good_rows (last_open calendar) 0 0 (rows_of words) ≡ true) × (frequency_of words ≤ 4)
      go true e = (
        unfold rows_of in good_empty (last_open calendar) 0 0 _ (zeros_empty 16 0 (drop 2 words) (all_drop _ 2 words e)),
        unfold frequency_of in let z = eqb-true (get_or words 1 0) 0 (zero_at words 1 e) in omega arith,
      )
      go false e = (search (and_left, and_right, e) depth 8, leb-true (frequency_of words) 4 (search (and_left, and_right, e) depth 8))

  pub good_rows_lem : good_rows (last_open calendar) 0 0 (rows_of (security_of tables s)) ≡ true
  unfolding words
  good_rows_lem = rules.0

  pub small_frequency : frequency_of (security_of tables s) ≤ 4
  unfolding words
  small_frequency = rules.1
