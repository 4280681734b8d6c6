-- What sound tables say of the filled rows of a security: each row keeps its rules, and Record and Beneficiary Dates rise. How many good
-- limits and pieces there are, and that no piece is 0.
use mathlib.Core.Path.{◌≡◌, refl}
use mathlib.Core.Bool.{Bool, true, false, cond, not, ◌&&◌}
use mathlib.Core.List.{List, [], ◌∷◌}
use Prim.Native.Nat.{ℕ, zero, suc, ◌+◌, ◌≤◌, ◌<◌}
use native.Mathlib.Nat.{not-suc-le-zero, le_of_suc-le-suc}
use native.Mathlib.Omega.{arith}
use lib.Dec.{eqb, ltb, leb}
use lib.ListN.{length, get_or, drop}
use borrow.Author.Tests.{eqb-true, ltb-true, lt-ltb, leb-true}
use Rattle.lists.specs.Tests.{and_left, and_right, and_both, below_at}
use Rattle.lists.specs.All.{all, all_at, all_weaken}
use Rattle.lists.specs.Select.{select, rising, all_select, all_drop}
use Rattle.days.specs.Days.{is_date, last_open}
use Rattle.securities.specs.Lent.{from_one_to, good_limits, good_pieces, piece_of, is_mbs, maximum_for, maximum_of}
use Rattle.securities.specs.Securities.{security_of, type_of, frequency_of, row_of, rows_from, rows_of, is_empty, is_filled, filled_rows, good_row, good_rows, good_security, good_tables}
use Rattle.securities.specs.declared.Row.{Row}

-- ---- a row's rules, each by itself

pub record Good (last : ℕ) (row : Row) : Type 0 where
  pub record_is_date : is_date row.record_date ≡ true
  pub beneficiary_is_date : is_date row.beneficiary_date ≡ true
  pub payment_is_date : is_date row.payment_date ≡ true
  pub interest : row.interest_factor ≤ 2000000000
  pub principal : row.principal_factor ≤ 2000000000
  pub redeems : row.redeems ≤ 1
  pub mask : row.mask ≤ 65535
  pub recorded : row.record_date ≤ row.payment_date
  pub due : row.beneficiary_date ≤ row.payment_date
  pub paid : row.payment_date ≤ last

pub good_row_lem : (last : ℕ) (row : Row) → good_row last row ≡ true → Good last row
unfolding good_row
good_row_lem last row e =
    record {
      record_is_date = search (and_left, and_right, e) depth 12;
      beneficiary_is_date = search (and_left, and_right, e) depth 12;
      payment_is_date = search (and_left, and_right, e) depth 12;
      interest = leb-true row.interest_factor 2000000000 (search (and_left, and_right, e) depth 12);
      principal = leb-true row.principal_factor 2000000000 (search (and_left, and_right, e) depth 12);
      redeems = leb-true row.redeems 1 (search (and_left, and_right, e) depth 12);
      mask = leb-true row.mask 65535 (search (and_left, and_right, e) depth 12);
      recorded = leb-true row.record_date row.payment_date (search (and_left, and_right, e) depth 12);
      due = leb-true row.beneficiary_date row.payment_date (search (and_left, and_right, e) depth 12);
      paid = leb-true row.payment_date last (search (and_left, and_right, e) depth 12);
    }

-- ---- the filled rows of a security

pub record Sound (last : ℕ) (rows : List Row) : Type 0 where
  pub good : all (good_row last) rows ≡ true
  pub records : rising (λ row. row.record_date) rows ≡ true
  pub beneficiaries : rising (λ row. row.beneficiary_date) rows ≡ true
  pub indexes : all (λ row. ltb row.index 16) rows ≡ true

-- rows that come after a row with these dates
record After (last record_date beneficiary_date : ℕ) (rows : List Row) : Type 0 where
  good : all (good_row last) rows ≡ true
  records : rising (λ row. row.record_date) rows ≡ true
  beneficiaries : rising (λ row. row.beneficiary_date) rows ≡ true
  recorded : all (λ row. ltb record_date row.record_date) rows ≡ true
  due : all (λ row. ltb beneficiary_date row.beneficiary_date) rows ≡ true

after_none : (last a b : ℕ) → After last a b []
unfolding rising
after_none last a b = record { good = refl; records = refl; beneficiaries = refl; recorded = refl; due = refl }

-- later than a later date
later : (key : Row → ℕ) (a b : ℕ) (rows : List Row) → a < b → all (λ row. ltb b (key row)) rows ≡ true → all (λ row. ltb a (key row)) rows ≡ true
later key a b rows h t = all_weaken _ _ rows t (λ row e. let g = ltb-true b (key row) e in lt-ltb a (key row) (omega arith))

after_one : (last a b : ℕ) (row : Row) (rows : List Row) → good_row last row ≡ true → a < row.record_date → b < row.beneficiary_date
    → After last row.record_date row.beneficiary_date rows → After last a b (row ∷ rows)
unfolding rising
after_one last a b row rows g h k f =
    record {
      good = and_both g f.good;
      records = and_both f.recorded f.records;
      beneficiaries = and_both f.due f.beneficiaries;
      recorded = and_both (lt-ltb a row.record_date h) (later (λ row. row.record_date) a row.record_date rows h f.recorded);
      due = and_both (lt-ltb b row.beneficiary_date k) (later (λ row. row.beneficiary_date) b row.beneficiary_date rows k f.due);
    }

-- empty rows hold no filled one
pub none_filled : (rows : List Row) → all is_empty rows ≡ true → select is_filled rows ≡ []
unfolding select is_filled
none_filled [] t = refl
none_filled (row ∷ rows) t =
    rw (and_left (is_empty row) (all is_empty rows) t) (none_filled rows (and_right (is_empty row) (all is_empty rows) t))

after : (last a b : ℕ) (rows : List Row) → good_rows last a b rows ≡ true → After last a b (select is_filled rows)
unfolding good_rows select is_filled
after last a b [] e = after_none last a b
after last a b (row ∷ rows) e = go (is_empty row) e (λ k. after last row.record_date row.beneficiary_date rows k)
  where
    go : (c : Bool)
        → cond c (all is_empty rows)
        (good_row last row && ltb a row.record_date && ltb b row.beneficiary_date && good_rows last row.record_date row.beneficiary_date rows) ≡ true
        → (good_rows last row.record_date row.beneficiary_date rows ≡ true → After last row.record_date row.beneficiary_date (select is_filled rows))
        → After last a b (cond (not c) (row ∷ select is_filled rows) (select is_filled rows))
    go true e ih = rw (none_filled rows e) (after_none last a b)
    go false e ih =
        after_one last a b row (select is_filled rows) (search (and_left, and_right, e) depth 8)
        (ltb-true a row.record_date (search (and_left, and_right, e) depth 8))
        (ltb-true b row.beneficiary_date (search (and_left, and_right, e) depth 8))
        (ih (search (and_left, and_right, e) depth 8))

-- ---- the rows of words

-- their numbers are below 16
indexes_below : (n i : ℕ) (words : List ℕ) → i + n ≤ 16 → all (λ row. ltb row.index 16) (rows_from n i words) ≡ true
unfolding rows_from row_of
indexes_below zero i words h = refl
indexes_below (suc n) i words h = and_both (lt-ltb i 16 (omega arith)) (indexes_below n (suc i) (drop 7 words) (omega arith))

-- words of zeros are empty rows
pub zero_at : (words : List ℕ) (k : ℕ) → all (λ w. eqb w 0) words ≡ true → eqb (get_or words k 0) 0 ≡ true
zero_at [] k t = refl
zero_at (w ∷ ws) zero t = and_left (eqb w 0) (all (λ w. eqb w 0) ws) t
zero_at (w ∷ ws) (suc k) t = zero_at ws k (and_right (eqb w 0) (all (λ w. eqb w 0) ws) t)

zeros_row : (i : ℕ) (words : List ℕ) → all (λ w. eqb w 0) words ≡ true → is_empty (row_of i words) ≡ true
unfolding row_of is_empty
zeros_row i words t =
    rw (zero_at words 0 t, zero_at words 1 t, zero_at words 2 t, zero_at words 3 t, zero_at words 4 t, zero_at words 5 t, zero_at words 6 t)

pub zeros_empty : (n i : ℕ) (words : List ℕ) → all (λ w. eqb w 0) words ≡ true → all is_empty (rows_from n i words) ≡ true
unfolding rows_from
zeros_empty zero i words t = refl
zeros_empty (suc n) i words t = and_both (zeros_row i words t) (zeros_empty n (suc i) (drop 7 words) (all_drop _ 7 words t))

-- ---- the filled rows of sound words and tables

sound_words : (last : ℕ) (words : List ℕ) → good_security last words ≡ true → After last 0 0 (select is_filled (rows_of words))
unfolding good_security rows_of
sound_words last words e = go (eqb (type_of words) 0) e
  where
    go : (b : Bool)
        → cond b (all (λ w. eqb w 0) words)
        (leb (type_of words) 4 && leb 1 (frequency_of words) && leb (frequency_of words) 4 && good_rows last 0 0 (rows_from 16 0 (drop 2 words))) ≡ true
        → After last 0 0 (select is_filled (rows_from 16 0 (drop 2 words)))
    go true t = rw (none_filled _ (zeros_empty 16 0 (drop 2 words) (all_drop _ 2 words t))) (after_none last 0 0)
    go false t = after last 0 0 _ (search (and_left, and_right, t) depth 8)

pub sound_rows : (calendar tables : List ℕ) (s : ℕ) → good_tables calendar tables ≡ true → s < 16 → Sound (last_open calendar) (filled_rows tables s)
unfolding good_tables filled_rows rows_of
sound_rows calendar tables s t h =
    let g = below_at (λ s. good_security (last_open calendar) (security_of tables s)) 16 t s h in
    let f = sound_words (last_open calendar) (security_of tables s) g in
    record {
      good = f.good;
      records = f.records;
      beneficiaries = f.beneficiaries;
      indexes = all_select _ is_filled _ (indexes_below 16 0 (drop 2 (security_of tables s)) (omega arith));
    }

-- ---- good limits

-- they are five
pub five_limits : (limits : List ℕ) → good_limits limits ≡ true → length limits ≡ 5
unfolding good_limits
five_limits limits e = eqb-true (length limits) 5 (search (and_left, and_right) depth 6)

-- ---- good pieces

-- they are sixteen
pub sixteen_pieces : (pieces : List ℕ) → good_pieces pieces ≡ true → length pieces ≡ 16
unfolding good_pieces
sixteen_pieces pieces e = eqb-true (length pieces) 16 (and_left _ (all (from_one_to 1000000) pieces) e)

-- none is 0
pub piece_some : (pieces : List ℕ) (s : ℕ) → good_pieces pieces ≡ true → s < 16 → 0 < get_or pieces s 0
unfolding good_pieces from_one_to
piece_some pieces s e h =
    let n = sixteen_pieces pieces e in
    leb-true 1 _ (and_left _ _ (all_at (from_one_to 1000000) pieces 0 (and_right (eqb (length pieces) 16) _ e) s (omega (arith, n))))

-- each is read as it is, whatever stands for a number that is not there
read_any : (xs : List ℕ) (k d e : ℕ) → k < length xs → get_or xs k d ≡ get_or xs k e
read_any [] k d e h = absurd (not-suc-le-zero h)
read_any (x ∷ xs) zero d e h = refl
read_any (x ∷ xs) (suc k) d e h = read_any xs k d e (le_of_suc-le-suc h)

pub piece_read : (pieces : List ℕ) (s : ℕ) → good_pieces pieces ≡ true → s < 16 → get_or pieces s 0 ≡ piece_of pieces s
unfolding piece_of
piece_read pieces s e h = let n = sixteen_pieces pieces e in read_any pieces s 0 1 (omega (arith, n))

-- ---- the maximum number of a security

pub maximum_mbs : (tables limits : List ℕ) (s : ℕ) → is_mbs (type_of (security_of tables s)) ≡ true → get_or limits 0 0 ≡ maximum_of tables limits s
unfolding maximum_of maximum_for
maximum_mbs tables limits s e = rw e refl

pub maximum_other : (tables limits : List ℕ) (s : ℕ) {f : ℕ} → is_mbs (type_of (security_of tables s)) ≡ false
    → f ≡ frequency_of (security_of tables s) → get_or limits f 0 ≡ maximum_of tables limits s
unfolding maximum_of maximum_for
maximum_other tables limits s {f} e q = rw (e, q) refl
