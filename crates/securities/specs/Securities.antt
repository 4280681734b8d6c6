-- Document 01, section Securities and payments: the tables, their rows and the rules that they keep.
use Rattle.std.specs.Prelude.{Bool, true, cond, not, ◌&&◌, List, [], ◌∷◌, ℕ, zero, suc, ◌+◌, ◌*◌, eqb, ltb, leb, get_or, drop}
use Rattle.lists.specs.Tests.{below}
use Rattle.lists.specs.All.{all}
use Rattle.lists.specs.Fields.{part}
use Rattle.lists.specs.Select.{select}
use Rattle.days.specs.Days.{is_date, last_open}
use Rattle.securities.specs.declared.Row.{Row}

-- ---- the words

-- 16 securities of 114 words: type, frequency, then 16 rows of 7.
abbrev pub table_words : ℕ
table_words = 1824

abbrev pub security_count : ℕ
security_count = 16

abbrev pub security_words : ℕ
security_words = 114

abbrev pub row_count : ℕ
row_count = 16

abbrev pub row_words : ℕ
row_words = 7

-- The words of security s.
unfoldable pub security_of : List ℕ → ℕ → List ℕ
security_of tables s = part (security_words * s) security_words tables

-- Type: 0 unused, 1 Treasury, 2 non-Treasury debt, 3 agency MBS, 4 MBS fully guaranteed by the United States.
unfoldable pub type_of : List ℕ → ℕ
type_of words = get_or words 0 0

-- Frequency: 1 monthly, 2 quarterly, 3 semiannual, 4 annual.
unfoldable pub frequency_of : List ℕ → ℕ
frequency_of words = get_or words 1 0

-- ---- the rows

-- The row that seven words hold.
unfoldable pub row_of : ℕ → List ℕ → Row
row_of index words =
    record {
      index = index;
      record_date = get_or words 0 0;
      beneficiary_date = get_or words 1 0;
      payment_date = get_or words 2 0;
      interest_factor = get_or words 3 0;
      principal_factor = get_or words 4 0;
      redeems = get_or words 5 0;
      mask = get_or words 6 0;
    }

-- The row with a number of a security, in its place in the tables.
unfoldable pub row_at : List ℕ → ℕ → ℕ → Row
row_at tables s i = row_of i (part (114 * s + 2 + 7 * i) 7 tables)

-- n rows from a number on.
unfoldable pub rows_from : ℕ → ℕ → List ℕ → List Row
rows_from zero index words = []
rows_from (suc n) index words = row_of index words ∷ rows_from n (suc index) (drop row_words words)

-- The 16 rows of a security's words.
unfoldable pub rows_of : List ℕ → List Row
rows_of words = rows_from row_count 0 (drop 2 words)

-- A row of seven zeros is empty.
unfoldable pub is_empty : Row → Bool
is_empty row =
    eqb row.record_date 0 && eqb row.beneficiary_date 0 && eqb row.payment_date 0 && eqb row.interest_factor 0
    && eqb row.principal_factor 0 && eqb row.redeems 0 && eqb row.mask 0

-- Any other row is filled.
unfoldable pub is_filled : Row → Bool
is_filled row = not (is_empty row)

-- The filled rows of a security, in table order.
unfoldable pub filled_rows : List ℕ → ℕ → List Row
filled_rows tables s = select is_filled (rows_of (security_of tables s))

-- ---- the rules: number 3 where one is broken

abbrev pub largest_factor : ℕ
largest_factor = 2000000000

abbrev pub largest_mask : ℕ
largest_mask = 65535

-- A filled row by itself: three dates; factors, redeems (final) and mask in range; neither the Record nor the Beneficiary Date is after the
-- Payment Date, which is not after the calendar's last open day. That day is 0 if no day is open, so every filled row breaks this.
unfoldable pub good_row : ℕ → Row → Bool
good_row last row =
    is_date row.record_date && is_date row.beneficiary_date && is_date row.payment_date
    && leb row.interest_factor largest_factor && leb row.principal_factor largest_factor
    && leb row.redeems 1 && leb row.mask largest_mask
    && leb row.record_date row.payment_date && leb row.beneficiary_date row.payment_date
    && leb row.payment_date last

-- Rows after one with these dates: only empty rows follow an empty one; Record and Beneficiary Dates each rise strictly.
unfoldable pub good_rows : ℕ → ℕ → ℕ → List Row → Bool
good_rows last record_date beneficiary_date [] = true
good_rows last record_date beneficiary_date (row ∷ rows) =
    cond (is_empty row) (all is_empty rows)
    (good_row last row && ltb record_date row.record_date && ltb beneficiary_date row.beneficiary_date
    && good_rows last row.record_date row.beneficiary_date rows)

-- The words of a security: 114 zeros if it is unused; else a type, a frequency and rows.
unfoldable pub good_security : ℕ → List ℕ → Bool
good_security last words =
    cond (eqb (type_of words) 0) (all (λ w. eqb w 0) words)
    (leb (type_of words) 4 && leb 1 (frequency_of words) && leb (frequency_of words) 4 && good_rows last 0 0 (rows_of words))

unfoldable pub good_tables : List ℕ → List ℕ → Bool
good_tables calendar tables = below (λ s. good_security (last_open calendar) (security_of tables s)) security_count
