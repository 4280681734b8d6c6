-- Document 01, section Days: dates, the calendar and its open days. A date is its number yyyymmdd, so date order is number order.
-- Where there is no day, the number is 0, which is no date.
use Rattle.std.specs.Prelude.{Bool, false, cond, ◌&&◌, ◌||◌, List, [], ◌∷◌, ℕ, zero, suc, ◌+◌, ◌-◌, ◌*◌, ◌/◌, ◌%◌, ◌^◌, eqb, ltb, leb, drop, get_or, Option, Some, None}
use Rattle.days.specs.declared.Date.{Date}

-- ---- dates

-- The first and the last date.
abbrev pub first_date : ℕ
first_date = 20000101

abbrev pub last_date : ℕ
last_date = 20391231

-- The leap day of year y: every fourth year has one, but of the hundreds only every fourth.
unfoldable pub leap_day : ℕ → ℕ
leap_day y = cond (eqb (y % 400) 0) 1 (cond (eqb (y % 100) 0) 0 (cond (eqb (y % 4) 0) 1 0))

-- The Gregorian length of month m, 1 to 12, of year y.
unfoldable pub month_length : ℕ → ℕ → ℕ
month_length y m =
    get_or (31 ∷ (28 + leap_day y) ∷ 31 ∷ 30 ∷ 31 ∷ 30 ∷ 31 ∷ 31 ∷ 30 ∷ 31 ∷ 30 ∷ 31 ∷ []) (m - 1) 0

-- The parts of a number yyyymmdd.
abbrev pub year_of : ℕ → ℕ
year_of n = n / 10000

abbrev pub month_of : ℕ → ℕ
month_of n = n / 100 % 100

abbrev pub day_of : ℕ → ℕ
day_of n = n % 100

-- A date is the number yyyymmdd, Gregorian, 20000101 to 20391231.
unfoldable pub is_date : ℕ → Bool
is_date n =
    leb first_date n && (leb n last_date && (leb 1 (month_of n) && (leb (month_of n) 12 && (leb 1 (day_of n)
    && leb (day_of n) (month_length (year_of n) (month_of n))))))

-- What the checking constructor answers: the date, or that the number is none.
unfoldable pub checked : ℕ → Option Date
checked n = cond (is_date n) (Some (record { 0 = n })) None

-- ---- the calendar

-- One word a month from January 2000.
abbrev pub calendar_words : ℕ
calendar_words = 480

-- The word of a date's month; the number of day d, counted from 0, of the month of word m.
unfoldable pub word_of : ℕ → ℕ
word_of n = (year_of n - 2000) * 12 + (month_of n - 1)

unfoldable pub date_of : ℕ → ℕ → ℕ
date_of m d = (2000 + m / 12) * 10000 + (m % 12 + 1) * 100 + (d + 1)

-- The length of the month of word m.
unfoldable pub length_of : ℕ → ℕ
length_of m = month_length (2000 + m / 12) (m % 12 + 1)

-- Bit k of a word is on.
unfoldable pub bit_on : ℕ → ℕ → Bool
bit_on w k = eqb (w / 2 ^ k % 2) 1

-- A calendar bit for a day the month lacks, in words of which the first is word m: number 2.
unfoldable pub bad_from : ℕ → List ℕ → Bool
bad_from m [] = false
bad_from m (w ∷ ws) = leb (2 ^ length_of m) w || bad_from (suc m) ws

unfoldable pub bad_calendar : List ℕ → Bool
bad_calendar calendar = bad_from 0 calendar

-- Bit d − 1 of its month's word is on when day d is open. A number that is no date is not open.
unfoldable pub is_open : List ℕ → ℕ → Bool
is_open calendar n = is_date n && bit_on (get_or calendar (word_of n) 0) (day_of n - 1)

-- ---- the next open day

-- The lowest of the n bits of w from k on that is on; k + n where none is.
unfoldable pub lowest_from : ℕ → ℕ → ℕ → ℕ
lowest_from zero k w = k
lowest_from (suc n) k w = cond (bit_on w k) k (lowest_from n (suc k) w)

-- The first open day of the words ws, of which the first is word m, at bit k of it or later; 0 where there is none.
unfoldable pub seek_from : List ℕ → ℕ → ℕ → ℕ
seek_from [] m k = 0
seek_from (w ∷ ws) m k =
    let d = lowest_from (32 - k) k w in
    cond (ltb d 32) (date_of m d) (seek_from ws (suc m) 0)

-- The first open day from a date on, past its first skip bits; 0 where there is none.
unfoldable pub open_at : List ℕ → ℕ → ℕ → ℕ
open_at calendar n skip = cond (is_date n) (seek_from (drop (word_of n) calendar) (word_of n) (day_of n - 1 + skip)) 0

-- The first open day after a date; the first open day on or after it; 0 where there is none.
unfoldable pub open_after : List ℕ → ℕ → ℕ
open_after calendar n = open_at calendar n 1

unfoldable pub open_from : List ℕ → ℕ → ℕ
open_from calendar n = open_at calendar n 0

-- The highest of the n low bits of w that is on; 0 where none is.
unfoldable pub highest_below : ℕ → ℕ → ℕ
highest_below zero w = 0
highest_below (suc n) w = cond (bit_on w n) n (highest_below n w)

-- The last open day of the first n words; 0 where there is none.
unfoldable pub last_below : List ℕ → ℕ → ℕ
last_below calendar zero = 0
last_below calendar (suc m) =
    let w = get_or calendar m 0 in
    cond (eqb w 0) (last_below calendar m) (date_of m (highest_below 32 w))

-- The calendar's last open day; 0 if no day is open.
unfoldable pub last_open : List ℕ → ℕ
last_open calendar = last_below calendar calendar_words

-- ---- the answer of a search

-- The case for a number, and the number of a case: a day, or 0 where there is none.
unfoldable pub as_day : ℕ → Option Date
as_day n = cond (eqb n 0) None (Some (record { 0 = n }))

unfoldable pub day_number : Option Date → ℕ
day_number (Some d) = d.0
day_number None = 0
