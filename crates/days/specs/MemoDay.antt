-- Document 02, card 7: the days before the 2023 memo, and the half year that source document 004 lets a fail go back on these.
use Rattle.std.specs.Prelude.{Bool, cond, ℕ, ◌+◌, ◌-◌, ◌*◌, leb, ltb}
use Rattle.days.specs.Days.{month_length, year_of, month_of, day_of}

-- The first day under the 2023 memo.
abbrev pub memo_day : ℕ
memo_day = 20230130

unfoldable pub before_memo : ℕ → Bool
before_memo day = ltb day memo_day

-- Day d of month m of year y, or that month's last day if it is shorter.
unfoldable pub day_within : ℕ → ℕ → ℕ → ℕ
day_within y m d = y * 10000 + m * 100 + cond (leb d (month_length y m)) d (month_length y m)

-- The same day six months earlier, or that month's last day if it is shorter; from January to June it lies in the year before. It is the
-- number yyyymmdd and no date where it lies before 2000.
unfoldable pub six_months_before : ℕ → ℕ
six_months_before day =
    cond (ltb 6 (month_of day))
    (day_within (year_of day) (month_of day - 6) (day_of day))
    (day_within (year_of day - 1) (month_of day + 6) (day_of day))
