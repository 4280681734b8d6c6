-- Computed rows: the Monday-to-Friday calendar at month ends, year ends, leap days and its last days, numbers that are no dates, a
-- calendar with no open day, calendars that break the rule, and days six months earlier.
use mathlib.Core.Path.{◌≡◌, refl}
use mathlib.Core.Bool.{Bool, true, cond, not, ◌&&◌}
use mathlib.Core.List.{List, [], ◌∷◌}
use Prim.Native.Nat.{ℕ, ◌^◌}
use lib.Dec.{eqb}
use lib.ListN.{set, replicate, length}
use Rattle.lists.specs.All.{all}
use Rattle.days.specs.Days.{bad_calendar, is_open, open_after, open_from, last_open}
use Rattle.days.specs.Weekdays.{weekdays}
use Rattle.days.specs.MemoDay.{before_memo, six_months_before}
use Rattle.days.proofs.Opened.{opened_days}

-- a day; whether it is open, as 1 or 0; the first open day after it, and the first on or after it, 0 for none
record Row : Type 0 where
  day : ℕ
  opened : ℕ
  after : ℕ
  on_or_after : ℕ

abbrev row : ℕ → ℕ → ℕ → ℕ → Row
row d o a f = record { day = d; opened = o; after = a; on_or_after = f }

rows : List Row
rows =
    row 20000101 0 20000103 20000103
    ∷ row 20000131 1 20000201 20000131
    ∷ row 20000228 1 20000229 20000228
    ∷ row 20000229 1 20000301 20000229
    ∷ row 20001229 1 20010101 20001229
    ∷ row 20010228 1 20010301 20010228
    ∷ row 20030430 1 20030501 20030430
    ∷ row 20040229 0 20040301 20040301
    ∷ row 20230331 1 20230403 20230331
    ∷ row 20230415 0 20230417 20230417
    ∷ row 20231231 0 20240101 20240101
    ∷ row 20240229 1 20240301 20240229
    ∷ row 20391229 1 20391230 20391229
    ∷ row 20391230 1 0 20391230
    ∷ row 20391231 0 0 0
    ∷ row 0 0 0 0
    ∷ row 19991231 0 0 0
    ∷ row 20230229 0 0 0
    ∷ row 20230431 0 0 0
    ∷ row 20231301 0 0 0
    ∷ row 20230400 0 0 0
    ∷ row 20400102 0 0 0
    ∷ row 4294967295 0 0 0
    ∷ []

holds : Row → Bool
holds r =
    eqb (cond (is_open weekdays r.day) 1 0) r.opened
    && eqb (open_after weekdays r.day) r.after
    && eqb (open_from weekdays r.day) r.on_or_after

-- no day is open
closed : List ℕ
closed = replicate 480 0

-- day 32 of January 2000, 29 February 2001 and 31 April 2023, which these months lack
broken : ℕ → ℕ → Bool
broken m d = bad_calendar (set weekdays m (2 ^ d))

calendars : Bool
calendars =
    eqb (length weekdays) 480
    && not (bad_calendar weekdays)
    && eqb (last_open weekdays) 20391230
    && not (bad_calendar closed)
    && eqb (last_open closed) 0
    && eqb (open_after closed 20000101) 0
    && eqb (open_from closed 20391231) 0
    && broken 0 31
    && not (broken 0 30)
    && broken 13 28
    && not (broken 13 27)
    && not (broken 1 28)
    && broken 279 30
    && not (broken 279 29)
    && eqb (last_open (set closed 13 3)) 20010202
    && eqb (open_after (set closed 479 (2 ^ 30)) 20000101) 20391231

-- ---- six months earlier

-- a day, and the same day six months earlier or its month's last
record HalfYear : Type 0 where
  day : ℕ
  earlier : ℕ

abbrev half : ℕ → ℕ → HalfYear
half d e = record { day = d; earlier = e }

-- a month as long, a shorter one, a February with the leap day and without; from either half of a year; before 2000
half_years : List HalfYear
half_years =
    half 20220831 20220228
    ∷ half 20200831 20200229
    ∷ half 20200829 20200229
    ∷ half 20220828 20220228
    ∷ half 20220829 20220228
    ∷ half 20220901 20220301
    ∷ half 20220630 20211230
    ∷ half 20220701 20220101
    ∷ half 20220331 20210930
    ∷ half 20221231 20220630
    ∷ half 20221130 20220530
    ∷ half 20230127 20220727
    ∷ half 20000131 19990731
    ∷ half 20000229 19990829
    ∷ half 20000331 19990930
    ∷ half 20000815 20000215
    ∷ []

-- the last day before the memo and the first under it
memo_days : Bool
memo_days = before_memo 20230129 && not (before_memo 20230130) && before_memo 20000101 && not (before_memo 20391231)

rows_hold : all holds rows && calendars && all (λ h. eqb (six_months_before h.day) h.earlier) half_years && memo_days ≡ true
unfolding opened_days holds rows calendars closed broken half_years memo_days
rows_hold = refl
