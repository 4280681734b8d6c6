-- The calendar of document 01's cases: Monday to Friday are open, each day from January 2000 to December 2039.
use Rattle.std.specs.Prelude.{Bool, cond, List, [], ◌∷◌, ℕ, zero, suc, ◌+◌, ◌*◌, ◌%◌, ltb}
use Rattle.days.specs.Days.{length_of, calendar_words}

-- 1 January 2000, day 0 of the count, is a Saturday; of seven days from a Monday the first five are open.
unfoldable pub is_weekday : ℕ → Bool
is_weekday day = ltb ((day + 5) % 7) 5

-- The word of n days, the first of which is a day of the count.
unfoldable pub weekday_word : ℕ → ℕ → ℕ
weekday_word zero day = 0
weekday_word (suc n) day = cond (is_weekday day) 1 0 + 2 * weekday_word n (suc day)

-- n words from word m on, which begins on a day of the count.
unfoldable pub weekdays_from : ℕ → ℕ → ℕ → List ℕ
weekdays_from zero m day = []
weekdays_from (suc n) m day = weekday_word (length_of m) day ∷ weekdays_from n (suc m) (day + length_of m)

unfoldable pub weekdays : List ℕ
weekdays = weekdays_from calendar_words 0 0
