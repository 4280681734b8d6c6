-- The definitions of this crate and of those below it that computed rows open, under one name.
use Prim.Native.Nat.{ℕ}
use Rattle.lists.proofs.Opened.{opened_lists}
use Rattle.days.specs.Days.{leap_day, month_length, is_date, word_of, date_of, length_of, bit_on, bad_from, bad_calendar, is_open, lowest_from, seek_from, open_at, open_after, open_from, highest_below, last_below, last_open}
use Rattle.days.specs.Weekdays.{is_weekday, weekday_word, weekdays_from, weekdays}
use Rattle.days.specs.MemoDay.{before_memo, day_within, six_months_before}

unfoldable pub opened_days : ℕ
unfolding opened_lists leap_day month_length is_date word_of date_of length_of bit_on bad_from bad_calendar is_open lowest_from seek_from open_at open_after open_from highest_below last_below last_open is_weekday weekday_word weekdays_from weekdays before_memo day_within six_months_before
opened_days = 0
