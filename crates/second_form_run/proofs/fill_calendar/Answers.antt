use mathlib.Core.Path.{◌≡◌}
use Prim.Native.Nat.{ℕ, ◌+◌, ◌/◌, ◌%◌, ◌≤◌, ◌<◌}
use native.Mathlib.Omega.{arith}
use borrow.Author.Rules.{rules}
use Rattle.days.specs.Days.{month_length, length_of}
use Rattle.days.proofs.Lengths.{word_length_le}
use Rattle.second_form_run.proofs.fill_calendar.Goals as goal

at_most : (r m : ℕ) → r ≡ month_length (2000 + m / 12) (m % 12 + 1) → m < 480 → r ≤ 31
unfolding length_of
at_most r m e h = rw e (word_length_le m h)

pub month_word-requires : goal.month_word-requires
month_word-requires c = (search rules, at_most _ _ c.month_length-length.ensures (omega arith))

pub overflow_add-weekday : goal.overflow_add-weekday
overflow_add-weekday c = record { fits = omega (arith, at_most _ _ c.month_length-length.ensures (omega arith)) }
