-- In the years 2000 to 2039 every fourth has the leap day.
use native.Mathlib.Omega.{arith}
use Rattle.days.proofs.Lengths.{leap_fourth}
use Rattle.days.proofs.leap_day.Goals as goal

pub returns : goal.returns
returns c = omega (arith, leap_fourth _ c.requires.0 c.requires.1)
