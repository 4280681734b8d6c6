-- `bad_wanted` meets its contract: the checking constructor says whether the date is one.
use mathlib.Core.Path.{sym, ap, ◌∙◌}
use mathlib.Core.Bool.{not-not}
use Rattle.std.specs.Option.{is_some}
use borrow.Author.Tests.{lt-ltb, le-ltb}
use Rattle.days.proofs.Parts.{some_date}
use Rattle.cash.specs.Cash.{bad_wanted}
use Rattle.forecast.proofs.bad_wanted.Goals as goal

pub returns-then-account-gt15 : goal.returns-then-account-gt15
unfolding bad_wanted
returns-then-account-gt15 c = rw (lt-ltb _ _ c.if-account-gt15.true)

pub returns : goal.returns
unfolding bad_wanted
returns c =
    let date = sym (some_date c.args.date) ∙ ap is_some (sym c.new.ensures) ∙ c.is_none.ensures in
    rw (le-ltb _ _ c.if-account-gt15.false, date) (sym (not-not c.is_none.result))
