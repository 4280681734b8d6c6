-- `fill_calendar` asks for the length of each month from January 2000 on; a weekday stays below 7.
use Rattle.std.proofs.Common.{◌<◌}
use Rattle.second_form_run.proofs.fill_calendar.Given as goal

abbrev pub invariant-loop-m : goal.invariant-loop-m
invariant-loop-m l = l.weekday < 7
