-- Each test of the code decides one edit of a tag with a date.
use mathlib.Core.Path.{sym}
use Rattle.records.specs.Refusals.{refusal_number, judged_number}
use Rattle.tags.proofs.Causes.{late_number, market_accepted, other_day_number, same_day_accepted}
use Rattle.tags.proofs.date_edits.Goals as goal

pub returns-then-day-date : goal.returns-then-day-date
unfolding judged_number refusal_number
returns-then-day-date c = sym (late_number _ _ _ c.if-day-date.true)

pub returns-then-class-ne1 : goal.returns-then-class-ne1
unfolding judged_number refusal_number
returns-then-class-ne1 c = sym (market_accepted _ _ _ c.if-day-date.false c.if-class-ne1.true)

pub returns-then-date-day : goal.returns-then-date-day
unfolding judged_number refusal_number
returns-then-date-day c = sym (other_day_number _ _ _ c.if-day-date.false c.if-class-ne1.false c.if-date-day.true)

pub returns : goal.returns
unfolding judged_number refusal_number
returns c = sym (same_day_accepted _ _ _ c.if-date-day.false)
