-- Each case of the tag has its number; a date goes on to its own edits.
use mathlib.Core.Path.{sym}
use Rattle.records.specs.Refusals.{refusal_number, judged_number}
use Rattle.tags.proofs.Causes.{absent_accepted, several_number, unended_number, empty_number, not_date_number}
use Rattle.tags.proofs.edits.Goals as goal

pub returns-in-Absent : goal.returns-in-Absent
unfolding judged_number refusal_number
returns-in-Absent c = rw c.in-Absent.is (sym (absent_accepted _ _))

pub returns-in-Several : goal.returns-in-Several
unfolding judged_number refusal_number
returns-in-Several c = rw c.in-Several.is (sym (several_number _ _))

pub returns-in-Unended : goal.returns-in-Unended
unfolding judged_number refusal_number
returns-in-Unended c = rw c.in-Unended.is (sym (unended_number _ _))

pub returns-in-Empty : goal.returns-in-Empty
unfolding judged_number refusal_number
returns-in-Empty c = rw c.in-Empty.is (sym (empty_number _ _))

pub returns-in-NotDate : goal.returns-in-NotDate
unfolding judged_number refusal_number
returns-in-NotDate c = rw c.in-NotDate.is (sym (not_date_number _ _))

pub returns-in-On : goal.returns-in-On
returns-in-On c = rw c.in-On.is c.date_edits.ensures
