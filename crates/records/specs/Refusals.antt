-- What can be refused: the number of each case, and 0 where a call is not refused.
use Rattle.std.specs.Prelude.{ℕ, Result, Ok, Err}
use Rattle.records.specs.declared.Refusal.{Refusal}
use Rattle.records.specs.declared.Refusal.TheVariants as refusal

unfoldable pub refusal_number : Refusal → ℕ
refusal_number refusal.Length = 1
refusal_number refusal.Calendar = 2
refusal_number refusal.Tables = 3
refusal_number refusal.Book = 4
refusal_number refusal.Message = 5
refusal_number refusal.Field = 6
refusal_number refusal.Decrease = 7
refusal_number refusal.Increase = 8
refusal_number refusal.LastDay = 9
refusal_number refusal.Room = 10
refusal_number refusal.Count = 11
refusal_number refusal.Limits = 12
refusal_number refusal.Pieces = 13
refusal_number refusal.OffPiece = 14
refusal_number refusal.Early = 15
refusal_number refusal.Mark = 16
refusal_number refusal.Saved = 17
refusal_number refusal.Claims = 18
refusal_number refusal.Sum = 19
refusal_number refusal.SeveralTags = 132
refusal_number refusal.UnendedTag = 133
refusal_number refusal.TagNotDate = 135
refusal_number refusal.LaterDate = 138
refusal_number refusal.OtherDate = 139

-- The number of a judgement: 0 where nothing is refused.
unfoldable pub judged_number : {A : Type 0} → Result A Refusal → ℕ
judged_number (Ok _) = 0
judged_number (Err r) = refusal_number r
