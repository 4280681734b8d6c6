-- The definitions of this crate and of those below it that computed rows open, under one name.
use Prim.Native.Nat.{ℕ}
use Rattle.lists.proofs.Opened.{opened_lists}
use Rattle.days.proofs.Opened.{opened_days}
use Rattle.tags.specs.ContractDateTag.{opener, same, openers_from, openers, end_in, end_from, is_digit, digits_after, digits_number, writes_date, tag_holding, tag_at, tag_of, on_day, tagged, contract_date, is_several, is_unended, is_not_date, edit_causes}

unfoldable pub opened_tags : ℕ
unfolding opened_lists opened_days opener same openers_from openers end_in end_from is_digit digits_after digits_number writes_date tag_holding tag_at tag_of on_day tagged contract_date is_several is_unended is_not_date edit_causes
opened_tags = 0
