-- The definitions of this crate and of those below it that computed rows open, under one name.
use Prim.Native.Nat.{ℕ}
use Rattle.lists.specs.Put.{put}
use Rattle.history.specs.Results.{left, left_open}
use Rattle.history.proofs.Rows.{opened_rows}
use Rattle.marks.specs.Marks.{is_mark, place_of, mark_in, is_set, day_in, count_in, balances_in, words_for, store_causes, bad_mark, saved_causes, set_causes, return_causes, set_number, return_number, marked_for, marked, held_by, returned_for, returned}
use Rattle.marks.specs.Trials.{after, after_all, begun, went_on, kept_at, taken_up, followed, followed_all, is_ended, may_return, set_answer, return_answer, along, turn_of, turns_of}

unfoldable pub opened_marks : ℕ
unfolding opened_rows put left left_open is_mark place_of mark_in is_set day_in count_in balances_in words_for store_causes bad_mark saved_causes set_causes return_causes set_number return_number marked_for marked held_by returned_for returned after after_all begun went_on kept_at taken_up followed followed_all is_ended may_return set_answer return_answer along turn_of turns_of
opened_marks = 0
