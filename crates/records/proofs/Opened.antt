-- The definitions of this crate and of those below it that computed rows open, under one name.
use Prim.Native.Nat.{ℕ}
use Rattle.lists.proofs.Opened.{opened_lists}
use Rattle.records.specs.MessageRecords.{transfer_kind, close_kind, claim_kind, answer_kind, size, record_bytes, transfer_values, claim_values, transfer_of, claim_of, answer_of, first_line, second_line, header, headed, reads, reading, writing}

unfoldable pub opened_records : ℕ
unfolding opened_lists transfer_kind close_kind claim_kind answer_kind size record_bytes transfer_values claim_values transfer_of claim_of answer_of first_line second_line header headed reads reading writing
opened_records = 0
