-- The calls of a list, their arguments, and the claims that they give. All calls of a list get the same calendar and tables; each transfer
-- has date limits (document 02, card 5) and minimum pieces (card 6) of its own.
use Rattle.std.specs.Prelude.{List, ℕ, ◌+◌}
use Rattle.records.specs.declared.Claim.{Claim}
use Rattle.book.specs.declared.Book.{Book}
use Rattle.records.specs.MessageRecords.{transfer_of}
use Rattle.claims.specs.Fails.{contract_tag, maximum_numbers, transfer_claims}
use Rattle.claims.specs.Close.{close_claims}

-- A call's own arguments: its message, and its claim buffer as the call finds it.
pub record Arguments : Type 0 where
  pub message : List ℕ
  pub buffer : List ℕ

-- Those of a transfer: also the date limits and the pieces that it is lent.
pub record TransferArguments : Type 0 where
  pub message : List ℕ
  pub buffer : List ℕ
  pub limits : List ℕ
  pub pieces : List ℕ

pub data Call : Type 0 where
  transfer : TransferArguments → Call
  close : Arguments → Call

-- A transfer that is lent limits and pieces; in the form without limits it keeps the published numbers.
abbrev pub lent_transfer : List ℕ → List ℕ → Arguments → Call
lent_transfer limits pieces a = transfer (record { message = a.message; buffer = a.buffer; limits = limits; pieces = pieces })

abbrev pub published_transfer : List ℕ → Arguments → Call
published_transfer pieces a = lent_transfer maximum_numbers pieces a

unfoldable pub buffer_of : Call → List ℕ
buffer_of (transfer a) = a.buffer
buffer_of (close a) = a.buffer

-- The claims of a call on a book and balances; a transfer's tag is as the book's day takes it. Accepted transfers of every code are
-- numbered from 1.
unfoldable pub claims_of : List ℕ → List ℕ → Book → List ℕ → Call → List Claim
claims_of calendar tables book balances (transfer a) =
    transfer_claims calendar tables a.limits book.day (book.count + 1) (transfer_of a.message) (contract_tag book.day a.message)
claims_of calendar tables book balances (close a) = close_claims calendar tables book.day balances
