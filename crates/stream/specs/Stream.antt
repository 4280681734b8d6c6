-- Document 01, section The program claimrun: records that follow each other in a stream. A transfer or a close is worked as a call with a
-- claim buffer of 64 KiB; its claims and then its answer are written. Whatever else begins gets the answer 5, which ends the run. Input
-- that ends where a record would begin ends it with nothing written.
use Rattle.std.specs.Prelude.{Bool, cond, not, true, ◌&&◌, ◌||◌, List, [], ◌∷◌, ◌++◌, map, ℕ, zero, suc, ◌*◌, eqb, ltb, length, take, drop, replicate}
use Rattle.records.specs.MessageRecords.{transfer_kind, close_kind, answer_kind, size, record_bytes, header, reads}
use Rattle.securities.specs.Lent.{ones}
use Rattle.claims.specs.Written.{claim_size}
use Rattle.book.specs.declared.Book.{Book}
use Rattle.history.specs.Calls.{Arguments, Call, close, published_transfer}
use Rattle.history.specs.Results.{Answer, run}
use Rattle.stream.specs.declared.Next.{Next}
use Rattle.stream.specs.declared.Next.TheVariants.{Waiting, Wrong, Record}

-- ---- what the input begins with

-- Nothing yet, or, where input has not ended, the beginning of what may become a record.
unfoldable pub unready : Bool → List ℕ → Bool
unready ended s = eqb (length s) 0 || (not ended && (ltb (length s) 4 || header transfer_kind.following transfer_kind.kind s))

-- A whole record with its size, something that may still become one, or something that is none.
unfoldable pub next : Bool → List ℕ → Next
next ended s =
    cond (reads transfer_kind s) (Record (size transfer_kind))
    (cond (reads close_kind s) (Record (size close_kind)) (cond (unready ended s) Waiting Wrong))

-- ---- a record

-- The claim buffer of a record: 64 KiB.
abbrev pub claim_room : ℕ
claim_room = 65536

-- The call that a record asks for, with a claim buffer. A transfer keeps the published limits and is lent ones as pieces.
unfoldable pub call_with : List ℕ → List ℕ → Call
call_with buffer message =
    let a : Arguments = record { message = message; buffer = buffer } in
    cond (reads close_kind message) (close a) (published_transfer ones a)

-- What a claim buffer holds before a call does not show in what is written for it, so it is taken as zeros.
unfoldable pub call_for : List ℕ → Call
call_for message = call_with (replicate claim_room 0) message

unfoldable pub answer_bytes : ℕ → List ℕ
answer_bytes number = record_bytes answer_kind (number ∷ []) []

-- What is written for a call: its claims, then its answer.
unfoldable pub emitted : Answer → List ℕ
emitted a = take (claim_size * a.claims) a.buffer ++ answer_bytes a.number

unfoldable pub emitted_all : List Answer → List ℕ
emitted_all [] = []
emitted_all (a ∷ answers) = emitted a ++ emitted_all answers

-- ---- a whole stream

-- What is done with the beginning of the input: one of three.
unfoldable pub on_next : {A : Type 0} → Next → A → A → (ℕ → A) → A
on_next Waiting waits refuses works = waits
on_next Wrong waits refuses works = refuses
on_next (Record n) waits refuses works = works n

-- The whole records of a stream, and what stands behind them.
pub record Split : Type 0 where
  pub records : List (List ℕ)
  pub behind : List ℕ

-- A record before others.
unfoldable pub added : List ℕ → Split → Split
added message rest = record { records = message ∷ rest.records; behind = rest.behind }

-- Up to n records.
unfoldable pub split : ℕ → List ℕ → Split
split zero s = record { records = []; behind = s }
split (suc n) s =
    on_next (next true s) (record { records = []; behind = s }) (record { records = []; behind = s }) (λ k. added (take k s) (split n (drop k s)))

-- The calls of a stream: every record has a byte, so the input's length is number enough.
unfoldable pub calls_of : List ℕ → List Call
calls_of s = map call_for (split (length s) s).records

-- The answer 5 where something stands behind the records.
unfoldable pub ending : List ℕ → List ℕ
ending s = cond (eqb (length (split (length s) s).behind) 0) [] (answer_bytes 5)

-- All that is written for a stream.
unfoldable pub stream_bytes : List ℕ → List ℕ → Book → List ℕ → List ℕ → List ℕ
stream_bytes calendar tables book balances s = emitted_all (run calendar tables book balances (calls_of s)).answers ++ ending s
