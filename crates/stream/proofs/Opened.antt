-- The definitions of this crate and of those below it that computed rows open, under one name.
use Prim.Native.Nat.{ℕ}
use Rattle.history.proofs.Opened.{opened_history}
use Rattle.stream.specs.Stream.{unready, next, call_with, call_for, answer_bytes, emitted, emitted_all, on_next, added, split, calls_of, ending, stream_bytes}
use Rattle.stream.specs.Serving.{stopped, ended_by_five, after, serve_up_to, serving, is_full, leaves_for, leaves}
use Rattle.stream.specs.Statement.{ledger_bytes}

unfoldable pub opened_stream : ℕ
unfolding opened_history unready next call_with call_for answer_bytes emitted emitted_all on_next added split calls_of ending stream_bytes stopped ended_by_five after serve_up_to serving is_full leaves_for leaves ledger_bytes
opened_stream = 0
