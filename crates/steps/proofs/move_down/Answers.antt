-- The bytes are copied at once.
use mathlib.Core.Path.{◌≡◌, ap, ◌∙◌}
use mathlib.Core.List.{List, ◌++◌}
use Prim.Native.Nat.{ℕ, ◌+◌, ◌≤◌}
use native.Mathlib.Omega.{arith}
use borrow.Author.Rules.{rules}
use lib.ListN.{length, take, drop, length-drop}
use lib.Seq.{length-take-le}
use Rattle.lists.specs.Put.{put, put_start}
use Rattle.steps.proofs.move_down.Goals as goal

at_the_start : (buf : List ℕ) (from n : ℕ) → from + n ≤ length buf → put buf 0 (take n (drop from buf)) ≡ take n (drop from buf) ++ drop n buf
at_the_start buf from n h =
    put_start buf (take n (drop from buf))
    ∙ ap (λ (k : ℕ). take n (drop from buf) ++ drop k buf) (length-take-le n (drop from buf) (omega (arith, length-drop from buf)))

pub returns : goal.returns
returns c = rw (at_the_start c.args.buf.now c.args.from c.args.n c.requires) (search rules)
