-- `put_number` stores the lowest bytes of the number.
use mathlib.Core.Path.{ap, ◌∙◌}
use mathlib.Core.List.{List}
use Prim.Native.Nat.{ℕ}
use lib.ListN.{take}
use Rattle.lists.specs.Put.{put}
use Rattle.writing.proofs.Loops.{lowest}
use Rattle.writing.proofs.put_number.Goals as goal

pub returns : goal.returns
returns c =
    let a = c.args in
    c.put_bytes.ensures ∙ ap (λ (l : List ℕ). put a.buffer.now a.at (take a.width l)) c.to_le_bytes.ensures
    ∙ ap (put a.buffer.now a.at) (lowest a.number a.width c.requires.1)
