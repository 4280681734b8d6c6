-- `write_mark` writes 1, day and count, and the balances behind them.
use mathlib.Core.Path.{◌≡◌, refl}
use native.Mathlib.Omega.{arith}
use lib.ListN.{length}
use Rattle.book.proofs.Copied.{copied_whole}
use Rattle.marks.specs.Marks.{words_for}
use Rattle.marks.proofs.write_mark.Goals as goal

pub copy-requires : goal.copy-requires
copy-requires c = omega (arith, c.requires.0, c.requires.1, c.split_at_mut-head.ensures.back_len)

pub returns : goal.returns
unfolding words_for
returns c =
    let rest = c.split_at_mut-head.result.1.now in
    let n : length c.args.balances.now ≡ length rest = omega (arith, c.requires.0, c.requires.1, c.split_at_mut-head.ensures.back_len) in
    rw (c.copy_from_slice.ensures.after, copied_whole _ _ _ n c.copy.ensures) refl
