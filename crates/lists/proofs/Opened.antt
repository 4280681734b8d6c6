-- The definitions of this crate and of those below it that computed rows open, under one name.
use Prim.Native.Nat.{ℕ}
use Rattle.lists.specs.Tests.{below}
use Rattle.lists.specs.Numbers.{bytes_of, number_of}
use Rattle.lists.specs.Fields.{total, encode, decode}
use Rattle.lists.specs.First.{first_of}
use Rattle.lists.specs.Put.{put}
use Rattle.lists.specs.Sums.{sum}
use Rattle.lists.specs.Select.{select, last_of, keep_first}
use Rattle.lists.specs.Tabulate.{tabulate, each, each_of}

unfoldable pub opened_lists : ℕ
unfolding below bytes_of number_of total encode decode first_of put sum select last_of keep_first tabulate each each_of
opened_lists = 0
