-- Each row is taken from the tables, so it is sound; the claims of a security are those of the turns of its rows.
use Rattle.std.proofs.Common.{◌≡◌, ℕ}
use Rattle.lists.specs.Tabulate.{each}
use Rattle.securities.specs.Securities.{row_at}
use Rattle.claims.specs.Passes.{turn_start, turn_free, turn_end}
use Rattle.claims.proofs.Passes.{turn_step}
use Rattle.claims.proofs.Turns.{security_rows, sound_row}
use Rattle.lending.specs.declared.given.Close.{Close}
use Rattle.lending.specs.Levels.{turn_level, security_level}
use Rattle.lending.proofs.given.Close.pass_security.Goals as goal

turns : (k : Close) (s : ℕ) → security_level k s ≡ each 16 (λ i. turn_level k s (row_at k.tables.now s i))
turns k s = security_rows k.calendar.now k.tables.now k.day k.next s k.balances.now k.sound.next_day

pub loop-index-init : goal.loop-index-init
loop-index-init c = turn_start _ _ 16 _ _

pub pass_turn-m-requires : goal.pass_turn-m-requires
pass_turn-m-requires c =
    let k = c.args.self.now in
    rw c.row.ensures (
      sound_row c.loop-index.index k.sound c.requires.0 c.loop-index-test.true,
      turn_free _ (rw (turns k c.args.security) at c.requires.1) c.loop-index.invariant c.loop-index-test.true,
    )

pub loop-index-preserved : goal.loop-index-preserved
loop-index-preserved c =
    let k = c.args.self.now in
    let d = c.pass_turn-m in
    turn_step _ (rw (turns k c.args.security) at c.requires.1) c.loop-index.invariant c.loop-index-test.true (rw c.row.ensures at d.ensures) d.auto.buffer

pub returns : goal.returns
returns c =
    let k = c.args.self.now in
    rw (turns k c.args.security)
    (turn_end _ (rw (turns k c.args.security) at c.requires.1) c.loop-index.invariant c.loop-index-test.false)
