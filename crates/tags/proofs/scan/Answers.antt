use mathlib.Core.Path.{subst⁻¹}
use Prim.Native.Nat.{◌+◌}
use Rattle.tags.specs.ContractDateTag.{opener}
use Rattle.tags.proofs.Openers.{ten_bytes, compare_start, compare_stop, compare_go, compare_end, Scanning, scan_start, scan_miss, scan_first, scan_more, scan_count, scan_place}
use borrow.Author.Rules.{rules}
use native.Mathlib.Omega.{arith}
use Rattle.tags.proofs.scan.Goals as goal
use Rattle.tags.proofs.scan.Goals.{then-count-eq0, else-count-eq0}

pub scan-init : goal.scan-init
scan-init c = (search rules, scan_start _)

pub loop-j-init : goal.loop-j-init
loop-j-init c = compare_start _

pub scan-preserved-then-part-j : goal.scan-preserved-then-part-j
unfolding opener
scan-preserved-then-part-j c =
    let l = c in
    let s = l in
    (search rules, scan_miss s.scan.invariant.1 (search rules) (compare_stop l.loop-j.invariant (ten_bytes s.scan.i s.args.line.now (search rules)) (search rules) c.if-part-j.true))

pub loop-j-preserved : goal.loop-j-preserved
unfolding opener
loop-j-preserved c =
    let l = c in
    let s = l in
    compare_go l.loop-j.invariant (ten_bytes s.scan.i s.args.line.now (search rules)) (search rules) c.if-part-j.false

pub scan-preserved : goal.scan-preserved
scan-preserved c =
    let line = c.args.line.now in
    let i = c.scan.i in
    let count = c.scan.count in
    let e = compare_end c.loop-j.invariant (ten_bytes i line (search rules)) c.loop-j-test.false in
    let F = Scanning line (i + 1) (count + 1) in
    elim c.if-count-eq0.branch [
      | then-count-eq0 w ↦ (omega arith, subst⁻¹ F w.first-is (scan_first c.scan.invariant.1 (search rules) e w.if-count-eq0.true))
      | else-count-eq0 w ↦ (omega arith, subst⁻¹ F w.first-is (scan_more c.scan.invariant.1 (search rules) e w.if-count-eq0.false))
    ]

pub returns : goal.returns
returns c =
    let s = c.scan.invariant.1 in
    (scan_count s (search rules), scan_place s (search rules), search rules, search rules)
