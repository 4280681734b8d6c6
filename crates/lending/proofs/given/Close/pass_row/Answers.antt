-- The claims on the par on loan are passed, then those on the par on repo.
use Rattle.std.proofs.Common.{◌≡◌, List, ℕ, ◌+◌, ◌-◌, ◌*◌, sym, ap, subst, arith, rules}
use Rattle.lists.specs.Fields.{part, part_length}
use Rattle.records.specs.declared.Claim.{Claim}
use Rattle.amounts.specs.Numbers.{type_number}
use Rattle.claims.specs.Passes.{Free, Passed, free_front, free_append}
use Rattle.claims.proofs.Passes.{passed_append}
use Rattle.claims.proofs.Turns.{row_both, small_part}
use Rattle.lending.proofs.given.Close.pass_row.Goals as goal

-- the part of the balances in a slice
slice : (at : ℕ) → at + 256 - at ≡ 256
slice at = omega arith

pub pass_tracking-m-requires : goal.pass_tracking-m-requires
unfolding type_number
pass_tracking-m-requires c =
    let s = c.args.self.now in
    let at = 256 * c.args.security in
    let known = c.requires.0.known in
    let words = s.words in
    let k = ap (λ (f : List ℕ → List Claim). f (part at 256 s.balances.now)) c.entry-lending.ensures in
    rw (slice at) (
      part_length at 256 s.balances.now (search rules),
      small_part at 256 s.balances.now s.small,
      subst (Free _ _ _) (sym k) (free_front _ _ _ _ _ (rw row_both at c.requires.1)),
    )

pub pass_tracking-requires : goal.pass_tracking-requires
unfolding type_number
pass_tracking-requires c =
    let s = c.args.self.now in
    let at = 4096 + 256 * c.args.security in
    let known = c.requires.0.known in
    let words = s.words in
    let j = ap (λ (f : List ℕ → List Claim). f (part (256 * c.args.security) 256 s.balances.now)) c.entry-lending.ensures in
    let k = ap (λ (f : List ℕ → List Claim). f (part at 256 s.balances.now)) c.entry-repo.ensures in
    let d = c.pass_tracking-m in
    rw (slice at) (
      part_length at 256 s.balances.now (search rules),
      small_part at 256 s.balances.now s.small,
      subst (Free _ _ _) (sym k)
          (free_append _ _ _ _ _ _ _ (rw row_both at c.requires.1) (subst (Passed _ _ _ _ _) j (rw (slice (256 * c.args.security)) at d.ensures)) d.auto.buffer),
    )

pub returns : goal.returns
unfolding type_number
returns c =
    let s = c.args.self.now in
    let at = 4096 + 256 * c.args.security in
    let j = ap (λ (f : List ℕ → List Claim). f (part (256 * c.args.security) 256 s.balances.now)) c.entry-lending.ensures in
    let k = ap (λ (f : List ℕ → List Claim). f (part at 256 s.balances.now)) c.entry-repo.ensures in
    rw row_both (passed_append _ _ _ _ _ _ _ _ _ (rw row_both at c.requires.1)
    (subst (Passed _ _ _ _ _) j (rw (slice (256 * c.args.security)) at c.pass_tracking-m.ensures))
    (subst (Passed _ _ _ _ _) k (rw (slice at) at c.pass_tracking.ensures)))
