-- No par gives no claim; else one is counted, or stored at its place.
use Rattle.std.proofs.Common.{ap, ◌∙◌, ◌*◌}
use Rattle.lists.specs.Put.{put}
use Rattle.records.specs.declared.Claim.{Claim}
use Rattle.claims.specs.Close.{loan_parties}
use Rattle.claims.specs.Passes.{passed_nothing, passed_count, passed_store, room_one}
use Rattle.claims.specs.Written.{claim_bytes}
use Rattle.claims.proofs.Turns.{loan_none, loan_one}
use Rattle.lending.proofs.given.Entry.pass_loan.Goals as goal
use Rattle.lending.proofs.given.Entry.pass_loan.Goals.{then-write, else-write}

pub returns-then-par-eq0 : goal.returns-then-par-eq0
returns-then-par-eq0 c = passed_nothing _ _ _ _ (loan_none _ _ _ _ _ _ _ c.if-par-eq0.true)

pub put_claim-requires : goal.put_claim-requires
put_claim-requires c =
    let p = c.requires in
    room_one _ _ _ _ (loan_one _ _ _ _ _ _ _ c.if-par-eq0.false) (p.2.room c.if-write.true)

pub returns : goal.returns
unfolding loan_parties
returns c =
    let a = c.args in
    elim c.if-write.branch [
      | then-write w ↦ rw w.buffer-is (passed_store _ _ _ _ _ _ w.if-write.true (loan_one _ _ _ _ _ _ _ c.if-par-eq0.false)
          (w.put_claim.ensures ∙ ap (λ (x : Claim). put a.buffer.now (35 * a.n) (claim_bytes x)) rw w.number.ensures at w.claim_on-c.ensures))
      | else-write w ↦ rw w.buffer-is (passed_count _ _ _ _ _ w.if-write.false (loan_one _ _ _ _ _ _ _ c.if-par-eq0.false))
    ]
