-- `with_record` meets its contract: by what the reader of claims finds.
use mathlib.Core.Path.{sym, ◌∙◌}
use Rattle.forecast.proofs.Summing.{with_none, with_bad, with_good}
use Rattle.forecast.proofs.with_record.Goals as goal

pub returns-in_default : goal.returns-in_default
returns-in_default c = with_none _ _ _ _ c.read_claim.ensures c.in_default.is

pub returns-then-not-good_parties : goal.returns-then-not-good_parties
returns-then-not-good_parties c = with_bad _ _ _ _ c.read_claim.ensures c.in-Some.is (sym c.good_parties.ensures ∙ c.if-not-good_parties.true)

pub returns : goal.returns
returns c =
    with_good _ _ _ _ c.read_claim.ensures c.in-Some.is (sym c.good_parties.ensures ∙ c.if-not-good_parties.false)
    c.with_claim.ensures c.with_claim-2.ensures
