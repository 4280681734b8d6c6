-- 8,192 balances that pass the quick test are good; others are judged one by one.
use mathlib.Core.Path.{sym, ◌∙◌}
use Rattle.judging.proofs.Quick.{quick_good}
use Rattle.judging.proofs.bad_balances.Goals as goal

pub own_pars-requires : goal.own_pars-requires
own_pars-requires c = (c.if-balances-eq-BALANCE_WORDS.true, sym c.excesses.ensures ∙ c.if-excesses-eq0.true)

pub returns-then-own_pars-eq0 : goal.returns-then-own_pars-eq0
returns-then-own_pars-eq0 c =
    sym (quick_good _ c.if-balances-eq-BALANCE_WORDS.true (sym c.excesses.ensures ∙ c.if-excesses-eq0.true) (sym c.own_pars.ensures ∙ c.if-own_pars-eq0.true))
