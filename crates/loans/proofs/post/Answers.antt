-- `post` changes the word of the definition; the number 0 says that the sum and the difference fit.
use mathlib.Core.Path.{sym, ◌∙◌}
use native.Mathlib.Omega.{arith}
use Rattle.book.specs.Book.{balance_at}
use Rattle.book.proofs.Posted.{increase_fits, decrease_fits, increase_word, decrease_word, posted_increase, posted_decrease, posted_none}
use Rattle.loans.proofs.post.Goals as goal

pub offset_bounds-balances-word : goal.offset_bounds-balances-word
offset_bounds-balances-word c =
    let h = increase_word _ c.requires.1 c.requires.2 c.requires.3 c.change_of.ensures c.in-Increase.is c.word.ensures in
    record { fits = omega (arith, h) }

pub bounds-balances-word : goal.bounds-balances-word
bounds-balances-word c =
    let h = increase_word _ c.requires.1 c.requires.2 c.requires.3 c.change_of.ensures c.in-Increase.is c.word.ensures in
    omega (arith, h, c.requires.0)

pub bounds-balances-word-in-Increase : goal.bounds-balances-word-in-Increase
bounds-balances-word-in-Increase c =
    let h = increase_word _ c.requires.1 c.requires.2 c.requires.3 c.change_of.ensures c.in-Increase.is c.word.ensures in
    omega (arith, h, c.requires.0)

pub overflow_add-balances : goal.overflow_add-balances
unfolding balance_at
overflow_add-balances c =
    let h = increase_fits _ _ c.requires.4 (sym c.change_of.ensures ∙ c.in-Increase.is) in
    record { fits = rw c.word.ensures (omega (arith, h)) }

pub returns-in-Increase : goal.returns-in-Increase
returns-in-Increase c = posted_increase _ _ c.word.ensures (sym c.change_of.ensures ∙ c.in-Increase.is)

pub offset_bounds-balances-word-in-Decrease : goal.offset_bounds-balances-word-in-Decrease
offset_bounds-balances-word-in-Decrease c =
    let h = decrease_word _ c.requires.1 c.requires.2 c.requires.3 c.change_of.ensures c.in-Decrease.is c.word-in-Decrease.ensures in
    record { fits = omega (arith, h) }

pub bounds-balances-word-in-Decrease : goal.bounds-balances-word-in-Decrease
bounds-balances-word-in-Decrease c =
    let h = decrease_word _ c.requires.1 c.requires.2 c.requires.3 c.change_of.ensures c.in-Decrease.is c.word-in-Decrease.ensures in
    omega (arith, h, c.requires.0)

pub bounds-balances-word-in-Decrease-2 : goal.bounds-balances-word-in-Decrease-2
bounds-balances-word-in-Decrease-2 c =
    let h = decrease_word _ c.requires.1 c.requires.2 c.requires.3 c.change_of.ensures c.in-Decrease.is c.word-in-Decrease.ensures in
    omega (arith, h, c.requires.0)

pub overflow_sub-balances : goal.overflow_sub-balances
unfolding balance_at
overflow_sub-balances c =
    rw c.word-in-Decrease.ensures (decrease_fits _ _ c.requires.4 (sym c.change_of.ensures ∙ c.in-Decrease.is))

pub returns-in-Decrease : goal.returns-in-Decrease
returns-in-Decrease c = posted_decrease _ _ c.word-in-Decrease.ensures (sym c.change_of.ensures ∙ c.in-Decrease.is)

pub returns-in-Unchanged : goal.returns-in-Unchanged
returns-in-Unchanged c = posted_none _ _ (sym c.change_of.ensures ∙ c.in-Unchanged.is)
