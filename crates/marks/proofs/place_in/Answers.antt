-- A mark of the store has 8,195 words for each mark before it.
use mathlib.Core.Path.{refl, sym, ◌∙◌}
use Rattle.marks.specs.Marks.{place_of}
use Rattle.marks.proofs.Numbers.{mark_range}
use Rattle.marks.proofs.place_in.Goals as goal

pub overflow_sub-result : goal.overflow_sub-result
overflow_sub-result c = (mark_range _ (sym c.is_mark.ensures ∙ c.if-is_mark.true)).0

pub returns-then-store-eq-STORE_WORDS-clause-value : goal.returns-then-store-eq-STORE_WORDS-clause-value
unfolding place_of
returns-then-store-eq-STORE_WORDS-clause-value c = refl
