-- Theorems that rest on those of a table of causes.
use Rattle.std.specs.Prelude.{◌≡◌, ◌↔◌, true, false, List, ◌++◌, ℕ}
use Rattle.std.proofs.Common.{sym, ◌∙◌}
use Rattle.lists.specs.First.{Cause, first_of, NoneApplies, numbered, applies_at, none_applies, first_none, cleared_by, first_group, next_group}

pub accepted : (cs : List Cause) → numbered cs ≡ true → (first_of cs ≡ 0) ↔ NoneApplies cs
accepted cs t = (none_applies cs t, first_none cs)

-- the cause with the number n does not apply where the table's number is 0
pub cleared : (n : ℕ) (cs : List Cause) → numbered cs ≡ true → first_of cs ≡ 0 → applies_at n cs ≡ false
cleared n cs t e = cleared_by n cs (none_applies cs t e)

-- the same of a number r that a callee gave for the first group
pub hit_group : (xs ys : List Cause) {r : ℕ} → r ≡ first_of xs → (r ≡ 0 → ⊥) → r ≡ first_of (xs ++ ys)
hit_group xs ys e h = e ∙ sym (first_group xs ys (λ q. h (e ∙ q)))

pub skip_group : (xs ys : List Cause) {r n : ℕ} → numbered xs ≡ true → r ≡ first_of xs → r ≡ 0 → n ≡ first_of ys
    → n ≡ first_of (xs ++ ys)
skip_group xs ys t e h k = k ∙ sym (next_group xs ys (none_applies xs t (sym e ∙ h)))
