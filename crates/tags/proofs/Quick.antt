-- A line without a { has no opener, and what counting them keeps.
use mathlib.Core.Path.{◌≡◌, refl, sym, ap}
use mathlib.Core.Bool.{Bool, true, false, cond, true≢false}
use mathlib.Core.List.{List, [], ◌∷◌}
use Prim.Native.Nat.{ℕ, suc, ◌≤◌}
use native.Mathlib.Omega.{arith}
use lib.Dec.{eqb}
use lib.ListN.{length, get_or}
use borrow.Author.Tests.{eq-eqb, ne_eqb}
use Rattle.lists.specs.Sums.{sum}
use Rattle.tags.specs.Quick.{brace_of}
use Rattle.tags.specs.ContractDateTag.{opener, same, openers_from, openers}

pub brace_small : (b : ℕ) → brace_of b ≤ 1
unfolding brace_of
brace_small b = go (eqb b 123)
  where
    go : (t : Bool) → cond t 1 0 ≤ 1
    go true = omega arith
    go false = omega arith

pub brace_one : (b : ℕ) → b ≡ 123 → 1 ≡ brace_of b
unfolding brace_of
brace_one b e = rw (eq-eqb b 123 e) refl

pub brace_other : (b : ℕ) → (b ≡ 123 → ⊥) → 0 ≡ brace_of b
unfolding brace_of
brace_other b n = rw (ne_eqb b 123 n) refl

-- a byte that adds nothing is no {
other_byte : (b : ℕ) → brace_of b ≡ 0 → eqb 123 b ≡ false
unfolding brace_of
other_byte b e = ne_eqb 123 b (λ q. absurd (go (eqb b 123) (eq-eqb b 123 (sym q)) e))
  where
    go : (t : Bool) → t ≡ true → ◌≡◌ {A = ℕ} (cond t 1 0) 0 → ⊥
    go true q e = omega (arith, e)
    go false q e = true≢false (sym q)

none_from : (i : ℕ) (bs : List ℕ) → sum brace_of bs ≡ 0 → openers_from i bs ≡ []
unfolding openers_from sum opener same
none_from i [] e = refl
none_from i (b ∷ bs) e =
    rw (other_byte b (omega (arith, e))) (none_from (suc i) bs (omega (arith, e)))

pub no_brace : (line : List ℕ) → sum brace_of line ≡ 0 → openers line ≡ []
unfolding openers
no_brace line e = none_from 0 line e

-- so there is none to count, and no first one
pub none_counted : (line : List ℕ) → sum brace_of line ≡ 0 → 0 ≡ length (openers line)
none_counted line e = sym (ap length (no_brace line e))

pub none_first : (line : List ℕ) → sum brace_of line ≡ 0 → 0 ≡ get_or (openers line) 0 0
none_first line e = sym (ap (λ (l : List ℕ). get_or l 0 0) (no_brace line e))
