-- A quick look at a line: one whose bytes hold no { has no opener (`no_brace` in proofs/Quick.antt). The count asks no question of a
-- single byte, so that many can be taken at once.
use Rattle.std.specs.Prelude.{cond, ℕ, eqb}

-- What a byte adds to the count of {.
unfoldable pub brace_of : ℕ → ℕ
brace_of b = cond (eqb b 123) 1 0
