-- A quick test of the balances: where what they have above the largest balance adds up to nothing, and so does what accounts have lent
-- themselves, they are good (`quick_good` in proofs/Quick.antt). The two sums ask no question of a single word, so that many words can be
-- taken at once.
use Rattle.std.specs.Prelude.{List, ℕ, zero, suc, ◌+◌, ◌*◌, ◌/◌, ◌%◌, get_or}

-- What a balance has above the largest, 0 exactly where it is not too large: 9,000,000,001 + 8,179,869,183 is 2 ^ 34.
unfoldable pub excess_of : ℕ → ℕ
excess_of par = par / 17179869184 + (par % 17179869184 + 8179869183) / 17179869184

-- The word of what account i % 16 has lent itself of security i / 16.
unfoldable pub self_word : ℕ → ℕ
self_word i = 256 * (i / 16) + 17 * (i % 16)

-- What the accounts have lent themselves, added up over the first k words of the diagonal.
unfoldable pub own_pars : List ℕ → ℕ → ℕ
own_pars balances zero = 0
own_pars balances (suc k) = own_pars balances k + get_or balances (self_word k) 0
