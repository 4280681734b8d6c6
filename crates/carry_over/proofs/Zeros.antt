-- Zeros behind balances: every word reads as before, and the balances are sound exactly where they were.
use mathlib.Core.Path.{◌≡◌, refl, sym, ap, ◌∙◌}
use mathlib.Core.Bool.{Bool, not, ◌&&◌, and_assoc, and-true}
use mathlib.Core.List.{List, [], ◌∷◌, ◌++◌}
use Prim.Native.Nat.{ℕ, zero, suc, ◌+◌, ◌<◌}
use native.Mathlib.Nat.{add-zero}
use native.Mathlib.Omega.{arith}
use lib.ListN.{length, get_or, set, replicate, length-append, length-replicate}
use lib.Seq.{set-append_left}
use Rattle.book.specs.declared.Position.{Position}
use Rattle.book.specs.Book.{word, position, balance_at}
use Rattle.book.specs.Soundness.{good_balance, good_balances_from, bad_balances}
use Rattle.history.proofs.StaysSound.{good_zeros}
use Rattle.carry_over.specs.CarriedOver.{widened}

-- ---- reading

zeros_at : (n i : ℕ) → get_or (replicate n 0) i 0 ≡ (zero)
zeros_at zero i = refl
zeros_at (suc n) zero = refl
zeros_at (suc n) (suc i) = zeros_at n i

before_zeros : (xs : List ℕ) (n i : ℕ) → get_or (xs ++ replicate n 0) i 0 ≡ get_or xs i 0
before_zeros [] n i = zeros_at n i
before_zeros (x ∷ xs) n zero = refl
before_zeros (x ∷ xs) n (suc i) = before_zeros xs n i

module _ (balances : List ℕ) where
  pub word_widened : (w : ℕ) → get_or (widened balances) w 0 ≡ get_or balances w 0
  unfolding widened
  word_widened w = before_zeros balances 4096 w

  pub balance_widened : (p : Position) → balance_at (widened balances) p ≡ balance_at balances p
  unfolding balance_at
  balance_widened p = word_widened (word p)

  pub length_widened : length balances ≡ 4096 → length (widened balances) ≡ 8192
  unfolding widened
  length_widened e = length-append balances (replicate 4096 0) ∙ rw (length-replicate {A = ℕ} 4096 0) (omega arith)

  -- a word of lending that is stored
  pub set_widened : (w v : ℕ) → length balances ≡ 4096 → w < 4096 → set (widened balances) w v ≡ widened (set balances w v)
  unfolding widened
  set_widened w v e h = set-append_left balances (replicate 4096 0) w v (omega arith)

-- ---- judging

good_append : (w : ℕ) (xs ys : List ℕ) → good_balances_from w (xs ++ ys) ≡ (good_balances_from w xs && good_balances_from (w + length xs) ys)
unfolding good_balances_from
good_append w [] ys = ap (λ (n : ℕ). good_balances_from n ys) (sym (add-zero w))
good_append w (x ∷ xs) ys =
    let e : suc w + length xs ≡ w + suc (length xs) = omega arith in
    rw (good_append (suc w) xs ys, e)
    (sym (and_assoc (good_balance (position w) x) (good_balances_from (suc w) xs) (good_balances_from (w + suc (length xs)) ys)))

pub bad_widened : (balances : List ℕ) → bad_balances (widened balances) ≡ bad_balances balances
unfolding bad_balances widened
bad_widened balances =
    ap not (good_append 0 balances (replicate 4096 0)
    ∙ ap (λ (b : Bool). good_balances_from 0 balances && b) (good_zeros 4096 (0 + length balances)) ∙ and-true (good_balances_from 0 balances))
