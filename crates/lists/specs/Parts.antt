-- A part of a list, named by its ends or by its length.
use Rattle.std.specs.Prelude.{◌≡◌, List, [], ◌∷◌, ℕ, zero, suc, ◌-◌, take, drop}
use Rattle.std.proofs.Common.{sym, ap, ◌∙◌, arith}
use Rattle.std.proofs.Math.Nat.{sub-zero, zero-sub}
use Rattle.std.proofs.Math.Seq.{take-nil}

pub drop_take : {A : Type 0} (k n : ℕ) (xs : List A) → drop k (take n xs) ≡ take (n - k) (drop k xs)
drop_take zero n xs = ap (λ (m : ℕ). take m xs) (sym (sub-zero n))
drop_take (suc k) zero xs = sym (ap (λ (m : ℕ). take m (drop (suc k) xs)) (zero-sub (suc k)))
drop_take (suc k) (suc n) [] = sym (take-nil (suc n - suc k))
drop_take (suc k) (suc n) (x ∷ xs) =
    let e : n - k ≡ suc n - suc k = omega arith in
    drop_take k n xs ∙ ap (λ (m : ℕ). take m (drop k xs)) e
