-- A part put into a list: the elements from a place on replaced, all before and behind them as they were.
use Rattle.std.specs.Prelude.{◌≡◌, ℕ, ◌+◌, ◌≤◌}
use Rattle.std.proofs.Math.Path.{ap, sym}
use Rattle.std.proofs.Common.{◌∙◌, add_assoc, arith, length-drop, take-append-drop}
use mathlib.Core.List.{List, [], ◌++◌, append_assoc}
use Rattle.std.proofs.Math.Nat.{add-zero, zero-add}
use Rattle.std.proofs.Math.ListN.{length, take, drop, length-append}
use Rattle.std.proofs.Math.Seq.{take_at, drop_at, length-take-le, drop-drop, drop-append-add}

-- l with the elements from i on replaced by vs
unfoldable pub put : {A : Type 0} → List A → ℕ → List A → List A
put l i vs = take i l ++ (vs ++ drop (i + length vs) l)

module _ {A : Type 0} (l : List A) where
  -- nothing is put
  pub put_none : (i : ℕ) → put l i [] ≡ l
  unfolding put
  put_none i = rw add-zero (take-append-drop i l)

  -- the length stays
  pub put_length : (i : ℕ) (vs : List A) → i + length vs ≤ length l → length (put l i vs) ≡ length l
  unfolding put
  put_length i vs h = simp (length-append, length-take-le i l (omega arith), length-drop) (omega arith)

  -- at the start: the part, then what stood behind it
  pub put_start : (vs : List A) → put l 0 vs ≡ vs ++ drop (length vs) l
  unfolding put
  put_start vs = rw zero-add

  -- what stands before and behind
  pub put_before : (i : ℕ) (vs : List A) → i ≤ length l → take i (put l i vs) ≡ take i l
  unfolding put
  put_before i vs h = take_at (take i l) (vs ++ drop (i + length vs) l) i (length-take-le i l h)

  pub put_behind : (i : ℕ) (vs : List A) → i + length vs ≤ length l → drop (i + length vs) (put l i vs) ≡ drop (i + length vs) l
  unfolding put
  put_behind i vs h =
      let ti : length (take i l ++ vs) ≡ i + length vs = length-append (take i l) vs ∙ ap (λ (k : ℕ). k + length vs) (length-take-le i l (omega arith)) in
      ap (drop (i + length vs)) (sym (append_assoc (take i l) vs (drop (i + length vs) l)))
      ∙ drop_at (take i l ++ vs) (drop (i + length vs) l) (i + length vs) ti

  -- one part behind another is one part
  pub put_put : (i : ℕ) (vs ws : List A) → i + length vs + length ws ≤ length l
      → put (put l i vs) (i + length vs) ws ≡ put l i (vs ++ ws)
  unfolding put
  put_put i vs ws h =
      let ti : length (take i l) ≡ i = length-take-le i l (omega arith) in
      let p : List A = take i l ++ vs in
      let lp : length p ≡ i + length vs = length-append (take i l) vs ∙ ap (λ (k : ℕ). k + length vs) ti in
      let e : take i l ++ (vs ++ drop (i + length vs) l) ≡ p ++ drop (i + length vs) l =
      sym (append_assoc (take i l) vs (drop (i + length vs) l)) in
      ap (λ (x : List A). take (i + length vs) x ++ (ws ++ drop (i + length vs + length ws) x)) e
      ∙ ap (λ (x : List A). x ++ (ws ++ drop (i + length vs + length ws) (p ++ drop (i + length vs) l)))
      (take_at p (drop (i + length vs) l) (i + length vs) lp)
      ∙ ap (λ (x : List A). p ++ (ws ++ x))
      (ap (λ (k : ℕ). drop (k + length ws) (p ++ drop (i + length vs) l)) (sym lp)
      ∙ drop-append-add p (drop (i + length vs) l) (length ws)
      ∙ drop-drop (length ws) (i + length vs) l)
      ∙ append_assoc (take i l) vs (ws ++ drop (i + length vs + length ws) l)
      ∙ ap (λ (x : List A). take i l ++ x)
      (sym (append_assoc vs ws (drop (i + length vs + length ws) l))
      ∙ ap (λ (k : ℕ). (vs ++ ws) ++ drop k l) (add_assoc i (length vs) (length ws) ∙ ap (λ (k : ℕ). i + k) (sym (length-append vs ws))))
