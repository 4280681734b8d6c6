-- Par on its piece in other words (document 02, card 6): number 14 does not apply exactly where par is a number of whole pieces, or where the
-- code takes from a balance and par is exactly the whole of it.
use mathlib.Core.Path.{◌≡◌, refl, sym, ap, ◌∙◌}
use mathlib.Core.Logic.{◌↔◌, ◌⊎◌, inl, inr}
use mathlib.Core.Bool.{Bool, true, false, not, true≢false}
use mathlib.Core.List.{List}
use Prim.Native.Nat.{ℕ, ◌+◌, ◌*◌, ◌/◌, ◌%◌, ◌≤◌}
use native.Mathlib.Nat.{add-zero, div-add-mod'}
use lib.Dec.{eqb}
use lib.Arith.{digits_mod}
use borrow.Author.Tests.{eqb-true, eqb-false, eq-eqb, not-false}
use Rattle.records.specs.declared.Transfer.{Transfer}
use Rattle.securities.specs.Lent.{piece_of}
use Rattle.book.specs.Book.{word, balance_at}
use Rattle.book.specs.Loans.{step_of, decreasing, by_receiver, off_piece}
use Rattle.book.proofs.Posted.{on_piece, off_decrease, off_other}

-- a number of whole pieces
pub record WholePieces (par piece : ℕ) : Type 0 where
  pub number : ℕ
  pub whole : par ≡ number * piece

-- a code that takes from a balance, and par of the whole of it
pub record Clears (balances : List ℕ) (t : Transfer) : Type 0 where
  pub takes : decreasing (step_of t.code) ≡ true
  pub whole : balance_at balances (by_receiver t) ≡ t.par

no_rest : (par piece : ℕ) → 1 ≤ piece → WholePieces par piece → par % piece ≡ 0
no_rest par piece h w =
    ap (λ (n : ℕ). n % piece) (w.whole ∙ sym (add-zero (w.number * piece))) ∙ digits_mod w.number h

whole_pieces : (par piece : ℕ) → par % piece ≡ 0 → WholePieces par piece
whole_pieces par piece z =
    record { number = par / piece; whole = sym (div-add-mod' par piece) ∙ ap (λ (n : ℕ). par / piece * piece + n) z ∙ add-zero (par / piece * piece) }

module _ (pieces balances : List ℕ) (t : Transfer) where
  clears : (t.par % piece_of pieces t.security ≡ 0 → ⊥) → off_piece pieces balances t ≡ false → Clears balances t
  unfolding balance_at
  clears o e = go (decreasing (step_of t.code)) refl
    where
      go : (b : Bool) → decreasing (step_of t.code) ≡ b → Clears balances t
      go true f = record { takes = f; whole = eqb-true _ t.par (not-false _ (off_decrease pieces balances t o (word (by_receiver t)) f refl ∙ e)) }
      go false f = absurd (true≢false (off_other pieces balances t o f ∙ e))

  cleared : Clears balances t → off_piece pieces balances t ≡ false
  unfolding balance_at
  cleared k = go (eqb (t.par % piece_of pieces t.security) 0) refl
    where
      go : (b : Bool) → eqb (t.par % piece_of pieces t.security) 0 ≡ b → off_piece pieces balances t ≡ false
      go true q = sym (on_piece pieces balances t (eqb-true _ 0 q))
      go false q =
          sym (off_decrease pieces balances t (eqb-false _ 0 q) (word (by_receiver t)) k.takes refl)
          ∙ ap not (eq-eqb _ t.par k.whole)

  pub on_words : 1 ≤ piece_of pieces t.security
      → (off_piece pieces balances t ≡ false) ↔ (WholePieces t.par (piece_of pieces t.security) ⊎ Clears balances t)
  on_words h = (to, from)
    where
      to : off_piece pieces balances t ≡ false → WholePieces t.par (piece_of pieces t.security) ⊎ Clears balances t
      to e = go (eqb (t.par % piece_of pieces t.security) 0) refl
        where
          go : (b : Bool) → eqb (t.par % piece_of pieces t.security) 0 ≡ b
              → WholePieces t.par (piece_of pieces t.security) ⊎ Clears balances t
          go true q = inl (whole_pieces t.par (piece_of pieces t.security) (eqb-true _ 0 q))
          go false q = inr (clears (eqb-false _ 0 q) e)

      from : WholePieces t.par (piece_of pieces t.security) ⊎ Clears balances t → off_piece pieces balances t ≡ false
      from (inl w) = sym (on_piece pieces balances t (no_rest t.par (piece_of pieces t.security) h w))
      from (inr k) = cleared k
