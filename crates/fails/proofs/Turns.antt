-- The pass over the rows of a transfer, one row after the other.
use Rattle.std.proofs.Common.{◌≡◌, Bool, false, refl, sym, ap, ◌∙◌, List, [], ◌∷◌, ℕ, ◌+◌, ◌-◌, ◌≤◌, ◌<◌, length, arith, Option, Some, None}
use Rattle.lists.specs.Tabulate.{each}
use Rattle.records.specs.declared.Claim.{Claim}
use Rattle.records.specs.declared.Transfer.{Transfer}
use Rattle.securities.specs.declared.Row.{Row}
use Rattle.claims.specs.Amounts.{claim_on}
use Rattle.claims.specs.Fails.{transfer_parties}
use Rattle.claims.specs.Passes.{Free, Passed, passed_count, Turning, turn_start, turn_free, turn_end}
use Rattle.claims.specs.Reached.{row_at}
use Rattle.claims.proofs.Passes.{turn_step}
use Rattle.amounts.specs.Numbers.{type_number}
use Rattle.amounts.specs.declared.ClaimType.{ClaimType}
use Rattle.fails.specs.declared.Recent.{Recent}
use Rattle.fails.specs.Recent.{due_type, due_claim, recent_claims}
use Rattle.fails.proofs.Due.{due_none, due_one}

module _ (calendar tables : List ℕ) (day number : ℕ) (t : Transfer) (rows : Recent) where
  -- the claims on the row with a number, and on the row so many places behind the first
  abbrev pub on_row : ℕ → List Claim
  on_row i = due_claim calendar tables day number t rows (row_at tables t.security i)

  -- by the claim type of that row
  module _ (i : ℕ) {row : Row} (here : row ≡ row_at tables t.security i) {x : Option ClaimType} (e : x ≡ due_type day rows row) where
    pub row_none : ((y : ClaimType) → x ≡ Some y → ⊥) → on_row i ≡ []
    row_none n = ap (due_claim calendar tables day number t rows) (sym here) ∙ due_none calendar tables day number t rows row e (none x n)
      where
        none : (x : Option ClaimType) → ((y : ClaimType) → x ≡ Some y → ⊥) → x ≡ None
        none None n = refl
        none (Some y) n = absurd (n y refl)

    module _ {y : ClaimType} (s : x ≡ Some y) where
      row_one : on_row i ≡ claim_on calendar tables day number (transfer_parties t) t.par (type_number y) row ∷ []
      row_one = ap (due_claim calendar tables day number t rows) (sym here) ∙ due_one calendar tables day number t rows row e s

      pub row_claim : {par : ℕ} → par ≡ t.par → {c : Claim}
          → c ≡ claim_on calendar tables day number (record { security = t.security; payee = t.receiver; payer = t.sender }) par (type_number y) row
          → on_row i ≡ c ∷ []
      unfolding transfer_parties
      row_claim p q = row_one ∙ rw (← p, ← q) refl

      pub row_counted : {w : Bool} {l : List ℕ} {n : ℕ} → Free w l n (on_row i) → n + 1 ≤ 1000000
      row_counted free = omega (arith, ap length row_one, free.few)

      pub row_count : {w : Bool} {l : List ℕ} (n : ℕ) → w ≡ false → Passed w l l n (n + 1) (on_row i)
      row_count n f = passed_count _ _ n _ _ f row_one

  abbrev at_place : ℕ → List Claim
  at_place j = on_row (rows.first + j)

  module _ (w : Bool) where
    -- what the loop keeps: the claims on the rows from the first one up to the row i are passed
    abbrev pub Rows : List ℕ → List ℕ → ℕ → ℕ → Type 0
    Rows l b n i = Turning w at_place (rows.end - rows.first) l b 0 n (i - rows.first)

    pub rows_start : (l : List ℕ) → Rows l l 0 rows.first
    rows_start l = let z : rows.first - rows.first ≡ 0 = omega arith in rw z (turn_start w at_place (rows.end - rows.first) l 0)

    module _ {l : List ℕ} (free : Free w l 0 (recent_claims calendar tables day number t rows)) where
      free_places : Free w l 0 (each (rows.end - rows.first) at_place)
      unfolding recent_claims
      free_places = free

      module _ {b : List ℕ} {n i : ℕ} (turn : Rows l b n i) where
        module _ (from : rows.first ≤ i) (to : i < rows.end) where
          here : rows.first + (i - rows.first) ≡ i
          here = omega arith

          -- the next row is free
          pub rows_free : Free w b n (on_row i)
          rows_free = rw here at (turn_free at_place free_places turn (omega arith))

          -- its claims are passed
          pub rows_step : {after : List ℕ} {r : ℕ} → Passed w b after n r (on_row i) → length after ≡ length b → Rows l after r (i + 1)
          rows_step p e =
              let next : i + 1 - rows.first ≡ i - rows.first + 1 = omega arith in
              rw next (turn_step at_place free_places turn (omega arith) (rw here p) e)

        pub rows_end : rows.end ≤ i → Passed w l b 0 n (recent_claims calendar tables day number t rows)
        unfolding recent_claims
        rows_end h = turn_end at_place free_places turn (omega arith)
