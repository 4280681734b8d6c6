-- The claim on one row by its claim type, and the claims on a transfer's rows one after the other: fail claims, then interim claims.
use mathlib.Core.Path.{◌≡◌, refl, ap, ap₂, ◌∙◌}
use mathlib.Core.Bool.{Bool, true, false, cond}
use mathlib.Core.List.{List, [], ◌∷◌, ◌++◌, map}
use Prim.Native.Nat.{ℕ, ◌+◌, ◌-◌, ◌≤◌, ◌<◌}
use native.Mathlib.Omega.{arith}
use lib.ListN.{length, take, drop, length-drop}
use borrow.Author.Tests.{lt-ltb, le-ltb}
use Rattle.lists.specs.Select.{select}
use Rattle.lists.specs.Tabulate.{each}
use Rattle.records.specs.declared.Claim.{Claim}
use Rattle.records.specs.declared.Transfer.{Transfer}
use Rattle.securities.specs.Securities.{security_of, row_of, rows_of}
use Rattle.securities.specs.declared.Row.{Row}
use Rattle.claims.specs.Amounts.{fail_type, interim_type, claim_on}
use Rattle.claims.specs.Fails.{transfer_parties}
use Rattle.claims.specs.Reached.{row_at, is_kept_by}
use Rattle.claims.proofs.Runs.{map_each, each_select, each_of_take, each_agree, each_append}
use Rattle.claims.proofs.TableRows.{length_rows_of, row_behind}
use Rattle.claims.proofs.Reached.{claimed}
use Rattle.std.proofs.Common.{Option, Some, None}
use Rattle.amounts.specs.Numbers.{type_number}
use Rattle.amounts.specs.declared.ClaimType.{ClaimType}
use Rattle.amounts.specs.declared.ClaimType.TheVariants as claim_type
use Rattle.fails.specs.declared.Recent.{Recent}
use Rattle.fails.specs.Recent.{due_type, typed_claim, due_claim, recent_claims}

module _ (calendar tables : List ℕ) (day number : ℕ) (t : Transfer) (w : Recent) where
  -- ---- the claim on a row, by its type

  pub due_none : (row : Row) {x : Option ClaimType} → x ≡ due_type day w row → x ≡ None → due_claim calendar tables day number t w row ≡ []
  unfolding due_claim typed_claim
  due_none row e n = rw (← e, n)

  pub due_one : (row : Row) {x : Option ClaimType} {claim_type : ClaimType} → x ≡ due_type day w row → x ≡ Some claim_type
      → due_claim calendar tables day number t w row ≡ claim_on calendar tables day number (transfer_parties t) t.par (type_number claim_type) row ∷ []
  unfolding due_claim typed_claim
  due_one row e n = rw (← e, n)

  -- ---- one row after the other

  module _ (a : w.first ≤ w.reached) (b : w.reached ≤ w.end) (c : w.end ≤ 16) where
    abbrev rows : List Row
    rows = rows_of (security_of tables t.security)

    abbrev here : ℕ → Row
    here i = row_at tables t.security i

    abbrev due_at : ℕ → List Claim
    due_at i = due_claim calendar tables day number t w (here i)

    abbrev kept : Row → Bool
    kept row = is_kept_by w.after w.waiting day row

    abbrev claim : ℕ → Row → Claim
    claim = claimed calendar tables day number t

    long : (k n : ℕ) → k ≤ n → n ≤ 16 → n - k ≤ length (drop k rows)
    long k n h m = omega (arith, length-drop k rows, length_rows_of tables t.security)

    fail_at : (i : ℕ) → i < w.reached → cond (kept (here i)) (claim fail_type (here i) ∷ []) [] ≡ due_at i
    unfolding due_claim typed_claim due_type row_at row_of type_number
    fail_at i h = rw (lt-ltb i w.reached h) (go (kept (here i)))
      where
        go : (b : Bool) → cond b (claim 1 (here i) ∷ []) [] ≡ typed_claim calendar tables day number t (here i) (cond b (Some claim_type.Fail) None)
        go true = refl
        go false = refl

    interim_at : (i : ℕ) → w.reached ≤ i → claim interim_type (here i) ∷ [] ≡ due_at i
    unfolding due_claim typed_claim due_type row_at row_of type_number
    interim_at i h = rw (le-ltb i w.reached h)

    fail_part : map (claim fail_type) (select kept (take (w.reached - w.first) (drop w.first rows)))
        ≡ each (w.reached - w.first) (λ j. due_at (w.first + j))
    fail_part =
        map_each (claim fail_type) _
        ∙ each_select kept (λ row. claim fail_type row ∷ []) _
        ∙ each_of_take _ (drop w.first rows) (here 0) (w.reached - w.first) (long w.first w.reached a (omega arith))
        ∙ each_agree _ _ (w.reached - w.first) (λ j h.
        ap (λ (row : Row). cond (kept row) (claim fail_type row ∷ []) []) (row_behind tables t.security w.first j (here 0) (omega arith))
        ∙ fail_at (w.first + j) (omega arith))

    interim_part : map (claim interim_type) (take (w.end - w.reached) (drop w.reached rows)) ≡ each (w.end - w.reached) (λ j. due_at (w.reached + j))
    interim_part =
        map_each (claim interim_type) _
        ∙ each_of_take _ (drop w.reached rows) (here 0) (w.end - w.reached) (long w.reached w.end b c)
        ∙ each_agree _ _ (w.end - w.reached) (λ j h.
        ap (λ (row : Row). claim interim_type row ∷ []) (row_behind tables t.security w.reached j (here 0) (omega arith))
        ∙ interim_at (w.reached + j) (omega arith))

    -- the fail claims on the rows up to the reached ones, then the interim claims on the rest
    pub due_each : map (claim fail_type) (select kept (take (w.reached - w.first) (drop w.first rows)))
        ++ map (claim interim_type) (take (w.end - w.reached) (drop w.reached rows))
        ≡ recent_claims calendar tables day number t w
    unfolding recent_claims
    due_each =
        let shift : (j : ℕ) → w.reached + j ≡ w.first + ((w.reached - w.first) + j) = λ j. omega arith in
        let whole : (w.reached - w.first) + (w.end - w.reached) ≡ w.end - w.first = omega arith in
        ap₂ (λ (x y : List Claim). x ++ y) fail_part (interim_part ∙ each_agree _ _ (w.end - w.reached) (λ j h. ap due_at (shift j)))
        ∙ each_append (λ j. due_at (w.first + j)) (w.reached - w.first) (w.end - w.reached)
        ∙ ap (λ (n : ℕ). each n (λ j. due_at (w.first + j))) whole
