-- The claims on the rows of a transfer are its claims, and what these ask is there.
use mathlib.Core.Path.{◌≡◌, refl, ap, ap₂, ◌∙◌, subst}
use mathlib.Core.Bool.{Bool, true, false, cond}
use mathlib.Core.List.{List, [], ◌++◌, map}
use Prim.Native.Nat.{ℕ, ◌-◌, ◌≤◌, ◌<◌}
use native.Mathlib.Nat.{le_refl}
use native.Mathlib.Omega.{arith}
use lib.Dec.{eqb}
use lib.ListN.{take, drop}
use borrow.Author.Tests.{eqb-true, eqb-false, eq-eqb, ne_eqb}
use Rattle.lists.specs.Select.{select}
use Rattle.lists.specs.Tabulate.{each}
use Rattle.days.specs.MemoDay.{before_memo}
use Rattle.records.specs.declared.Claim.{Claim}
use Rattle.records.specs.declared.Transfer.{Transfer}
use Rattle.securities.specs.Securities.{security_of, type_of, rows_of, filled_rows, good_tables}
use Rattle.securities.specs.declared.Row.{Row}
use Rattle.tags.specs.declared.Tag.{Tag}
use Rattle.tags.specs.ContractDateTag.{tagged, contract_date}
use Rattle.claims.specs.Amounts.{fail_type, interim_type}
use Rattle.claims.specs.Fails.{maximum_of, eligible_now, eligible_before, eligible, transfer_claims}
use Rattle.claims.specs.Reached.{reached_rows, interim_end, is_kept_by, first_before, Claiming}
use Rattle.claims.proofs.Reached.{claimed, none_by_code, claims_by_rows, reached_end, first_within, claiming, now_window, before_window, interim_window}
use Rattle.fails.specs.declared.Recent.{Recent}
use Rattle.fails.specs.Recent.{no_rows, untagged_rows, rows_before, rows_now, recent_rows, recent_claims}
use Rattle.fails.proofs.Due.{due_each}

-- ---- another tracking code

pub rows_by_code : (tables limits : List ℕ) (day : ℕ) (t : Transfer) (tag : Tag) → (t.code ≡ 0 → ⊥) → no_rows ≡ recent_rows tables limits day t tag
unfolding recent_rows
rows_by_code tables limits day t tag h = rw (ne_eqb t.code 0 h) refl

-- ---- the claims

-- What rows say of a transfer where its claims are on them: these ask no more than is there.
pub record Recently (calendar tables limits : List ℕ) (day number : ℕ) (t : Transfer) (tag : Tag) (rows : Recent) : Type 0 where
  pub claims : transfer_claims calendar tables limits day number t tag ≡ recent_claims calendar tables day number t rows
  pub order : rows.first ≤ rows.end
  pub few : rows.end ≤ 16
  pub asks : t.sender < 16 → Claiming tables t

module _ (calendar tables limits : List ℕ) (day number : ℕ) (t : Transfer) (sound : good_tables calendar tables ≡ true) (held : t.security < 16) where
  other_code : (tag : Tag) → (t.code ≡ 0 → ⊥) → Recently calendar tables limits day number t tag no_rows
  unfolding recent_claims each
  other_code tag h =
      record {
        claims = none_by_code calendar tables day number t limits tag h;
        order = omega arith;
        few = omega arith;
        asks = claiming calendar tables day t sound held;
      }

  module _ (tag : Tag) where
    abbrev rows : List Row
    rows = rows_of (security_of tables t.security)

    abbrev reached : ℕ
    reached = reached_rows tables t.security day

    abbrev claim : ℕ → Row → Claim
    claim = claimed calendar tables day number t

    -- the fail claims
    abbrev failed : List Claim
    failed = cond (tagged tag) (map (claim fail_type) (eligible tables limits day t tag)) []

    -- rows from a first one on, up to the end of the interim ones
    abbrev window : ℕ → ℕ → ℕ → Recent
    window after first waiting =
        record { after = after; first = first; reached = reached; end = interim_end tables t.security day; waiting = waiting }

    -- such rows hold the claims where they hold the fail claims
    on_window : t.code ≡ 0 → (after first waiting : ℕ) → first ≤ reached
        → failed ≡ map (claim fail_type) (select (is_kept_by after waiting day) (take (reached - first) (drop first rows)))
        → Recently calendar tables limits day number t tag (window after first waiting)
    on_window z after first waiting h e =
        let ends = reached_end calendar tables day t in
        record {
          claims = claims_by_rows calendar tables day number t limits tag z
              ∙ ap₂ (λ (x y : List Claim). x ++ y) e (ap (map (claim interim_type)) (interim_window calendar tables day t sound held))
              ∙ due_each calendar tables day number t (window after first waiting) h ends.0 ends.1;
          order = omega (arith, h, ends.0);
          few = ends.1;
          asks = claiming calendar tables day t sound held;
        }

    -- without a tag the rows up to the reached ones are none
    no_tag : t.code ≡ 0 → tagged tag ≡ false → Recently calendar tables limits day number t tag (untagged_rows tables day t)
    unfolding untagged_rows select
    no_tag z u =
        let none : 0 ≡ reached - reached = omega arith in
        on_window z 0 reached reached (le_refl _)
        (rw u (ap (λ (n : ℕ). map (claim fail_type) (select (is_kept_by 0 reached day) (take n (drop reached rows)))) none))

    -- the eligible rows by the rule of the day
    by_rule : (b : Bool) → before_memo day ≡ b → tagged tag ≡ true
        → failed ≡ map (claim fail_type) (cond b (eligible_before (type_of (security_of tables t.security)) (contract_date tag) day (filled_rows tables t.security))
        (eligible_now tables limits t.security (contract_date tag) day))
    unfolding eligible
    by_rule b d u = rw (u, d) refl

    with_tag : t.code ≡ 0 → tagged tag ≡ true → (b : Bool) → before_memo day ≡ b
        → Recently calendar tables limits day number t tag
        (cond b (rows_before tables day t (contract_date tag)) (rows_now tables limits day t (contract_date tag)))
    unfolding rows_before rows_now
    with_tag z u true d =
        on_window z _ (first_before tables t.security day) _ (first_within tables t.security day)
        (by_rule true d u ∙ ap (map (claim fail_type)) (before_window calendar tables day t sound held (contract_date tag)))
    with_tag z u false d =
        on_window z _ (reached - maximum_of tables limits t.security) _ (omega arith)
        (by_rule false d u ∙ ap (map (claim fail_type)) (now_window calendar tables day t sound held limits (contract_date tag)))

    code_zero : t.code ≡ 0 → Recently calendar tables limits day number t tag (recent_rows tables limits day t tag)
    unfolding recent_rows
    code_zero z = rw (eq-eqb t.code 0 z) (go (tagged tag) refl)
      where
        go : (b : Bool) → tagged tag ≡ b
            → Recently calendar tables limits day number t tag
            (cond b (cond (before_memo day) (rows_before tables day t (contract_date tag)) (rows_now tables limits day t (contract_date tag))) (untagged_rows tables day t))
        go true u = with_tag z u (before_memo day) refl
        go false u = no_tag z u

    pub recently : Recently calendar tables limits day number t tag (recent_rows tables limits day t tag)
    recently = go (eqb t.code 0) refl
      where
        go : (b : Bool) → eqb t.code 0 ≡ b → Recently calendar tables limits day number t tag (recent_rows tables limits day t tag)
        go true e = code_zero (eqb-true t.code 0 e)
        go false e =
            let h = eqb-false t.code 0 e in
            subst (Recently calendar tables limits day number t tag) (rows_by_code tables limits day t tag h) (other_code tag h)
