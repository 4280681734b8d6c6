-- Crossed rows in other words: D < Record Date ≤ E; they rise in Record Date as the security's rows do; and the par of a lender and a
-- borrower among the balances.
use mathlib.Core.Path.{◌≡◌, ap, ◌∙◌}
use mathlib.Core.Logic.{◌↔◌}
use mathlib.Core.Bool.{true}
use mathlib.Core.List.{List}
use Prim.Native.Nat.{ℕ, ◌+◌, ◌*◌, ◌≤◌, ◌<◌}
use native.Mathlib.Omega.{arith}
use lib.Dec.{ltb}
use lib.ListN.{get_or, drop, take}
use lib.Seq.{get_or-take, get_or-drop}
use borrow.Author.Tests.{ltb-true, leb-true, lt-ltb, le-leb}
use Rattle.lists.specs.Tests.{and_left, and_right, and_both}
use Rattle.lists.specs.Select.{rising, rising_select}
use Rattle.securities.specs.Securities.{filled_rows}
use Rattle.securities.specs.declared.Row.{Row}
use Rattle.claims.specs.Close.{crosses, crossed, security_balances, lender_balances}

pub crosses_words : (day next : ℕ) (row : Row) → (crosses day next row ≡ true) ↔ ((day < row.record_date) × (row.record_date ≤ next))
unfolding crosses
crosses_words day next row = (
  λ e. (ltb-true day row.record_date (and_left _ _ e), leb-true row.record_date next (and_right (ltb day row.record_date) _ e)),
  λ h. and_both (lt-ltb day row.record_date h.0) (le-leb row.record_date next h.1),
)

-- they rise too: no row is crossed twice by one close
pub rising_crossed : (calendar tables : List ℕ) (day s : ℕ) → rising (λ row. row.record_date) (filled_rows tables s) ≡ true
    → rising (λ row. row.record_date) (crossed calendar tables day s) ≡ true
unfolding crossed
rising_crossed calendar tables day s e = rising_select _ _ (filled_rows tables s) e

-- the balance of a lender and a borrower in a security is the word 4096k + 256s + 16l + b
pub balance_word : (balances : List ℕ) (k s l b : ℕ) → l < 16 → b < 16
    → get_or (lender_balances (security_balances balances k s) l) b 0 ≡ get_or balances (4096 * k + 256 * s + 16 * l + b) 0
unfolding security_balances lender_balances
balance_word balances k s l b hl hb =
    let held = take 256 (drop (4096 * k + 256 * s) balances) in
    get_or-take 16 (drop (16 * l) held) b 0 hb ∙ get_or-drop (16 * l) held b 0
    ∙ get_or-take 256 (drop (4096 * k + 256 * s) balances) (16 * l + b) 0 (omega arith) ∙ get_or-drop (4096 * k + 256 * s) balances (16 * l + b) 0
    ∙ ap (λ (i : ℕ). get_or balances i 0) (omega arith)
