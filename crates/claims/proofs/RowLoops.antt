-- The searches over a security's rows: for the first that the day has not reached, and for the first that waits.
use mathlib.Core.Path.{◌≡◌, refl, sym, ◌∙◌, subst}
use mathlib.Core.Bool.{true, false, cond}
use mathlib.Core.List.{List, []}
use Prim.Native.Nat.{ℕ, zero, suc, ◌+◌, ◌-◌, ◌≤◌, ◌<◌}
use native.Mathlib.Nat.{add-zero, add-suc}
use native.Mathlib.Numerals.{add-one}
use native.Mathlib.Omega.{arith}
use lib.ListN.{drop, drop_of_length-le}
use lib.Seq.{drop-cons}
use Rattle.lists.specs.Select.{first_key}
use Rattle.securities.specs.Securities.{security_of, type_of, rows_of}
use Rattle.records.specs.declared.Transfer.{Transfer}
use Rattle.std.proofs.Common.{Option, Some, None, MatchOption, unwrap_or}
use Rattle.claims.specs.Fails.{is_mbs}
use Rattle.claims.specs.Claimable.{Claimable}
use Rattle.claims.specs.Reached.{Claiming, row_at, leading, is_reached, reached_from, reached_rows, is_waiting, waiting_from, waiting_row}
use Rattle.claims.proofs.TableRows.{rows_of_at, row_number, length_rows_of}

-- ---- one row after the other

-- what holds at a first number, and is kept by each from there up to an end, holds at the end
walked : (P : ℕ → Type 0) (first end : ℕ) → first ≤ end → P first → ((k : ℕ) → first ≤ k → k < end → P k → P (k + 1)) → P end
walked P first end h p step =
    let e : first + (end - first) ≡ end = omega arith in
    subst P e (go (end - first) (omega arith))
  where
    go : (n : ℕ) → first + n ≤ end → P (first + n)
    go zero l = rw add-zero p
    go (suc n) l = rw (add-suc, ← add-one) (step (first + n) (omega arith) (omega (arith, add-suc first n)) (go n (omega (arith, add-suc first n))))

-- ---- the rows that the day has reached

-- what the loop keeps: the rows from the first one up to i are reached, those from i on decide
pub record Reaching (column : ℕ) (tables : List ℕ) (s day first i : ℕ) : Type 0 where
  pub small : i ≤ 16
  pub rest : reached_from column tables s day first ≡ i + leading (is_reached column day) (drop i (rows_of (security_of tables s)))

pub reach_start : (column : ℕ) (tables : List ℕ) (s day first : ℕ) → first ≤ 16 → Reaching column tables s day first first
unfolding reached_from
reach_start column tables s day first h = record { small = h; rest = refl }

module _ {column : ℕ} {tables : List ℕ} {s day first i : ℕ} (k : Reaching column tables s day first i) (h : i < 16) where
  leading_here : leading (is_reached column day) (drop i (rows_of (security_of tables s)))
      ≡ cond (is_reached column day (row_at tables s i)) (suc (leading (is_reached column day) (drop (suc i) (rows_of (security_of tables s))))) 0
  unfolding leading
  leading_here =
      let rows = rows_of (security_of tables s) in
      let here = row_at tables s i in
      rw (drop-cons rows i here (omega (arith, length_rows_of tables s)), rows_of_at tables s i here h)

  reach_stop : is_reached column day (row_at tables s i) ≡ false → i ≡ reached_from column tables s day first
  reach_stop e = sym (k.rest ∙ rw (leading_here, e) (add-zero i))

  pub reach_next : is_reached column day (row_at tables s i) ≡ true → Reaching column tables s day first (i + 1)
  reach_next e = record { small = omega arith; rest = k.rest ∙ rw (leading_here, e, add-one) (omega arith) }

pub reach_end : {column : ℕ} {tables : List ℕ} {s day first i : ℕ} → Reaching column tables s day first i → 16 ≤ i
    → i ≡ reached_from column tables s day first
unfolding leading
reach_end {column} {tables} {s} {day} {first} {i} k h =
    let none : drop i (rows_of (security_of tables s)) ≡ [] = drop_of_length-le _ {i = i} (omega (arith, length_rows_of tables s)) in
    sym (k.rest ∙ rw none (add-zero i))

-- the first row from a first one on that is not reached, if there is one
pub reach_found : (column : ℕ) (tables : List ℕ) (s day first : ℕ) (r : Option ℕ) → first ≤ 16
    → MatchOption r ((k : ℕ) → first ≤ k → k < 16 → is_reached column day (row_at tables s k) ≡ true)
    (λ i. (first ≤ i) × (i < 16) × (is_reached column day (row_at tables s i) ≡ false)
    × ((k : ℕ) → first ≤ k → k < i → is_reached column day (row_at tables s k) ≡ true))
    → unwrap_or r 16 ≡ reached_from column tables s day first
reach_found column tables s day first None h e =
    reach_end (walked (Reaching column tables s day first) first 16 h (reach_start column tables s day first h) (λ k f l p. reach_next p l (e k f l))) (omega arith)
reach_found column tables s day first (Some i) h e =
    reach_stop (walked (Reaching column tables s day first) first i e.0 (reach_start column tables s day first h)
    (λ k f l p. reach_next p (omega arith) (e.3 k f l))) e.1 e.2

-- ---- the first row that waits

module _ (tables : List ℕ) (s contract day : ℕ) where
  -- what the loop keeps: of the rows from the first one up to i none waits, those from i on decide
  pub record Seeking (end first i : ℕ) : Type 0 where
    pub within : i ≤ end
    pub few : end ≤ 16
    pub rest : waiting_from tables s contract day end first ≡ waiting_from tables s contract day end i

  pub seek_start : (end first : ℕ) → first ≤ end → end ≤ 16 → Seeking end first first
  seek_start end first h k = record { within = h; few = k; rest = refl }

  module _ {end first i : ℕ} (k : Seeking end first i) (h : i < end) where
    waiting_here : waiting_from tables s contract day end i
        ≡ cond (is_waiting contract day (row_at tables s i)) i (waiting_from tables s contract day end (i + 1))
    unfolding waiting_from first_key
    waiting_here =
        let rows = rows_of (security_of tables s) in
        let here = row_at tables s i in
        let n : end - i ≡ suc (end - (i + 1)) = omega arith in
        let small : i < 16 = omega (arith, k.few) in
        rw (n, drop-cons rows i here (omega (arith, length_rows_of tables s)), rows_of_at tables s i here small, row_number tables s i, add-one)

    pub seek_found : is_waiting contract day (row_at tables s i) ≡ true → i ≡ waiting_from tables s contract day end first
    seek_found q = sym (k.rest ∙ waiting_here ∙ rw q)

    pub seek_next : is_waiting contract day (row_at tables s i) ≡ false → Seeking end first (i + 1)
    seek_next q = record { within = omega arith; few = k.few; rest = k.rest ∙ waiting_here ∙ rw q }

  none_from : (n : ℕ) → waiting_from tables s contract day n n ≡ n
  unfolding waiting_from first_key
  none_from n = let z : n - n ≡ 0 = omega arith in rw z

  pub seek_end : {end first i : ℕ} → Seeking end first i → end ≤ i → end ≡ waiting_from tables s contract day end first
  seek_end {end} {first} {i} k h =
      let e : i ≡ end = omega (arith, k.within) in
      sym (k.rest ∙ rw e (none_from end))

  -- the first row from a first one up to an end that waits, if there is one
  pub seek_first : (end first : ℕ) (r : Option ℕ) → first ≤ end → end ≤ 16
      → MatchOption r ((k : ℕ) → first ≤ k → k < end → is_waiting contract day (row_at tables s k) ≡ false)
      (λ i. (first ≤ i) × (i < end) × (is_waiting contract day (row_at tables s i) ≡ true)
      × ((k : ℕ) → first ≤ k → k < i → is_waiting contract day (row_at tables s k) ≡ false))
      → unwrap_or r end ≡ waiting_from tables s contract day end first
  seek_first end first None h f e =
      seek_end (walked (Seeking end first) first end h (seek_start end first h f) (λ k a l p. seek_next p l (e k a l))) (omega arith)
  seek_first end first (Some i) h f e =
      seek_found (walked (Seeking end first) first i e.0 (seek_start end first h f)
      (λ k a l p. seek_next p (omega arith) (e.3 k a l))) e.1 e.2

  module _ {n : ℕ} (first : ℕ) (e : n ≡ reached_rows tables s day) where
    pub waiting_other : is_mbs (type_of (security_of tables s)) ≡ false → n ≡ waiting_row tables s contract day first
    unfolding waiting_row
    waiting_other q = rw q e

    pub waiting_mbs : {m : ℕ} → is_mbs (type_of (security_of tables s)) ≡ true → m ≡ waiting_from tables s contract day n first
        → m ≡ waiting_row tables s contract day first
    unfolding waiting_row
    waiting_mbs q o = rw (q, ← e) o

-- ---- what a claim asks, of a transfer that claims

pub claimable : {tables : List ℕ} {t : Transfer} (i : ℕ) {par : ℕ} → Claiming tables t → i < 16 → t.par ≤ 9000000000 → par ≡ t.par
    → Claimable (record { security = t.security; payee = t.receiver; payer = t.sender }) par (row_at tables t.security i)
claimable i f k h e =
    record { held = f.held; paying = f.paying; small = omega arith; interest = f.interest i k; principal = f.principal i k }
