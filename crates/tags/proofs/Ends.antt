-- The first } of a line from a place on: the laws for a loop that looks for it, and what its place says in other words.
use mathlib.Core.Path.{◌≡◌, refl, sym, ap, ◌∙◌}
use mathlib.Core.Bool.{Bool, true, false, cond}
use mathlib.Core.List.{List, [], ◌∷◌}
use Prim.Native.Nat.{ℕ, zero, suc, ◌+◌, ◌-◌, ◌≤◌, ◌<◌}
use native.Mathlib.Numerals.{add-one}
use native.Mathlib.Omega.{arith}
use lib.Dec.{eqb}
use lib.ListN.{length, drop, get_or, length-drop, drop_of_length-le}
use lib.Seq.{drop-cons, get_or-drop}
use borrow.Author.Tests.{ne_eqb, eqb-true, eqb-false}
use Rattle.tags.specs.ContractDateTag.{end_in, end_from}

-- ---- from place i on, as a loop goes

module _ (line : List ℕ) (i : ℕ) where
  pub end_stop : i < length line → get_or line i 0 ≡ 125 → i ≡ end_from line i
  unfolding end_from end_in
  end_stop h e = rw (drop-cons line i 0, e)

  pub end_go : i < length line → (get_or line i 0 ≡ 125 → ⊥) → end_from line i ≡ end_from line (i + 1)
  unfolding end_from end_in
  end_go h n = rw (drop-cons line i 0, ne_eqb _ _ n, add-one)

  pub end_out : length line ≤ i → i ≡ end_from line i
  unfolding end_from end_in
  end_out h = rw (drop_of_length-le line {i = i} h)

-- ---- in other words

-- The first } from a place on stands at this place.
pub record EndAt (line : List ℕ) (from end : ℕ) : Type 0 where
  pub after : from ≤ end
  pub within : end < length line
  pub mark : get_or line end 0 ≡ 125
  pub first : (k : ℕ) → from ≤ k → k < end → get_or line k 0 ≡ 125 → ⊥

-- No } stands at a place or behind it.
abbrev pub NoEnd : List ℕ → ℕ → Type 0
NoEnd line from = (k : ℕ) → from ≤ k → k < length line → get_or line k 0 ≡ 125 → ⊥

-- What is known of the first } of bytes.
record Ended (i : ℕ) (bs : List ℕ) (end : ℕ) : Type 0 where
  after : i ≤ end
  within : end ≤ i + length bs
  mark : end < i + length bs → get_or bs (end - i) 0 ≡ 125
  first : (k : ℕ) → i + k < end → get_or bs k 0 ≡ 125 → ⊥

ended : (i : ℕ) (bs : List ℕ) → Ended i bs (end_in i bs)
unfolding end_in
ended i [] = record { after = omega arith; within = omega arith; mark = λ h. absurd (omega arith); first = λ k h. absurd (omega arith) }
ended i (b ∷ bs) = go (eqb b 125) refl (ended (suc i) bs)
  where
    go : (t : Bool) → eqb b 125 ≡ t → Ended (suc i) bs (end_in (suc i) bs) → Ended i (b ∷ bs) (cond t i (end_in (suc i) bs))
    go true e r = record {
      after = omega arith;
      within = omega arith;
      mark = λ h. (let z : i - i ≡ 0 = omega arith in rw z (eqb-true b 125 e));
      first = λ k h. absurd (omega arith);
    }
    go false e r = record {
      after = omega arith;
      within = omega arith;
      mark = λ h. (let z : end_in (suc i) bs - i ≡ suc (end_in (suc i) bs - suc i) = omega arith in rw z (r.mark (omega arith)));
      first = later;
    }
      where
        later : (k : ℕ) → i + k < end_in (suc i) bs → get_or (b ∷ bs) k 0 ≡ 125 → ⊥
        later zero h m = eqb-false b 125 e m
        later (suc k) h m = r.first k (omega arith) m

equal : (m n : ℕ) → (m < n → ⊥) → (n < m → ⊥) → m ≡ n
equal m n f g = omega arith

module _ (line : List ℕ) (from : ℕ) (h : from ≤ length line) where
  known : Ended from (drop from line) (end_from line from)
  unfolding end_from
  known = ended from (drop from line)

  pub end_after : from ≤ end_from line from
  end_after = known.after

  pub end_within : end_from line from ≤ length line
  end_within = omega (arith, known.within, length-drop from line)

  before : (k : ℕ) → from ≤ k → k < end_from line from → get_or line k 0 ≡ 125 → ⊥
  before k l m e =
      let z : from + (k - from) ≡ k = omega arith in
      known.first (k - from) (omega arith) (get_or-drop from line (k - from) 0 ∙ rw z e)

  pub end_at : end_from line from < length line → EndAt line from (end_from line from)
  end_at l =
      let a = end_after in
      let z : from + (end_from line from - from) ≡ end_from line from = omega arith in
      record {
        after = a;
        within = l;
        mark = ap (λ (k : ℕ). get_or line k 0) (sym z) ∙ sym (get_or-drop from line (end_from line from - from) 0)
            ∙ known.mark (omega (arith, length-drop from line));
        first = before;
      }

  pub end_none : length line ≤ end_from line from → NoEnd line from
  end_none l k m n = before k m (omega arith)

  -- and the other way
  pub at_end_lem : {end : ℕ} → EndAt line from end → end_from line from ≡ end
  at_end_lem {end} a =
      equal (end_from line from) end (λ l. a.first (end_from line from) end_after l (end_at (omega (arith, a.within))).mark)
      (λ l. before end a.after l a.mark)

  pub none_end : NoEnd line from → end_from line from ≡ length line
  none_end n =
      equal (end_from line from) (length line) (λ l. n (end_from line from) end_after l (end_at l).mark)
      (λ l. omega (arith, end_within))
