-- A refusal and its number: none has the number 0, and no two have one number.
use mathlib.Core.Path.{◌≡◌, refl, sym, ap, ◌∙◌}
use mathlib.Core.Bool.{true, false, cond, true≢false}
use mathlib.Core.List.{List, ◌++◌}
use Prim.Native.Nat.{ℕ, ◌<◌}
use native.Mathlib.Omega.{arith}
use lib.Dec.{eqb}
use Rattle.std.proofs.Common.{Result, Ok, Err}
use Rattle.std.specs.Result.{IsErrAnd, is_ok}
use Rattle.std.proofs.lemmas.Result.{err_from_is_err_and}
use Rattle.lists.specs.First.{Cause, first_of, numbered, first_group, next_group, none_applies}
use Rattle.records.specs.declared.Refusal.{Refusal}
use Rattle.records.specs.declared.Refusal.TheVariants as refusal
use Rattle.records.specs.Refusals.{refusal_number, judged_number}

-- the refusal with a number
unfoldable refusal_of : ℕ → Refusal
refusal_of n =
    (cond (eqb n 1) refusal.Length (cond (eqb n 2) refusal.Calendar (cond (eqb n 3) refusal.Tables (cond (eqb n 4) refusal.Book (cond (eqb n 5) refusal.Message (cond (eqb n 6) refusal.Field (cond (eqb n 7) refusal.Decrease (cond (eqb n 8) refusal.Increase (cond (eqb n 9) refusal.LastDay (cond (eqb n 10) refusal.Room (cond (eqb n 11) refusal.Count (cond (eqb n 12) refusal.Limits (cond (eqb n 13) refusal.Pieces (cond (eqb n 14) refusal.OffPiece (cond (eqb n 15) refusal.Early (cond (eqb n 16) refusal.Mark (cond (eqb n 17) refusal.Saved (cond (eqb n 18) refusal.Claims (cond (eqb n 19) refusal.Sum (cond (eqb n 132) refusal.SeveralTags (cond (eqb n 133) refusal.UnendedTag (cond (eqb n 135) refusal.TagNotDate (cond (eqb n 138) refusal.LaterDate refusal.OtherDate)))))))))))))))))))))))

by_number : (r : Refusal) → refusal_of (refusal_number r) ≡ r
unfolding refusal_of refusal_number
by_number refusal.Length = refl
by_number refusal.Calendar = refl
by_number refusal.Tables = refl
by_number refusal.Book = refl
by_number refusal.Message = refl
by_number refusal.Field = refl
by_number refusal.Decrease = refl
by_number refusal.Increase = refl
by_number refusal.LastDay = refl
by_number refusal.Room = refl
by_number refusal.Count = refl
by_number refusal.Limits = refl
by_number refusal.Pieces = refl
by_number refusal.OffPiece = refl
by_number refusal.Early = refl
by_number refusal.Mark = refl
by_number refusal.Saved = refl
by_number refusal.Claims = refl
by_number refusal.Sum = refl
by_number refusal.SeveralTags = refl
by_number refusal.UnendedTag = refl
by_number refusal.TagNotDate = refl
by_number refusal.LaterDate = refl
by_number refusal.OtherDate = refl

pub one_number : {r s : Refusal} → refusal_number r ≡ refusal_number s → r ≡ s
one_number {r} {s} e = sym (by_number r) ∙ ap refusal_of e ∙ by_number s

pub above_zero : (r : Refusal) → 0 < refusal_number r
unfolding refusal_number
above_zero refusal.Length = omega arith
above_zero refusal.Calendar = omega arith
above_zero refusal.Tables = omega arith
above_zero refusal.Book = omega arith
above_zero refusal.Message = omega arith
above_zero refusal.Field = omega arith
above_zero refusal.Decrease = omega arith
above_zero refusal.Increase = omega arith
above_zero refusal.LastDay = omega arith
above_zero refusal.Room = omega arith
above_zero refusal.Count = omega arith
above_zero refusal.Limits = omega arith
above_zero refusal.Pieces = omega arith
above_zero refusal.OffPiece = omega arith
above_zero refusal.Early = omega arith
above_zero refusal.Mark = omega arith
above_zero refusal.Saved = omega arith
above_zero refusal.Claims = omega arith
above_zero refusal.Sum = omega arith
above_zero refusal.SeveralTags = omega arith
above_zero refusal.UnendedTag = omega arith
above_zero refusal.TagNotDate = omega arith
above_zero refusal.LaterDate = omega arith
above_zero refusal.OtherDate = omega arith

-- what is refused has a number above 0, and what is not has 0
pub refused_number : (r : Refusal) → refusal_number r ≡ 0 → ⊥
refused_number r e = omega (arith, above_zero r)

pub judged_is : {A : Type 0} {n : ℕ} {r : Result A Refusal} {f : Refusal} → judged_number r ≡ n → r ≡ Err f → refusal_number f ≡ n
unfolding judged_number
judged_is e q = sym (ap judged_number q) ∙ e

pub judged_none : {A : Type 0} {n : ℕ} {r : Result A Refusal} {u : A} → judged_number r ≡ n → r ≡ Ok u → n ≡ 0
unfolding judged_number
judged_none e q = sym e ∙ ap judged_number q

-- what a judgement says of its number
pub failed : {A : Type 0} (r : Result A Refusal) → is_ok r ≡ false → judged_number r ≡ 0 → ⊥
unfolding judged_number
failed (Ok x) e z = true≢false e
failed (Err f) e z = refused_number f z

pub passed : {A : Type 0} (r : Result A Refusal) → is_ok r ≡ true → judged_number r ≡ 0
unfolding judged_number
passed (Ok x) e = refl
passed (Err f) e = absurd (true≢false (sym e))

-- ---- a judgement that `?` hands on, in a table of causes that goes on after those of the judgement

pub handed_on : {A B : Type 0} {r : Result A Refusal} {f : Refusal} (s : Result B Refusal) → r ≡ Err f → IsErrAnd s (λ y. y ≡ f)
    → judged_number s ≡ judged_number r
unfolding judged_number
handed_on s e h = let p = err_from_is_err_and s h in rw (p.1, p.2, e) refl

module _ {A : Type 0} {r : Result A Refusal} (xs ys : List Cause) where
  pub refused_first : {f : Refusal} → judged_number r ≡ first_of xs → r ≡ Err f → judged_number r ≡ first_of (xs ++ ys)
  refused_first {f} k e = k ∙ sym (first_group xs ys (λ z. refused_number f (judged_is (k ∙ z) e)))

  pub passed_first : {v : A} {n : ℕ} → numbered xs ≡ true → judged_number r ≡ first_of xs → r ≡ Ok v → n ≡ first_of ys
      → n ≡ first_of (xs ++ ys)
  passed_first t k e h = h ∙ sym (next_group xs ys (none_applies xs t (judged_none k e)))

pub room_number : refusal_number refusal.Room ≡ 10
unfolding refusal_number
room_number = refl
