-- The program's loop: a turn reads behind the bytes not worked yet and takes one step more.
use mathlib.Core.Path.{◌≡◌, refl, sym, ap, ◌∙◌, subst}
use mathlib.Core.Bool.{false}
use mathlib.Core.List.{List, [], ◌∷◌, ◌++◌}
use Prim.Native.Nat.{ℕ, ◌+◌, ◌≤◌}
use native.Mathlib.Omega.{arith}
use lib.ListN.{length, take, drop, length-drop}
use lib.Seq.{take-add, length-take-le}
use Rattle.program.specs.declared.Held.{Held}
use Rattle.program.specs.Steps.{Beginning, left_beginning, Holding, holding, pending, stepped}
use Rattle.program.specs.Statement.{Taken, Keeps, AllKeep, at_first, at_last, Ran, RanBook}

-- one step behind others
keep_more : (calendar tables : List ℕ) (xs : List Taken) (h : Holding) (x : Taken) → AllKeep calendar tables h xs → Keeps calendar tables (at_last h xs) x
    → AllKeep calendar tables h (xs ++ (x ∷ []))
unfolding at_last
keep_more calendar tables [] h x k e = (e, tt)
keep_more calendar tables (y ∷ xs) h x (k, ks) e = (k, keep_more calendar tables xs y.after x ks e)

last_more : (xs : List Taken) (h : Holding) (x : Taken) → at_last h (xs ++ (x ∷ [])) ≡ x.after
unfolding at_last
last_more [] h x = refl
last_more (y ∷ xs) h x = last_more xs y.after x

pub ran_first : (calendar tables : List ℕ) (held : Held) (balances input output : List ℕ)
    → Ran calendar tables (holding held balances input output) held balances input
unfolding at_last holding pending
ran_first calendar tables held balances input output =
    record { steps = []; keep = tt; held_is = refl; balances_are = refl; pending_is = refl }

-- a read leaves the bytes not worked yet
pub ran_read : {calendar tables : List ℕ} {first : Holding} {held : Held} {balances input : List ℕ} (input' : List ℕ)
    → Ran calendar tables first held balances input → take held.left input' ≡ take held.left input → Ran calendar tables first held balances input'
ran_read input' r e =
    record { steps = r.steps; keep = r.keep; held_is = r.held_is; balances_are = r.balances_are; pending_is = r.pending_is ∙ sym e }

-- a step on what was read
module _ {calendar tables : List ℕ} {first : Holding} {held : Held} {balances input : List ℕ} (r : Ran calendar tables first held balances input)
    (n : ℕ) (fits : held.left + n ≤ length input) (asked : held.asks ≡ false → n ≡ 0) (output : List ℕ) (next : Held)
    (balances' input' output' : List ℕ)
    (e : holding next balances' input' output' ≡ stepped calendar tables (holding held balances input output) n) where
  taken : Taken
  taken = record { read = take n (drop held.left input); input = input; output = output; after = holding next balances' input' output' }

  read_length : length (take n (drop held.left input)) ≡ n
  read_length = length-take-le n (drop held.left input) (omega (arith, length-drop held.left input))

  taken_keeps : Keeps calendar tables (at_last first r.steps) taken
  unfolding taken
  taken_keeps =
      record {
        asked = λ q. ap (λ (k : ℕ). take k (drop held.left input)) (asked (sym (ap (λ (x : Held). x.asks) r.held_is) ∙ q));
        inside = omega (arith, fits, read_length, ap (λ (x : Held). x.left) r.held_is);
        behind = (λ i. take ((r.held_is i).left + read_length i) input)
            ∙ take-add held.left n input ∙ ap (λ (l : List ℕ). l ++ take n (drop held.left input)) (sym r.pending_is);
        kept = e ∙ (λ i. stepped calendar tables (holding (sym r.held_is i) (sym r.balances_are i) input output) (sym read_length i));
      }

  pub ran_step : Ran calendar tables first next balances' input'
  unfolding holding pending taken
  ran_step =
      let l = last_more r.steps first taken in
      record {
        steps = r.steps ++ (taken ∷ []);
        keep = keep_more calendar tables r.steps first taken r.keep taken_keeps;
        held_is = ap (λ (h : Holding). h.held) l;
        balances_are = ap (λ (h : Holding). h.balances) l;
        pending_is = ap pending l;
      }

-- ---- from the beginning on

pub ran_book : (b : Beginning) (first : Held) (calendar tables balances₀ output₀ : List ℕ)
    → left_beginning first calendar tables balances₀ output₀ ≡ b → (input : List ℕ) (held : Held) (balances input' : List ℕ)
    → Ran calendar tables (holding first balances₀ input output₀) held balances input' → RanBook b input held balances input'
unfolding left_beginning at_first
ran_book b first calendar tables balances₀ output₀ e input held balances input' r =
    subst (λ (x : Beginning). RanBook x input held balances input') e r
