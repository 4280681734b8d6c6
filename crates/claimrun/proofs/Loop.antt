-- What the loop keeps from turn to turn: what it holds is what the steps left, and the counts lie within the buffers.
use mathlib.Core.Path.{◌≡◌, refl, ◌∙◌}
use mathlib.Core.Bool.{false}
use mathlib.Core.List.{List, ◌++◌}
use Prim.Native.Nat.{ℕ, ◌+◌, ◌-◌, ◌≤◌}
use native.Mathlib.Omega.{arith}
use lib.ListN.{length, take, drop, length-append, length-drop}
use lib.Seq.{take_at, length-take-le}
use Rattle.program.specs.declared.Held.{Held}
use Rattle.program.specs.Steps.{Holding, holding, stepped}
use Rattle.program.specs.Statement.{Ran}
use Rattle.program.proofs.Coded.{step_bounds}
use Rattle.program.proofs.Loop.{ran_first, ran_read, ran_step}

pub record Looping (calendar tables : List ℕ) (first : Holding) (balances₀ input₀ output₀ balances input output : List ℕ) (held : Held) : Type 0 where
  pub ran : Ran calendar tables first held balances input
  pub left_inside : held.left ≤ length input
  pub written_inside : held.written ≤ length output
  pub words : length balances ≡ length balances₀
  pub given : length input ≡ length input₀
  pub sized : length output ≡ length output₀

module _ {calendar tables : List ℕ} {first : Holding} {balances₀ input₀ output₀ balances input output : List ℕ} {held : Held}
    (g : Looping calendar tables first balances₀ input₀ output₀ balances input output held) where
  -- a read into the input from the bytes not worked yet on leaves those
  read_leaves : (part : List ℕ)
      → take held.left (take held.left input ++ (part ++ drop (length input - held.left) (drop held.left input))) ≡ take held.left input
  read_leaves part = take_at (take held.left input) _ held.left (length-take-le held.left input g.left_inside)

  pub looping_read : (part : List ℕ) → length part ≡ length input - held.left
      → Looping calendar tables first balances₀ input₀ output₀ balances
      (take held.left input ++ (part ++ drop (length input - held.left) (drop held.left input))) output held
  looping_read part e =
      let sized : length (take held.left input ++ (part ++ drop (length input - held.left) (drop held.left input))) ≡ length input =
      simp (length-append, length-take-le held.left input g.left_inside, length-drop) (omega (arith, e, g.left_inside)) in
      record {
        ran = ran_read _ g.ran (read_leaves part);
        left_inside = omega (arith, sized, g.left_inside);
        written_inside = g.written_inside;
        words = g.words;
        given = sized ∙ g.given;
        sized = g.sized;
      }

  pub looping_step : (n : ℕ) → held.left + n ≤ length input → (held.asks ≡ false → n ≡ 0) → (next : Held) (balances' input' output' : List ℕ)
      → holding next balances' input' output' ≡ stepped calendar tables (holding held balances input output) n
      → length balances' ≡ length balances → length input' ≡ length input → length output' ≡ length output
      → Looping calendar tables first balances₀ input₀ output₀ balances' input' output' next
  looping_step n h a next balances' input' output' e b i o =
      let k = step_bounds calendar tables held balances input output n next balances' input' output' e h i o in
      record {
        ran = ran_step g.ran n h a output next balances' input' output' e;
        left_inside = k.0;
        written_inside = k.1;
        words = b ∙ g.words;
        given = i ∙ g.given;
        sized = o ∙ g.sized;
      }

pub looping_first : (calendar tables : List ℕ) (held : Held) (balances input output : List ℕ) → held.left ≤ length input → held.written ≤ length output
    → Looping calendar tables (holding held balances input output) balances input output balances input output held
looping_first calendar tables held balances input output l w =
    record {
      ran = ran_first calendar tables held balances input output;
      left_inside = l;
      written_inside = w;
      words = refl;
      given = refl;
      sized = refl;
    }
