-- A run works no more than its input and writes no more than its output.
use mathlib.Core.Path.{◌≡◌, refl, ap}
use mathlib.Core.Bool.{Bool, true, false, cond}
use mathlib.Core.List.{List, []}
use Prim.Native.Nat.{ℕ, zero, suc, ◌-◌, ◌≤◌}
use native.Mathlib.Omega.{arith}
use lib.Dec.{ltb}
use lib.ListN.{length, take, drop, length-append}
use borrow.Author.Tests.{ltb-false}
use Rattle.lists.specs.First.{first_of}
use Rattle.book.specs.declared.Book.{Book}
use Rattle.book.specs.Soundness.{book_causes}
use Rattle.history.specs.Results.{result}
use Rattle.stream.specs.declared.Next.{Next}
use Rattle.stream.specs.declared.Next.TheVariants.{Waiting, Wrong, Record}
use Rattle.stream.specs.declared.Served.{Served}
use Rattle.stream.specs.Stream.{next, on_next, call_for, emitted}
use Rattle.stream.specs.Serving.{stopped, ended_by_five, after, serve_up_to, serving, Leaves, leaves_for, left_served, leaves}
use Rattle.stream.proofs.Records.{answer_length}
use Rattle.stream.proofs.Runs.{emitted_small}
use Rattle.stream.proofs.Cuts as cuts

module _ (calendar tables : List ℕ) (ended : Bool) where
  bytes_fit : (n : ℕ) (book : Book) (balances input : List ℕ) (room : ℕ)
      → length (serve_up_to n calendar tables ended book balances input room).bytes ≤ room
  unfolding serve_up_to stopped ended_by_five after on_next
  bytes_fit zero book balances input room = omega arith
  bytes_fit (suc n) book balances input room = go (ltb room 65542) refl (next ended input) (λ (b : Book) (l s : List ℕ) (m : ℕ). bytes_fit n b l s m)
    where
      go : (b : Bool) → ltb room 65542 ≡ b → (x : Next)
          → ((b : Book) (l s : List ℕ) (m : ℕ) → length (serve_up_to n calendar tables ended b l s m).bytes ≤ m)
          → length
          (cond b (stopped book balances)
          (on_next x (stopped book balances) (ended_by_five book balances) (λ k.
          after k (emitted (result calendar tables book balances (call_for (take k input))).answer)
          (serve_up_to n calendar tables ended (result calendar tables book balances (call_for (take k input))).answer.book
          (result calendar tables book balances (call_for (take k input))).balances (drop k input)
          (room - length (emitted (result calendar tables book balances (call_for (take k input))).answer)))))).bytes
          ≤ room
      go true q x rest = omega arith
      go false q Waiting rest = omega arith
      go false q Wrong rest = omega (arith, ltb-false room 65542 q, answer_length 5)
      go false q (Record k) rest =
          let r = result calendar tables book balances (call_for (take k input)) in
          let t = serve_up_to n calendar tables ended r.answer.book r.balances (drop k input) (room - length (emitted r.answer)) in
          omega (
            arith,
            ltb-false room 65542 q,
            emitted_small calendar tables book balances (take k input),
            length-append (emitted r.answer) t.bytes,
            rest r.answer.book r.balances (drop k input) (room - length (emitted r.answer)),
          )

  module _ (book : Book) (balances input output : List ℕ) where
    leaves_inside : (n : ℕ) → ((leaves_for n book balances output (serving calendar tables ended book balances input (length output))).consumed ≤ length input)
        × ((leaves_for n book balances output (serving calendar tables ended book balances input (length output))).written ≤ length output)
    unfolding leaves_for serving
    leaves_inside zero =
        ((cuts.begun calendar tables ended [] (λ q. refl) (length input) book balances input (length output)).inside, bytes_fit (length input) book balances input (length output))
    leaves_inside (suc n) = (omega arith, omega arith)

    pub served_inside : (b o : List ℕ) (r : Served) → left_served r b o ≡ leaves calendar tables ended book balances input output
        → (r.consumed ≤ length input) × (r.written ≤ length output)
    unfolding leaves left_served
    served_inside b o r e =
        let k = leaves_inside (first_of (book_causes calendar tables book.day balances)) in
        (omega (arith, k.0, ap (λ (x : Leaves). x.consumed) e), omega (arith, k.1, ap (λ (x : Leaves). x.written) e))
