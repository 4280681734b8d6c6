-- Lists of calls: one behind another is one list, and a list of calls on a sound book leaves a sound book.
use mathlib.Core.Path.{◌≡◌, refl, ap}
use mathlib.Core.List.{List, [], ◌∷◌, ◌++◌}
use Prim.Native.Nat.{ℕ}
use Rattle.lists.specs.First.{first_of}
use Rattle.book.specs.declared.Book.{Book}
use Rattle.book.specs.Soundness.{book_causes}
use Rattle.history.specs.Calls.{Call}
use Rattle.history.specs.Results.{Result, Run, result, run_by, run, followed_by}
use Rattle.history.proofs.StaysSound.{result_sound}

pub run_append : (gives : Book → List ℕ → Call → Result) (book : Book) (balances : List ℕ) (first next : List Call)
    → run_by gives book balances (first ++ next)
    ≡ followed_by (run_by gives book balances first) (run_by gives (run_by gives book balances first).book (run_by gives book balances first).balances next)
unfolding run_by followed_by
run_append gives book balances [] next = refl
run_append gives book balances (call ∷ first) next =
    let now = gives book balances call in
    ap (λ (rest : Run). record { answers = now.answer ∷ rest.answers; book = rest.book; balances = rest.balances })
    (run_append gives now.answer.book now.balances first next)

pub run_sound : (calendar tables : List ℕ) (calls : List Call) (book : Book) (balances : List ℕ)
    → first_of (book_causes calendar tables book.day balances) ≡ 0
    → (let r = run calendar tables book balances calls in
    first_of (book_causes calendar tables r.book.day r.balances) ≡ 0)
unfolding run_by
run_sound calendar tables [] book balances z = z
run_sound calendar tables (call ∷ calls) book balances z =
    let now = result calendar tables book balances call in
    run_sound calendar tables calls now.answer.book now.balances (result_sound calendar tables book balances z call)
