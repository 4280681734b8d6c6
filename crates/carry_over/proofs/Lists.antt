-- Every list of calls without repo codes on balances with repo empty runs as in the form with lending alone; so after an accepted move.
use mathlib.Core.Path.{◌≡◌, refl, sym, ap, ◌∙◌}
use mathlib.Core.List.{List, [], ◌∷◌}
use Prim.Native.Nat.{ℕ}
use lib.ListN.{length}
use Rattle.book.specs.declared.Book.{Book}
use Rattle.history.specs.Calls.{Call}
use Rattle.history.specs.Results.{Run, Opened, left_open, run_by, run_from}
use Rattle.history.proofs.ByValue.{runs_from}
use Rattle.carry_over.specs.CarriedOver.{carried}
use Rattle.carry_over.specs.LendingForm.{lending_result, lending_run}
use Rattle.carry_over.specs.Statement.{with_repo_empty, EveryLendingList, EveryLaterList, EveryLaterCall}
use Rattle.carry_over.proofs.Carried.{saved_words, number_is, carried_is}
use Rattle.carry_over.proofs.Widened.{emptied, result_widened, lending_words}

pub every_lending_list : EveryLendingList
unfolding run_by with_repo_empty emptied
every_lending_list calendar tables book balances e [] n = refl
every_lending_list calendar tables book balances e (call ∷ calls) n =
    let now = lending_result calendar tables book balances call in
    rw (result_widened calendar tables book balances e call n.0)
    (ap (λ (rest : Run). record { answers = now.answer ∷ rest.answers; book = rest.book; balances = rest.balances })
    (every_lending_list calendar tables now.answer.book now.balances (lending_words calendar tables book balances e call) calls n.1))

-- the form with lending alone keeps its 4,096 balances
pub run_words : (calendar tables : List ℕ) (calls : List Call) (book : Book) (balances : List ℕ) → length balances ≡ 4096
    → length (lending_run calendar tables book balances calls).balances ≡ 4096
unfolding run_by
run_words calendar tables [] book balances e = e
run_words calendar tables (call ∷ calls) book balances e =
    let now = lending_result calendar tables book balances call in
    run_words calendar tables calls now.answer.book now.balances (lending_words calendar tables book balances e call)

pub every_later_list : EveryLaterList
unfolding run_from
every_later_list calendar book saved balances z later tables calls n =
    ap (λ (o : Opened). run_from later tables o calls) (carried_is calendar book saved balances z)
    ∙ every_lending_list later tables book saved (saved_words calendar book saved balances (sym (number_is calendar book saved balances) ∙ z)) calls n

pub every_later_call : EveryLaterCall
unfolding left_open
every_later_call calendar book saved balances moved filled e z later tables calls steps n all =
    runs_from later tables moved filled (carried calendar book saved balances) calls steps all e
    ∙ every_later_list calendar book saved balances (sym (ap (λ (o : Opened). o.number) e) ∙ z) later tables calls n
