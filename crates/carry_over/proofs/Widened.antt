-- On balances with repo empty the rules give what they give with lending alone: each claim, each cause and each posting is compared.
use mathlib.Core.Path.{◌≡◌, refl, sym, ap, ap₂, ◌∙◌}
use mathlib.Core.Bool.{Bool, true, false, cond, ◌&&◌, ◌||◌, true≢false}
use mathlib.Core.List.{List, [], ◌∷◌, ◌++◌, append-nil}
use Prim.Native.Nat.{ℕ, zero, suc, ◌+◌, ◌*◌, ◌≤◌, ◌<◌}
use native.Mathlib.Omega.{arith}
use lib.Dec.{ltb, leb}
use lib.ListN.{length, drop, replicate, length-drop, get_or-eq_default}
use lib.Seq.{take-append-le, drop-append-le}
use borrow.Author.Tests.{ltb-true, ltb-false, leb-false, lt-ltb, le-ltb, le-leb}
use Rattle.lists.specs.First.{first_of, with_test}
use Rattle.lists.specs.Tabulate.{each, each_of}
use Rattle.records.specs.declared.Transfer.{Transfer}
use Rattle.records.specs.MessageRecords.{transfer_of}
use Rattle.securities.specs.declared.Row.{Row}
use Rattle.claims.specs.Amounts.{lending_type}
use Rattle.claims.specs.Close.{crossed, tracking_type, security_balances, tracking_claims, row_claims, close_claims}
use Rattle.claims.proofs.Crossed.{balance_word}
use Rattle.claims.proofs.Turns.{loan_none}
use Rattle.book.specs.declared.Book.{Book}
use Rattle.book.specs.declared.Position.{Position}
use Rattle.book.specs.Book.{word}
use Rattle.book.specs.declared.Change.{Change}
use Rattle.book.specs.declared.Change.TheVariants.{Unchanged as unchanged, Increase as increase, Decrease as decrease}
use Rattle.book.specs.Loans.{tracking_of, step_of, increasing, decreasing, by_sender, by_receiver, change_of, changed, above_balance, past_limit, clears_balance, off_piece}
use Rattle.book.specs.Soundness.{wrong_length}
use Rattle.book.proofs.Posted.{posted_length}
use Rattle.history.specs.Calls.{TransferArguments, Call, transfer, close, buffer_of, claims_of}
use Rattle.history.specs.Causes.{out_of_range, causes, number_for}
use Rattle.history.specs.Results.{Result, next_balances, result_with, result_for, result}
use Rattle.history.proofs.Opened.{opened_causes}
use Rattle.history.proofs.Accepted.{fields, Taken, taken}
use Rattle.carry_over.specs.CarriedOver.{widened}
use Rattle.carry_over.specs.LendingForm.{lending_claims, lending_claims_of, lending_out_of_range, lending_causes, lending_number, lending_result}
use Rattle.carry_over.specs.Statement.{is_repo}
use Rattle.carry_over.proofs.Zeros.{word_widened, balance_widened, length_widened, set_widened, bad_widened}

-- ---- runs for each place that are the same, or none

each_same : {A : Type 0} (n : ℕ) (f g : ℕ → List A) → ((i : ℕ) → i < n → f i ≡ g i) → each n f ≡ each n g
unfolding each
each_same zero f g h = refl
each_same (suc n) f g h = ap₂ (λ (a b : List _). a ++ b) (each_same n f g (λ i k. h i (omega arith))) (h n (omega arith))

each_none : {A : Type 0} (n : ℕ) (f : ℕ → List A) → ((i : ℕ) → i < n → f i ≡ []) → each n f ≡ []
unfolding each
each_none zero f h = refl
each_none (suc n) f h = ap₂ (λ (a b : List _). a ++ b) (each_none n f (λ i k. h i (omega arith))) (h n (omega arith))

each_of_same : {A B : Type 0} (f g : A → List B) (xs : List A) → ((x : A) → f x ≡ g x) → each_of xs f ≡ each_of xs g
unfolding each_of
each_of_same f g [] h = refl
each_of_same f g (x ∷ xs) h = ap₂ (λ (a b : List _). a ++ b) (h x) (each_of_same f g xs h)

-- ---- the claims

module _ (balances : List ℕ) (e : length balances ≡ 4096) where
  -- the balances on loan of a security are as they were
  loan_part : (s : ℕ) → s < 16 → security_balances (widened balances) 0 s ≡ security_balances balances 0 s
  unfolding security_balances widened
  loan_part s h =
      let z : 4096 * 0 + 256 * s ≡ 256 * s = omega arith in
      rw (z, drop-append-le (256 * s) balances (replicate 4096 0) (omega arith))
      (take-append-le 256 (drop (256 * s) balances) (replicate 4096 0) (omega (arith, length-drop (256 * s) balances)))

  -- there is no claim on repo
  repo_none : (calendar tables : List ℕ) (day s : ℕ) (row : Row)
      → tracking_claims calendar tables day (tracking_type 1) s (security_balances (widened balances) 1 s) row ≡ []
  unfolding tracking_claims
  repo_none calendar tables day s row =
      each_none 16 _ (λ l hl. each_none 16 _ (λ b hb. loan_none calendar tables day _ row _ _
      (balance_word (widened balances) 1 s l b hl hb ∙ word_widened balances (4096 * 1 + 256 * s + 16 * l + b)
      ∙ get_or-eq_default balances 0 (omega (arith, e)))))

  row_widened : (calendar tables : List ℕ) (day s : ℕ) (row : Row) → s < 16
      → row_claims calendar tables day s (widened balances) row ≡ tracking_claims calendar tables day lending_type s (security_balances balances 0 s) row
  unfolding row_claims each tracking_type
  row_widened calendar tables day s row h =
      let none : tracking_claims calendar tables day 4 s (security_balances (widened balances) 1 s) row ≡ [] = repo_none calendar tables day s row in
      rw (loan_part s h, none) (append-nil _)

  close_widened : (calendar tables : List ℕ) (day : ℕ) → close_claims calendar tables day (widened balances) ≡ lending_claims calendar tables day balances
  unfolding close_claims lending_claims
  close_widened calendar tables day =
      each_same 16 _ _ (λ s h. each_of_same _ _ (crossed calendar tables day s) (λ row. row_widened calendar tables day s row h))

  claims_widened : (calendar tables : List ℕ) (book : Book) (call : Call)
      → claims_of calendar tables book (widened balances) call ≡ lending_claims_of calendar tables book balances call
  unfolding claims_of lending_claims_of
  claims_widened calendar tables book (transfer a) = refl
  claims_widened calendar tables book (close a) = close_widened calendar tables book.day

-- ---- numbers 14, 7 and 8

above_widened : (balances : List ℕ) (c : Change) (par : ℕ) → above_balance (widened balances) c par ≡ above_balance balances c par
unfolding above_balance
above_widened balances unchanged par = refl
above_widened balances (increase p) par = refl
above_widened balances (decrease p) par = rw (balance_widened balances p)

past_widened : (balances : List ℕ) (c : Change) (par : ℕ) → past_limit (widened balances) c par ≡ past_limit balances c par
unfolding past_limit
past_widened balances unchanged par = refl
past_widened balances (increase p) par = rw (balance_widened balances p)
past_widened balances (decrease p) par = refl

clears_widened : (balances : List ℕ) (c : Change) (par : ℕ) → clears_balance (widened balances) c par ≡ clears_balance balances c par
unfolding clears_balance
clears_widened balances unchanged par = refl
clears_widened balances (increase p) par = refl
clears_widened balances (decrease p) par = rw (balance_widened balances p)

off_widened : (pieces balances : List ℕ) (t : Transfer) → off_piece pieces (widened balances) t ≡ off_piece pieces balances t
unfolding off_piece
off_widened pieces balances t = rw (clears_widened balances (change_of t) t.par)

-- ---- number 6

-- a code that is none of repo is above 12 exactly where it is above 6
code_same : (c : ℕ) → (ltb 6 c && leb c 12) ≡ false → ltb 12 c ≡ ltb 6 c
code_same c e = go (ltb 6 c) refl (leb c 12) refl e
  where
    go : (a : Bool) → ltb 6 c ≡ a → (b : Bool) → leb c 12 ≡ b → (a && b) ≡ false → ltb 12 c ≡ a
    go true p true q h = absurd (true≢false h)
    go true p false q h = lt-ltb 12 c (leb-false c 12 q)
    go false p b q h = le-ltb 12 c (omega (arith, ltb-false 6 c p))

fields_same : (tables : List ℕ) (t : Transfer) → (ltb 6 t.code && leb t.code 12) ≡ false → out_of_range tables t ≡ (out_of_range tables t || ltb 6 t.code)
fields_same tables t e = go (out_of_range tables t) refl
  where
    low : out_of_range tables t ≡ false → (b : Bool) → ltb 6 t.code ≡ b → ltb 6 t.code ≡ false
    low p false q = q
    low p true q =
        absurd (true≢false (sym (lt-ltb 12 t.code (ltb-true 12 t.code (code_same t.code e ∙ q))) ∙ le-ltb 12 t.code (fields tables t p).code))

    go : (b : Bool) → out_of_range tables t ≡ b → b ≡ (b || ltb 6 t.code)
    go true p = refl
    go false p = sym (low p (ltb 6 t.code) refl)

-- ---- the number

module _ (calendar tables : List ℕ) (book : Book) (balances : List ℕ) (e : length balances ≡ 4096) where
  causes_widened : (call : Call) → is_repo call ≡ false → causes calendar tables book (widened balances) call ≡ lending_causes calendar tables book balances call
  unfolding opened_causes with_test wrong_length lending_causes lending_out_of_range buffer_of is_repo
  causes_widened (transfer a) n =
      let t = transfer_of a.message in
      rw (
        length_widened balances e,
        e,
        bad_widened balances,
        ← (fields_same tables t n),
        off_widened a.pieces balances t,
        above_widened balances (change_of t) t.par,
        past_widened balances (change_of t) t.par,
        claims_widened balances e calendar tables book (transfer a),
      )
  causes_widened (close a) n =
      rw (length_widened balances e, e, bad_widened balances, claims_widened balances e calendar tables book (close a))

  number_widened : (call : Call) → is_repo call ≡ false → number_for calendar tables book (widened balances) call ≡ lending_number calendar tables book balances call
  unfolding number_for lending_number
  number_widened call n = ap first_of (causes_widened call n)

-- ---- the balances

lending_code : (c : ℕ) → c ≤ 12 → (ltb 6 c && leb c 12) ≡ false → tracking_of c ≡ (zero)
unfolding tracking_of
lending_code c h e = go (ltb 6 c) e
  where
    go : (b : Bool) → (b && leb c 12) ≡ false → cond b 1 0 ≡ (zero)
    go true q = absurd (true≢false (sym (le-leb c 12 h) ∙ q))
    go false q = refl

loan_word : (p : Position) → p.tracking ≡ 0 → p.security < 16 → p.lender < 16 → p.borrower < 16 → word p < 4096
unfolding word
loan_word p k s l b = omega arith

module _ (calendar tables : List ℕ) (book : Book) (balances : List ℕ) (e : length balances ≡ 4096) where
  posted_widened : (a : TransferArguments) → is_repo (transfer a) ≡ false → Taken calendar tables book (widened balances) a
      → (let t = transfer_of a.message in
      changed (widened balances) (change_of t) t.par ≡ widened (changed balances (change_of t) t.par))
  unfolding change_of changed is_repo by_sender by_receiver
  posted_widened a n k = go (increasing (step_of t.code)) (decreasing (step_of t.code))
    where
      t : Transfer
      t = transfer_of a.message

      z : tracking_of t.code ≡ 0
      z = lending_code t.code k.fields.code n

      go : (x y : Bool) → changed (widened balances) (cond x (increase (by_sender t)) (cond y (decrease (by_receiver t)) unchanged)) t.par
          ≡ widened (changed balances (cond x (increase (by_sender t)) (cond y (decrease (by_receiver t)) unchanged)) t.par)
      go true y =
          rw (balance_widened balances (by_sender t))
          (set_widened balances (word (by_sender t)) _ e (loan_word (by_sender t) z k.fields.security k.fields.sender k.fields.receiver))
      go false true =
          rw (balance_widened balances (by_receiver t))
          (set_widened balances (word (by_receiver t)) _ e (loan_word (by_receiver t) z k.fields.security k.fields.receiver k.fields.sender))
      go false false = refl

  next_widened : (call : Call) → is_repo call ≡ false → number_for calendar tables book (widened balances) call ≡ 0
      → next_balances (widened balances) call ≡ widened (next_balances balances call)
  unfolding next_balances
  next_widened (transfer a) n z = posted_widened a n (taken calendar tables book (widened balances) a z)
  next_widened (close a) n z = refl

-- ---- one call

-- what a call gives in the form with lending alone, with repo empty
unfoldable pub emptied : Result → Result
emptied r = record { answer = r.answer; balances = widened r.balances }

module _ (calendar tables : List ℕ) (book : Book) (balances : List ℕ) (e : length balances ≡ 4096) (call : Call) where
  pub result_widened : is_repo call ≡ false → result calendar tables book (widened balances) call ≡ emptied (lending_result calendar tables book balances call)
  unfolding result lending_result emptied result_with
  result_widened n =
      rw (← (number_widened calendar tables book balances e call n)) (go (number_for calendar tables book (widened balances) call) refl)
    where
      go : (m : ℕ) → number_for calendar tables book (widened balances) call ≡ m
          → result_for m calendar tables book (widened balances) call
          ≡ emptied (result_with m (lending_claims_of calendar tables book balances call) calendar book balances call)
      go zero z = rw (claims_widened balances e calendar tables book call, next_widened calendar tables book balances e call n z)
      go (suc m) z = refl

  -- the balances keep their number
  next_length : length (next_balances balances call) ≡ length balances
  unfolding next_balances
  next_length = go call
    where
      go : (c : Call) → length (next_balances balances c) ≡ length balances
      go (transfer a) = posted_length balances (transfer_of a.message)
      go (close a) = refl

  pub lending_words : length (lending_result calendar tables book balances call).balances ≡ 4096
  unfolding lending_result result_with
  lending_words = go (lending_number calendar tables book balances call)
    where
      go : (m : ℕ) → length (result_with m (lending_claims_of calendar tables book balances call) calendar book balances call).balances ≡ 4096
      go zero = next_length ∙ e
      go (suc m) = e
