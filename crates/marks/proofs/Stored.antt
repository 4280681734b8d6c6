-- What the code of both calls writes: the words of a mark, the store with them, and the balances of a mark.
use mathlib.Core.Path.{◌≡◌, refl, sym, ap, ◌∙◌}
use mathlib.Core.Bool.{true}
use mathlib.Core.List.{List, ◌++◌}
use Prim.Native.Nat.{ℕ, zero, suc, ◌+◌, ◌-◌}
use native.Mathlib.Omega.{arith}
use lib.ListN.{length, get_or, take, drop, length-drop}
use lib.Seq.{drop-drop, take-length}
use borrow.Rule.Slice.PartMut.{put_mid}
use Rattle.lists.specs.Fields.{part_length}
use Rattle.lists.specs.First.{first_of}
use Rattle.lists.specs.Put.{put}
use Rattle.book.specs.declared.Book.{Book}
use Rattle.book.specs.Soundness.{state_causes}
use Rattle.history.specs.Results.{left_open}
use Rattle.marks.specs.Marks.{is_mark, place_of, mark_in, day_in, count_in, balances_in, words_for, set_number, left_mark, marked_for, marked, held_by}
use Rattle.marks.specs.Marks.{return_causes, return_number, returned_for, returned}
use Rattle.marks.proofs.Numbers.{place_fits, set_balances, set_mark, set_store, return_sets}

-- ---- the store

module _ (calendar : List ℕ) (book : Book) (balances store : List ℕ) (k : ℕ) where
  set_refused_for : (n : ℕ) → (n ≡ 0 → ⊥) → left_mark n store ≡ marked_for n book balances store k
  unfolding marked_for
  set_refused_for zero d = absurd (d refl)
  set_refused_for (suc n) d = refl

  pub set_refused : {n : ℕ} → n ≡ set_number calendar book balances store k → (n ≡ 0 → ⊥) → left_mark n store ≡ marked calendar book balances store k
  unfolding marked
  set_refused {n} e d = set_refused_for n d ∙ ap (λ (m : ℕ). marked_for m book balances store k) e

  pub set_accepted : (at : ℕ) (words : List ℕ) → 0 ≡ set_number calendar book balances store k → at ≡ place_of k
      → length balances ≡ 8192 → words ≡ words_for book balances
      → left_mark 0 (put_mid at (at + 8195 - at) store words) ≡ marked calendar book balances store k
  unfolding marked marked_for put words_for
  set_accepted at words e a l w =
      let n : length words ≡ 8195 = omega (arith, ap length w, l) in
      let i : at + (at + 8195 - at) ≡ at + length words = omega (arith, n) in
      let d : drop (at + 8195 - at) (drop at store) ≡ drop (at + length words) store =
      drop-drop (at + 8195 - at) at store ∙ ap (λ (j : ℕ). drop j store) i in
      ap (λ (t : List ℕ). left_mark 0 (take at store ++ (words ++ t))) d
      ∙ ap (λ (i : ℕ). left_mark 0 (take i store ++ (words ++ drop (i + length words) store))) a
      ∙ ap (λ (x : List ℕ). left_mark 0 (take (place_of k) store ++ (x ++ drop (place_of k + length x) store))) w
      ∙ ap (λ (m : ℕ). marked_for m book balances store k) e

-- ---- a mark in the store

pub mark_length : (store : List ℕ) (k : ℕ) → is_mark k ≡ true → length store ≡ 32780 → length (mark_in store k) ≡ 8195
unfolding mark_in
mark_length store k m l = part_length (place_of k) 8195 store (omega (arith, place_fits k m, l))

pub mark_taken : (store : List ℕ) (k at : ℕ) → at ≡ place_of k → take (at + 8195 - at) (drop at store) ≡ mark_in store k
unfolding mark_in
mark_taken store k at a =
    let n : at + 8195 - at ≡ 8195 = omega arith in
    ap (λ (i : ℕ). take i (drop at store)) n ∙ ap (λ (i : ℕ). take 8195 (drop i store)) a

pub mark_part_length : (store : List ℕ) (k at : ℕ) → at ≡ place_of k → is_mark k ≡ true → length store ≡ 32780
    → length (take (at + 8195 - at) (drop at store)) ≡ 8195
mark_part_length store k at a m l = ap length (mark_taken store k at a) ∙ mark_length store k m l

-- all words behind the first three
pub all_behind : (words : List ℕ) → take (length words - 3) (drop 3 words) ≡ drop 3 words
all_behind words = ap (λ (i : ℕ). take i (drop 3 words)) (sym (length-drop 3 words)) ∙ take-length (drop 3 words)

-- a judgement of the day and the balances that words hold
pub state_read : (calendar words : List ℕ) {n day : ℕ} → n ≡ first_of (state_causes calendar day (take (length words - 3) (drop 3 words)))
    → day ≡ get_or words 1 0 → n ≡ first_of (state_causes calendar (get_or words 1 0) (drop 3 words))
state_read calendar words {n} {day} e d =
    e ∙ ap (λ (l : List ℕ). first_of (state_causes calendar day l)) (all_behind words)
    ∙ ap (λ (d : ℕ). first_of (state_causes calendar d (drop 3 words))) d

-- ---- going back

module _ (calendar : List ℕ) (book : Book) (balances store : List ℕ) (k : ℕ) where
  return_refused_for : (n : ℕ) (words : List ℕ) → (n ≡ 0 → ⊥)
      → left_open (record { number = n; book = book; claims = 0 }) balances ≡ returned_for n book balances words
  unfolding returned_for left_open
  return_refused_for zero words d = absurd (d refl)
  return_refused_for (suc n) words d = refl

  pub return_refused : {n : ℕ} → n ≡ return_number calendar book balances store k → (n ≡ 0 → ⊥)
      → left_open (record { number = n; book = book; claims = 0 }) balances ≡ returned calendar book balances store k
  unfolding returned
  return_refused {n} e d = return_refused_for n (mark_in store k) d ∙ ap (λ (m : ℕ). returned_for m book balances (mark_in store k)) e

  pub return_accepted : {b : Book} {after : List ℕ} → 0 ≡ return_number calendar book balances store k
      → b ≡ record { day = day_in (mark_in store k); count = count_in (mark_in store k) } → after ≡ balances_in (mark_in store k)
      → left_open (record { number = 0; book = b; claims = 0 }) after ≡ returned calendar book balances store k
  unfolding returned returned_for left_open held_by
  return_accepted e p q =
      (λ i. record { number = 0; book = p i; balances = q i }) ∙ ap (λ (m : ℕ). returned_for m book balances (mark_in store k)) e

  -- the balances of a mark have their length
  pub balances_held : is_mark k ≡ true → length store ≡ 32780 → length (balances_in (mark_in store k)) ≡ 8192
  unfolding balances_in
  balances_held m l = omega (arith, length-drop 3 (mark_in store k), mark_length store k m l)

  -- an accepted return copies as many words as the book has
  pub as_many : first_of (return_causes calendar book.day balances store k) ≡ 0 → length (balances_in (mark_in store k)) ≡ length balances
  as_many z = let s = return_sets _ _ _ _ _ z in balances_held (set_mark _ _ _ _ _ s) (set_store _ _ _ _ _ s) ∙ sym (set_balances _ _ _ _ _ s)
