-- Document 02, card 9: marks. A lent store of 32,780 words holds four, 1 to 4, each of 8,195 words: 1 if set (any other number is unset), the
-- day, the count, and the 8,192 balances.
use Rattle.std.specs.Prelude.{Bool, not, ◌&&◌, ◌||◌, List, [], ◌∷◌, ◌++◌, ℕ, zero, suc, ◌-◌, ◌*◌, eqb, ltb, leb, length, get_or, drop}
use Rattle.lists.specs.Fields.{part}
use Rattle.lists.specs.First.{Cause, cause, first_of}
use Rattle.lists.specs.Put.{put}
use Rattle.book.specs.declared.Book.{Book}
use Rattle.book.specs.Soundness.{bad_day, bad_balances, present_causes}
use Rattle.history.specs.Causes.{largest_count}
use Rattle.history.specs.Results.{Opened}

-- ---- the store

-- The words of a mark, and of the store of four.
abbrev pub mark_words : ℕ
mark_words = 8195

abbrev pub store_words : ℕ
store_words = 32780

-- The marks are 1 to 4.
unfoldable pub is_mark : ℕ → Bool
is_mark k = leb 1 k && leb k 4

-- The first word of mark k, and its words in a store.
unfoldable pub place_of : ℕ → ℕ
place_of k = mark_words * (k - 1)

unfoldable pub mark_in : List ℕ → ℕ → List ℕ
mark_in store k = part (place_of k) mark_words store

-- What the words of a mark say.
unfoldable pub is_set : List ℕ → Bool
is_set words = eqb (get_or words 0 0) 1

unfoldable pub day_in : List ℕ → ℕ
day_in words = get_or words 1 0

unfoldable pub count_in : List ℕ → ℕ
count_in words = get_or words 2 0

unfoldable pub balances_in : List ℕ → List ℕ
balances_in words = drop 3 words

-- The words of a mark that is set at a book and its balances.
unfoldable pub words_for : Book → List ℕ → List ℕ
words_for book balances = 1 ∷ book.day ∷ book.count ∷ balances

-- ---- what can be refused

-- A mark outside 1 to 4, or a store of wrong length: number 16.
unfoldable pub store_causes : List ℕ → ℕ → List Cause
store_causes store k = cause 16 (not (is_mark k) || not (eqb (length store) store_words)) ∷ []

-- A mark that is unset, whose count is past 32 bits, or whose day or balances 4 would refuse: number 17.
unfoldable pub bad_mark : List ℕ → List ℕ → Bool
bad_mark calendar words =
    not (is_set words) || ltb largest_count (count_in words) || bad_day calendar (day_in words) || bad_balances (balances_in words)

unfoldable pub saved_causes : List ℕ → List ℕ → List Cause
saved_causes calendar words = cause 17 (bad_mark calendar words) ∷ []

-- Both calls judge calendar and present book first, then mark and store; going back judges what the mark holds behind them.
unfoldable pub set_causes : List ℕ → ℕ → List ℕ → List ℕ → ℕ → List Cause
set_causes calendar day balances store k = present_causes calendar day balances ++ store_causes store k

unfoldable pub return_causes : List ℕ → ℕ → List ℕ → List ℕ → ℕ → List Cause
return_causes calendar day balances store k = set_causes calendar day balances store k ++ saved_causes calendar (mark_in store k)

-- The number of the first cause that applies, 0 if none does.
unfoldable pub set_number : List ℕ → Book → List ℕ → List ℕ → ℕ → ℕ
set_number calendar book balances store k = first_of (set_causes calendar book.day balances store k)

unfoldable pub return_number : List ℕ → Book → List ℕ → List ℕ → ℕ → ℕ
return_number calendar book balances store k = first_of (return_causes calendar book.day balances store k)

-- ---- what the calls answer and leave

-- What setting a mark answers, and the store after it.
pub record Marked : Type 0 where
  pub number : ℕ
  pub store : List ℕ

-- The number that a setting answers with the store that it leaves.
abbrev pub left_mark : ℕ → List ℕ → Marked
left_mark number store = record { number = number; store = store }

-- Accepted, the mark's words are overwritten and all others are as they were; refused, all are.
unfoldable pub marked_for : ℕ → Book → List ℕ → List ℕ → ℕ → Marked
marked_for zero book balances store k = left_mark 0 (put store (place_of k) (words_for book balances))
marked_for (suc n) book balances store k = left_mark (suc n) store

-- What setting a mark answers and leaves.
unfoldable pub marked : List ℕ → Book → List ℕ → List ℕ → ℕ → Marked
marked calendar book balances store k = marked_for (set_number calendar book balances store k) book balances store k

-- The book and the balances that the words of a mark hold.
unfoldable pub held_by : List ℕ → Opened
held_by words = record { number = 0; book = record { day = day_in words; count = count_in words }; balances = balances_in words }

-- Accepted, book and balances are those of the mark; refused, they are as they were.
unfoldable pub returned_for : ℕ → Book → List ℕ → List ℕ → Opened
returned_for zero book balances words = held_by words
returned_for (suc n) book balances words = record { number = suc n; book = book; balances = balances }

-- What going back to a mark answers and leaves. The store is only read.
unfoldable pub returned : List ℕ → Book → List ℕ → List ℕ → ℕ → Opened
returned calendar book balances store k = returned_for (return_number calendar book balances store k) book balances (mark_in store k)
