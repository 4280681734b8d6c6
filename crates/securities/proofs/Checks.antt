-- The laws of the code that judges the tables: what each test of the code says of the definitions, and what the loops keep.
use mathlib.Core.Path.{◌≡◌, refl, sym, ap, ap₂, ◌∙◌}
use mathlib.Core.Bool.{Bool, true, false, cond, ◌&&◌}
use mathlib.Core.List.{List, [], ◌∷◌}
use Prim.Native.Nat.{ℕ, zero, suc, ◌+◌, ◌-◌, ◌*◌, ◌≤◌, ◌<◌}
use native.Mathlib.Numerals.{add-one}
use native.Mathlib.Nat.{add-zero}
use native.Mathlib.Omega.{arith}
use lib.Dec.{eqb, ltb, leb}
use lib.ListN.{length, get_or, take, drop, length-drop, length-take}
use lib.Seq.{take_all, drop-drop, get_or-take, get_or-drop}
use borrow.Author.Tests.{le-leb, lt-ltb, ne_eqb}
use Rattle.lists.specs.Tests.{below, cond_true, cond_false}
use Rattle.lists.specs.All.{all}
use Rattle.days.specs.Days.{is_date, last_open}
use Rattle.securities.specs.Securities.{security_of, type_of, frequency_of, row_of, row_at, rows_from, rows_of, is_empty, good_row, good_rows, good_security, good_tables}
use Rattle.securities.specs.declared.Row.{Row}

-- ---- a test that fails

pub no_left : (a b : Bool) → a ≡ false → a && b ≡ false
no_left a b e = rw e

pub no_right : (a b : Bool) → b ≡ false → a && b ≡ false
no_right true b e = e
no_right false b e = refl

and_assoc : (a b c : Bool) → (a && b) && c ≡ a && (b && c)
and_assoc true b c = refl
and_assoc false b c = refl

and-true : (a : Bool) → a && true ≡ a
and-true true = refl
and-true false = refl

-- ---- a row's last rule, where it keeps the others

pub last_rule : (last : ℕ) (row : Row) → is_date row.record_date ≡ true → is_date row.beneficiary_date ≡ true → is_date row.payment_date ≡ true
    → row.interest_factor ≤ 2000000000 → row.principal_factor ≤ 2000000000 → row.redeems ≤ 1 → row.mask ≤ 65535
    → row.record_date ≤ row.payment_date → row.beneficiary_date ≤ row.payment_date
    → leb row.payment_date last ≡ good_row last row
unfolding good_row
last_rule last row a b c d e f g h k =
    rw (
      a,
      b,
      c,
      le-leb row.interest_factor 2000000000 d,
      le-leb row.principal_factor 2000000000 e,
      le-leb row.redeems 1 f,
      le-leb row.mask 65535 g,
      le-leb row.record_date row.payment_date h,
      le-leb row.beneficiary_date row.payment_date k,
    )

-- ---- the rows of words

-- seven words are an empty row when they are zeros
row_zeros : (i : ℕ) (words : List ℕ) → 7 ≤ length words → is_empty (row_of i words) ≡ all (λ w. eqb w 0) (take 7 words)
unfolding is_empty row_of
row_zeros i [] h = absurd (omega arith)
row_zeros i (a ∷ []) h = absurd (omega arith)
row_zeros i (a ∷ b ∷ []) h = absurd (omega arith)
row_zeros i (a ∷ b ∷ c ∷ []) h = absurd (omega arith)
row_zeros i (a ∷ b ∷ c ∷ d ∷ []) h = absurd (omega arith)
row_zeros i (a ∷ b ∷ c ∷ d ∷ e ∷ []) h = absurd (omega arith)
row_zeros i (a ∷ b ∷ c ∷ d ∷ e ∷ f ∷ []) h = absurd (omega arith)
row_zeros i (a ∷ b ∷ c ∷ d ∷ e ∷ f ∷ g ∷ words) h = simp (and_assoc, and-true)

all_parts : (k : ℕ) (words : List ℕ) → all (λ w. eqb w 0) words ≡ all (λ w. eqb w 0) (take k words) && all (λ w. eqb w 0) (drop k words)
all_parts zero words = refl
all_parts (suc k) [] = refl
all_parts (suc k) (w ∷ words) = rw (all_parts k words, ← and_assoc (eqb w 0) (all (λ w. eqb w 0) (take k words)) (all (λ w. eqb w 0) (drop k words)))

-- 7 * n words are n empty rows when they are zeros
rows_zeros : (n i : ℕ) (words : List ℕ) → length words ≡ 7 * n → all is_empty (rows_from n i words) ≡ all (λ w. eqb w 0) words
unfolding rows_from
rows_zeros zero i [] h = refl
rows_zeros zero i (w ∷ words) h = absurd (omega arith)
rows_zeros (suc n) i words h =
    ap₂ ◌&&◌ (row_zeros i words (omega arith)) (rows_zeros n (suc i) (drop 7 words) (simp length-drop (omega arith)))
    ∙ sym (all_parts 7 words)

-- a row is judged by its seven words alone
good_part : (last i : ℕ) (words : List ℕ) → good_row last (row_of i words) ≡ good_row last (row_of i (take 7 words))
unfolding good_row row_of
good_part last i words =
    let e : (k : ℕ) → k < 7 → get_or (take 7 words) k 0 ≡ get_or words k 0 = λ k h. get_or-take 7 words k 0 h in
    rw (e 0 (omega arith), e 1 (omega arith), e 2 (omega arith), e 3 (omega arith), e 4 (omega arith), e 5 (omega arith), e 6 (omega arith))

-- ---- the row in its place in the tables

pub row_place : (tables : List ℕ) (s i : ℕ) {at : ℕ} → at ≡ 114 * s + 2 + 7 * i → row_of i (take (at + 7 - at) (drop at tables)) ≡ row_at tables s i
unfolding row_at
row_place tables s i {at} e =
    let n : at + 7 - at ≡ 7 = omega arith in
    rw (n, e) refl

-- ---- the first two words of a security

pub type_word : (tables : List ℕ) (s : ℕ) → get_or tables (114 * s) 0 ≡ type_of (security_of tables s)
unfolding type_of security_of
type_word tables s = sym (get_or-take 114 (drop (114 * s) tables) 0 0 (omega arith) ∙ get_or-drop (114 * s) tables 0 0 ∙ ap (λ (k : ℕ). get_or tables k 0) (add-zero (114 * s)))

pub frequency_word : (tables : List ℕ) (s : ℕ) → get_or tables (114 * s + 1) 0 ≡ frequency_of (security_of tables s)
unfolding frequency_of security_of
frequency_word tables s = sym (get_or-take 114 (drop (114 * s) tables) 1 0 (omega arith) ∙ get_or-drop (114 * s) tables 1 0)

-- ---- the rows of a security, in order

pub record Rowed (last : ℕ) (rows : List ℕ) (record_date beneficiary_date i : ℕ) : Type 0 where
  pub small : i ≤ 16
  pub rest : good_rows last 0 0 (rows_from 16 0 rows) ≡ good_rows last record_date beneficiary_date (rows_from (16 - i) i (drop (7 * i) rows))

pub rows_start : (last : ℕ) (rows : List ℕ) → Rowed last rows 0 0 0
rows_start last rows = record { small = omega arith; rest = refl }

-- what decides at row i
turn : (last a b i : ℕ) (rows : List ℕ) → i < 16
    → good_rows last a b (rows_from (16 - i) i (drop (7 * i) rows))
    ≡ cond (is_empty (row_of i (drop (7 * i) rows))) (all is_empty (rows_from (16 - (i + 1)) (i + 1) (drop (7 * (i + 1)) rows)))
    (good_row last (row_of i (drop (7 * i) rows)) && ltb a (get_or (drop (7 * i) rows) 0 0) && ltb b (get_or (drop (7 * i) rows) 1 0)
    && good_rows last (get_or (drop (7 * i) rows) 0 0) (get_or (drop (7 * i) rows) 1 0) (rows_from (16 - (i + 1)) (i + 1) (drop (7 * (i + 1)) rows)))
unfolding good_rows rows_from row_of
turn last a b i rows h =
    let m : 16 - i ≡ suc (16 - (i + 1)) = omega arith in
    let n : 7 * (i + 1) ≡ 7 * i + 7 = omega arith in
    rw (m, n, ← drop-drop 7 (7 * i) rows, add-one i)

-- the words from a place on, as the code cuts them
pub rest_words : (words : List ℕ) (at : ℕ) → take (length words - at) (drop at words) ≡ drop at words
rest_words words at = take_all (length words - at) (drop at words) (simp length-drop (omega arith))

-- the words of row i, as the code cuts them
abbrev pub row_part : List ℕ → ℕ → List ℕ
row_part rows i = take (7 * i + 7 - 7 * i) (drop (7 * i) rows)

row_words_lem : (rows : List ℕ) (i : ℕ) → row_part rows i ≡ take 7 (drop (7 * i) rows)
row_words_lem rows i = let e : 7 * i + 7 - 7 * i ≡ 7 = omega arith in rw e

pub row_length : (rows : List ℕ) (i : ℕ) → length rows ≡ 112 → i < 16 → length (row_part rows i) ≡ 7
row_length rows i n h = simp (length-take, length-drop) (omega arith)

module _ {last a b i : ℕ} {rows : List ℕ} (n : length rows ≡ 112) (h : i < 16) (k : Rowed last rows a b i) where
  part_empty : is_empty (row_of i (drop (7 * i) rows)) ≡ all (λ w. eqb w 0) (row_part rows i)
  part_empty =
      row_zeros i (drop (7 * i) rows) (simp length-drop (omega arith))
      ∙ ap (all (λ w. eqb w 0)) (sym (row_words_lem rows i))

  -- an empty row, and the words behind it
  pub rows_empty : all (λ w. eqb w 0) (row_part rows i) ≡ true
      → all (λ w. eqb w 0) (take (length rows - (7 * i + 7)) (drop (7 * i + 7) rows)) ≡ good_rows last 0 0 (rows_from 16 0 rows)
  rows_empty e =
      let m : 7 * (i + 1) ≡ 7 * i + 7 = omega arith in
      sym (k.rest ∙ turn last a b i rows h ∙ cond_true _ _ (part_empty ∙ e)
      ∙ rows_zeros (16 - (i + 1)) (i + 1) (drop (7 * (i + 1)) rows) (simp length-drop (omega arith))
      ∙ ap (λ (j : ℕ). all (λ w. eqb w 0) (drop j rows)) m ∙ ap (all (λ w. eqb w 0)) (sym (rest_words rows (7 * i + 7))))

  -- what decides at a filled row, which the code holds
  module _ {row : Row} (is : row ≡ row_of i (row_part rows i)) (e : all (λ w. eqb w 0) (row_part rows i) ≡ false) where
    filled : good_rows last 0 0 (rows_from 16 0 rows)
        ≡ good_row last row && ltb a row.record_date && ltb b row.beneficiary_date
        && good_rows last row.record_date row.beneficiary_date (rows_from (16 - (i + 1)) (i + 1) (drop (7 * (i + 1)) rows))
    unfolding row_of
    filled =
        k.rest ∙ turn last a b i rows h ∙ cond_false _ _ (part_empty ∙ e)
        ∙ rw (is, good_part last i (drop (7 * i) rows), row_words_lem rows i, get_or-take 7 (drop (7 * i) rows) 0 0 (omega arith), get_or-take 7 (drop (7 * i) rows) 1 0 (omega arith))
        refl

    -- one that breaks a rule
    pub rows_broken : (good_row last row && ltb a row.record_date && ltb b row.beneficiary_date) ≡ false
        → false ≡ good_rows last 0 0 (rows_from 16 0 rows)
    rows_broken f = sym (filled ∙ no_left _ _ f)

    -- one that keeps them
    pub rows_step : good_row last row ≡ true → a < row.record_date → b < row.beneficiary_date
        → Rowed last rows row.record_date row.beneficiary_date (i + 1)
    rows_step g r s =
        record {
          small = omega arith;
          rest = filled ∙ rw (g, lt-ltb a row.record_date r, lt-ltb b row.beneficiary_date s);
        }

pub rows_end : {last a b i : ℕ} {rows : List ℕ} → 16 ≤ i → Rowed last rows a b i → true ≡ good_rows last 0 0 (rows_from 16 0 rows)
unfolding good_rows rows_from
rows_end {last} {a} {b} {i} {rows} h k = let z : 16 - i ≡ 0 = omega arith in sym (k.rest ∙ rw z)

-- ---- a security in use

pub used : (last : ℕ) (words : List ℕ) → (get_or words 0 0 ≡ 0 → ⊥)
    → good_security last words
    ≡ leb (get_or words 0 0) 4 && leb 1 (get_or words 1 0) && leb (get_or words 1 0) 4 && good_rows last 0 0 (rows_from 16 0 (drop 2 words))
unfolding good_security type_of frequency_of rows_of
used last words n = cond_false _ _ (ne_eqb (get_or words 0 0) 0 n)

pub used_rows : (last : ℕ) (words : List ℕ) → (get_or words 0 0 ≡ 0 → ⊥) → get_or words 0 0 ≤ 4 → 1 ≤ get_or words 1 0 → get_or words 1 0 ≤ 4
    → good_rows last 0 0 (rows_from 16 0 (take (length words - 2) (drop 2 words))) ≡ good_security last words
used_rows last words n a b c =
    sym (used last words n
    ∙ rw (le-leb (get_or words 0 0) 4 a, le-leb 1 (get_or words 1 0) b, le-leb (get_or words 1 0) 4 c, rest_words words 2))

-- ---- the securities, from the last down

abbrev pub security_part : List ℕ → ℕ → List ℕ
security_part tables s = take (114 * s + 114 - 114 * s) (drop (114 * s) tables)

security_words_lem : (tables : List ℕ) (s : ℕ) → security_part tables s ≡ security_of tables s
unfolding security_of
security_words_lem tables s = let e : 114 * s + 114 - 114 * s ≡ 114 = omega arith in rw e

pub security_length : (tables : List ℕ) (s : ℕ) → length tables ≡ 1824 → s < 16 → length (security_part tables s) ≡ 114
security_length tables s n h = simp (length-take, length-drop) (omega arith)

pub record Judging (calendar tables : List ℕ) (s : ℕ) : Type 0 where
  pub small : s ≤ 16
  pub rest : good_tables calendar tables ≡ below (λ s. good_security (last_open calendar) (security_of tables s)) s

pub judge_start : (calendar tables : List ℕ) → Judging calendar tables 16
unfolding good_tables
judge_start calendar tables = record { small = omega arith; rest = refl }

module _ {calendar tables : List ℕ} {s : ℕ} (last : ℕ) (l : last ≡ last_open calendar) (h : 0 < s) (k : Judging calendar tables s) where
  judged : (b : Bool) → good_security last (security_part tables (s - 1)) ≡ b
      → good_tables calendar tables ≡ b && below (λ s. good_security (last_open calendar) (security_of tables s)) (s - 1)
  unfolding below
  judged b e =
      let m : s ≡ suc (s - 1) = omega arith in
      let g : good_security (last_open calendar) (security_of tables (s - 1)) ≡ b =
      ap₂ good_security (sym l) (sym (security_words_lem tables (s - 1))) ∙ e in
      k.rest ∙ ap (below (λ s. good_security (last_open calendar) (security_of tables s))) m ∙ rw g

  pub judge_bad : good_security last (security_part tables (s - 1)) ≡ false → false ≡ good_tables calendar tables
  judge_bad e = sym (judged false e)

  pub judge_next : good_security last (security_part tables (s - 1)) ≡ true → Judging calendar tables (s - 1)
  judge_next e = record { small = omega (arith, k.small); rest = judged true e }

pub judge_end : {calendar tables : List ℕ} {s : ℕ} → s ≤ 0 → Judging calendar tables s → true ≡ good_tables calendar tables
unfolding below
judge_end {calendar} {tables} {s} h k =
    let z : s ≡ 0 = omega arith in
    sym (k.rest ∙ ap (below (λ s. good_security (last_open calendar) (security_of tables s))) z)
