-- Date limits (document 02, card 5) and minimum pieces (card 6) worked out, as rows that compute: each rule kept and broken by one number.
use mathlib.Core.Path.{◌≡◌, refl}
use mathlib.Core.Bool.{true, not, ◌&&◌}
use mathlib.Core.List.{List, [], ◌∷◌}
use Prim.Native.Nat.{ℕ}
use lib.ListN.{replicate, set}
use Rattle.lists.specs.All.{all}
use Rattle.securities.specs.Lent.{good_limits, good_pieces, ones}
use Rattle.securities.proofs.Opened.{opened_securities}

-- five limits, in their order
abbrev pub five : ℕ → ℕ → ℕ → ℕ → ℕ → List ℕ
five mbs monthly quarterly semiannual annual = mbs ∷ monthly ∷ quarterly ∷ semiannual ∷ annual ∷ []

-- the published numbers; the smallest and the largest; MBS below and above the others; each number the same as the one before
good : List (List ℕ)
good =
    five 7 6 3 2 1
    ∷ five 1 1 1 1 1
    ∷ five 16 16 16 16 16
    ∷ five 1 16 16 16 16
    ∷ five 16 1 1 1 1
    ∷ five 2 3 3 3 3
    ∷ five 1 6 3 2 1
    ∷ five 7 16 3 2 1
    ∷ []

-- other lengths; 0 and 17 in each place; each order broken
bad : List (List ℕ)
bad =
    []
    ∷ (7 ∷ 6 ∷ 3 ∷ 2 ∷ [])
    ∷ (7 ∷ 6 ∷ 3 ∷ 2 ∷ 1 ∷ 1 ∷ [])
    ∷ five 0 6 3 2 1
    ∷ five 7 0 0 0 0
    ∷ five 7 6 0 0 0
    ∷ five 7 6 3 0 0
    ∷ five 7 6 3 2 0
    ∷ five 17 6 3 2 1
    ∷ five 7 17 3 2 1
    ∷ five 7 17 17 17 17
    ∷ five 4294967295 6 3 2 1
    ∷ five 7 6 7 2 1
    ∷ five 7 6 3 4 1
    ∷ five 7 6 3 2 3
    ∷ five 7 2 3 3 3
    ∷ []

-- sixteen ones; the largest; one number other than the rest, in front and at the end
good_lists : List (List ℕ)
good_lists = ones ∷ replicate 16 1000000 ∷ set ones 0 1000000 ∷ set ones 15 1000 ∷ set (replicate 16 1000) 15 1 ∷ []

-- other lengths; 0 and 1,000,001 in front, within and at the end
bad_lists : List (List ℕ)
bad_lists =
    []
    ∷ replicate 15 1
    ∷ replicate 17 1
    ∷ set ones 0 0
    ∷ set ones 7 0
    ∷ set ones 15 0
    ∷ set ones 0 1000001
    ∷ set ones 7 1000001
    ∷ set ones 15 4294967295
    ∷ []

lent_rows_hold : all good_limits good && all (λ limits. not (good_limits limits)) bad && all good_pieces good_lists
    && all (λ pieces. not (good_pieces pieces)) bad_lists ≡ true
unfolding opened_securities good bad good_lists bad_lists
lent_rows_hold = refl
