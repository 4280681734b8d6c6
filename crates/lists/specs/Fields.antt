-- Runs of numbers in bytes, each in a width of its own, and reading them back: the laws hold for every list of widths.
use Rattle.std.specs.Prelude.{◌≡◌, refl, List, [], ◌∷◌, ◌++◌, ℕ, zero, suc, ◌+◌, ◌^◌, ◌≤◌, ◌<◌, length, take, drop}
use Rattle.std.proofs.Common.{ap, ap₂, ◌∙◌, subst, arith, length-append, length-take, length-drop, take-take, get_or-drop, get_or-take}
use Rattle.std.proofs.Math.Path.{subst⁻¹}
use Rattle.lists.specs.Numbers.{bytes_of, number_of, Bytes, bytes_length}

-- ---- parts of a list

-- w elements from place at on
abbrev pub part : {A : Type 0} → ℕ → ℕ → List A → List A
part at w s = take w (drop at s)

-- a part sees nothing behind itself
pub part_take : {A : Type 0} (at w n : ℕ) (s : List A) → at + w ≤ n → part at w (take n s) ≡ part at w s
part_take zero w n s h = take-take w n s (omega arith)
part_take (suc at) w zero s h = absurd (omega arith)
part_take (suc at) w (suc n) [] h = refl
part_take (suc at) w (suc n) (x ∷ s) h = part_take at w n s (omega arith)

pub part_length : {A : Type 0} (at w : ℕ) (s : List A) → at + w ≤ length s → length (part at w s) ≡ w
part_length at w s h = simp (length-take, length-drop) (omega arith)

pub part_bytes : (at w : ℕ) (s : List ℕ) → Bytes s → at + w ≤ length s → Bytes (part at w s)
part_bytes at w s b h i l =
    let n : i < w = subst (λ (x : ℕ). i < x) (part_length at w s h) l in
    subst⁻¹ (λ (x : ℕ). x < 256) (get_or-take w (drop at s) i 0 n ∙ get_or-drop at s i 0) (b (at + i) (omega arith))

-- ---- numbers in their widths

unfoldable pub total : List ℕ → ℕ
total [] = 0
total (w ∷ ws) = w + total ws

unfoldable pub encode : List ℕ → List ℕ → List ℕ
encode [] vs = []
encode (w ∷ ws) [] = []
encode (w ∷ ws) (v ∷ vs) = bytes_of w v ++ encode ws vs

-- the numbers that stand from place at on
unfoldable pub decode : List ℕ → ℕ → List ℕ → List ℕ
decode [] at s = []
decode (w ∷ ws) at s = number_of (part at w s) ∷ decode ws (at + w) s

-- as many numbers as widths, and each fits its own
abbrev pub Fit : List ℕ → List ℕ → Type 0
Fit [] [] = Unit {0}
Fit [] (v ∷ vs) = ⊥
Fit (w ∷ ws) [] = ⊥
Fit (w ∷ ws) (v ∷ vs) = (v < 256 ^ w) × Fit ws vs

pub encode_length : (ws vs : List ℕ) → length ws ≡ length vs → length (encode ws vs) ≡ total ws
unfolding encode total
encode_length [] vs e = refl
encode_length (w ∷ ws) [] e = absurd (omega arith)
encode_length (w ∷ ws) (v ∷ vs) e =
    length-append (bytes_of w v) (encode ws vs) ∙ ap₂ (λ (x y : ℕ). x + y) (bytes_length w v) (encode_length ws vs (omega arith))

pub fit_length : (ws vs : List ℕ) → Fit ws vs → length ws ≡ length vs
fit_length [] [] f = refl
fit_length [] (v ∷ vs) f = absurd f
fit_length (w ∷ ws) [] f = absurd f
fit_length (w ∷ ws) (v ∷ vs) f = ap suc (fit_length ws vs f.1)

-- nothing behind what is read is looked at
pub decode_take : (ws : List ℕ) (at n : ℕ) (s : List ℕ) → at + total ws ≤ n → decode ws at (take n s) ≡ decode ws at s
unfolding decode total
decode_take [] at n s h = refl
decode_take (w ∷ ws) at n s h =
    ap₂ {C = List ℕ} (λ (x : ℕ) (t : List ℕ). x ∷ t) (ap number_of (part_take at w n s (omega arith)))
    (decode_take ws (at + w) n s (omega arith))
