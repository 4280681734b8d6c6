-- Writing a run of numbers and reading it back: each undoes the other, and what is read fits.
use Rattle.std.specs.Prelude.{◌≡◌, refl, List, [], ◌∷◌, ◌++◌, ℕ, ◌+◌, ◌^◌, ◌≤◌, ◌<◌, length, take, drop}
use Rattle.std.proofs.Common.{sym, ap, ap₂, ◌∙◌, subst, append_assoc, arith, length-append, drop-drop, take_at, take-add}
use Rattle.std.proofs.Math.Seq.{drop-append_seam}
use Rattle.lists.specs.Numbers.{bytes_of, number_of, Bytes, bytes_length, number_bytes, bytes_number, number_fits}
use Rattle.lists.specs.Fields.{part, part_length, part_bytes, total, encode, decode, Fit}

pub decode_encode : (ws vs before rest : List ℕ) → Fit ws vs → decode ws (length before) (before ++ (encode ws vs ++ rest)) ≡ vs
unfolding encode decode
decode_encode [] [] before rest f = refl
decode_encode [] (v ∷ vs) before rest f = absurd f
decode_encode (w ∷ ws) [] before rest f = absurd f
decode_encode (w ∷ ws) (v ∷ vs) before rest f =
    let e = encode ws vs in
    let whole : before ++ ((bytes_of w v ++ e) ++ rest) ≡ (before ++ bytes_of w v) ++ (e ++ rest) = simp append_assoc in
    let len : length (before ++ bytes_of w v) ≡ length before + w
    = length-append before (bytes_of w v) ∙ ap (λ (x : ℕ). length before + x) (bytes_length w v) in
    ap₂ {C = List ℕ} (λ (x : ℕ) (t : List ℕ). x ∷ t)
    (ap (λ (l : List ℕ). number_of (take w l)) (drop-append_seam before ((bytes_of w v ++ e) ++ rest) ∙ append_assoc (bytes_of w v) e rest)
    ∙ ap number_of (take_at (bytes_of w v) (e ++ rest) w (bytes_length w v)) ∙ number_bytes w v f.0)
    (ap₂ (decode ws) (sym len) whole ∙ decode_encode ws vs (before ++ bytes_of w v) rest f.1)

pub encode_decode : (ws : List ℕ) (at : ℕ) (s : List ℕ) → Bytes s → at + total ws ≤ length s
    → encode ws (decode ws at s) ≡ part at (total ws) s
unfolding encode decode total
encode_decode [] at s b h = refl
encode_decode (w ∷ ws) at s b h =
    let p = part at w s in
    let len : length p ≡ w = part_length at w s (omega arith) in
    ap₂ (λ (x y : List ℕ). x ++ y)
    (ap (λ (n : ℕ). bytes_of n (number_of p)) (sym len) ∙ bytes_number p (part_bytes at w s b (omega arith)))
    (encode_decode ws (at + w) s b (omega arith) ∙ ap (take (total ws)) (sym (drop-drop w at s)))
    ∙ sym (take-add w (total ws) (drop at s))

-- what is read fits
pub decode_fit : (ws : List ℕ) (at : ℕ) (s : List ℕ) → Bytes s → at + total ws ≤ length s → Fit ws (decode ws at s)
unfolding decode total
decode_fit [] at s b h = tt
decode_fit (w ∷ ws) at s b h = (
  subst (λ (x : ℕ). number_of (part at w s) < 256 ^ x) (part_length at w s (omega arith))
      (number_fits (part at w s) (part_bytes at w s b (omega arith))),
  decode_fit ws (at + w) s b (omega arith),
)
