-- What is stored: the lowest bytes of a number, and bytes at once.
use mathlib.Core.Path.{◌≡◌, refl, sym, ap, ap₂, ◌∙◌}
use mathlib.Core.List.{List, ◌∷◌, ◌++◌}
use Prim.Native.Nat.{ℕ, zero, suc, ◌+◌, ◌-◌, ◌/◌, ◌%◌, ◌^◌, ◌≤◌}
use native.Mathlib.Nat.{div-one, pow-suc, div-div-eq-div-mul}
use native.Mathlib.Omega.{arith}
use lib.ListN.{length, take, drop}
use lib.Seq.{drop-drop}
use Rattle.std.specs.Int.{byte_at, bytes_low_first}
use Rattle.lists.specs.Numbers.{bytes_of}
use Rattle.lists.specs.Put.{put}

-- ---- the lowest bytes of a number, as std has them

byte_here : (i n : ℕ) → byte_at i n ≡ n / 256 ^ i % 256
byte_here zero n = sym (ap (λ (k : ℕ). k % 256) (div-one n))
byte_here (suc i) n = refl

low_first : (i k n w : ℕ) → w ≤ k → take w (bytes_low_first i k n) ≡ bytes_of w (n / 256 ^ i)
unfolding bytes_of
low_first i k n zero h = refl
low_first i zero n (suc w) h = absurd (omega arith)
low_first i (suc k) n (suc w) h =
    let e : n / 256 ^ suc i ≡ n / 256 ^ i / 256 = rw pow-suc (sym (div-div-eq-div-mul n (256 ^ i) 256)) in
    ap₂ (λ (b : ℕ) (bs : List ℕ). b ∷ bs) (byte_here i n) (low_first (suc i) k n w (omega arith) ∙ ap (bytes_of w) e)

pub lowest : (n w : ℕ) → w ≤ 8 → take w (bytes_low_first 0 8 n) ≡ bytes_of w n
lowest n w h = low_first 0 8 n w h ∙ ap (bytes_of w) (div-one n)

-- ---- bytes stored at once

pub copied : (buffer : List ℕ) (at : ℕ) (bytes : List ℕ) {part : List ℕ} → part ≡ bytes
    → take at buffer ++ (part ++ drop (at + length bytes - at) (drop at buffer)) ≡ put buffer at bytes
unfolding put
copied buffer at bytes e =
    let n : at + length bytes - at ≡ length bytes = omega arith in
    rw (e, n, drop-drop) refl
