-- Numbers in bytes, lowest byte first, and the bytes' number again: one law each way for every width.
use Rattle.std.specs.Prelude.{◌≡◌, refl, List, [], ◌∷◌, ℕ, zero, suc, ◌+◌, ◌*◌, ◌/◌, ◌%◌, ◌^◌, ◌<◌, length, get_or}
use Rattle.std.proofs.Common.{sym, ap, ap₂, ◌∙◌, subst, add_comm, pow-suc, div-lt_iff_lt-mul, div-add-mod', zero-lt-suc, arith}
use Rattle.std.proofs.Math.Arith.{digits_lt, digits_div, digits_mod, lt-one}

-- n in w bytes
unfoldable pub bytes_of : ℕ → ℕ → List ℕ
bytes_of zero n = []
bytes_of (suc w) n = n % 256 ∷ bytes_of w (n / 256)

-- the number that bytes hold
unfoldable pub number_of : List ℕ → ℕ
number_of [] = 0
number_of (b ∷ bs) = b + number_of bs * 256

-- each element is a byte
abbrev pub Bytes : List ℕ → Type 0
Bytes s = (i : ℕ) → i < length s → get_or s i 0 < 256

pub bytes_length : (w n : ℕ) → length (bytes_of w n) ≡ w
unfolding bytes_of
bytes_length zero n = refl
bytes_length (suc w) n = ap suc (bytes_length w (n / 256))

-- a number that fits its width comes back
pub number_bytes : (w n : ℕ) → n < 256 ^ w → number_of (bytes_of w n) ≡ n
unfolding bytes_of number_of
number_bytes zero n h = sym (lt-one h)
number_bytes (suc w) n h =
    ap (λ (x : ℕ). n % 256 + x * 256)
    (number_bytes w (n / 256) ((div-lt_iff_lt-mul (zero-lt-suc 255)).1 (subst (λ (x : ℕ). n < x) (pow-suc 256 w) h)))
    ∙ add_comm (n % 256) (n / 256 * 256) ∙ div-add-mod' n 256

-- bytes come back
pub bytes_number : (bs : List ℕ) → Bytes bs → bytes_of (length bs) (number_of bs) ≡ bs
unfolding bytes_of number_of
bytes_number [] h = refl
bytes_number (b ∷ bs) h =
    let lo : b < 256 = h 0 (omega arith) in
    ap₂ {C = List ℕ} (λ (x : ℕ) (t : List ℕ). x ∷ t) (ap (λ (n : ℕ). n % 256) (add_comm b (number_of bs * 256)) ∙ digits_mod (number_of bs) lo)
    (ap (bytes_of (length bs)) (ap (λ (n : ℕ). n / 256) (add_comm b (number_of bs * 256)) ∙ digits_div (number_of bs) lo)
    ∙ bytes_number bs (λ i l. h (suc i) (omega arith)))

-- the number of bytes fits their width
pub number_fits : (bs : List ℕ) → Bytes bs → number_of bs < 256 ^ length bs
unfolding number_of
number_fits [] h = omega arith
number_fits (b ∷ bs) h =
    rw pow-suc (subst (λ (x : ℕ). x < 256 ^ length bs * 256) (add_comm (number_of bs * 256) b)
    (digits_lt (number_fits bs (λ i l. h (suc i) (omega arith))) (h 0 (omega arith))))
