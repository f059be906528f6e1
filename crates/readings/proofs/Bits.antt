-- Bits of numbers, and of the numbers that bytes write.
use Rattle.std.proofs.Common.{◌≡◌, ℕ, zero, suc, ◌+◌, ◌*◌, ◌/◌, ◌%◌, ◌^◌, ◌<◌, ◌≤◌, false, eqb, List, [], ◌∷◌, length, get_or, take, drop, sym, ap, ◌∙◌, subst, mod-lt, arith}
use native.Mathlib.Nat.{div-eq_of_lt}
use Rattle.std.specs.Int.{bit_at}
use Rattle.std.proofs.Math.Pow.{pow_mono}
use Rattle.std.proofs.lemmas.Nat.{pow_pos, shr-shr, shr_split}
use Rattle.std.proofs.lemmas.Nat.Bits.{bit_at_above, bit_at_cat_low, bit_at_lowest, bit_at-lt, bit_at-suc, bit_at-zero, same_from_bits, same_from_bits_below}
use Rattle.std.proofs.lemmas.List.{get_or-drop}
use Rattle.std.proofs.lemmas.Bool.Decides.{nat_tests}
use Rattle.readings.specs.Bits.{Bytes, bit, little}

-- ---- eight bytes

pub little_eight : (bytes : List ℕ) → length bytes ≡ 8 →
    get_or bytes 0 0 + get_or bytes 1 0 * 256 + get_or bytes 2 0 * 65536 + get_or bytes 3 0 * 16777216
    + get_or bytes 4 0 * 4294967296 + get_or bytes 5 0 * 1099511627776 + get_or bytes 6 0 * 281474976710656 + get_or bytes 7 0 * 72057594037927936
    ≡ little bytes
little_eight (a ∷ b ∷ c ∷ d ∷ e ∷ f ∷ g ∷ h ∷ []) l = omega arith
little_eight [] l = absurd (omega arith)
little_eight (a ∷ []) l = absurd (omega arith)
little_eight (a ∷ b ∷ []) l = absurd (omega arith)
little_eight (a ∷ b ∷ c ∷ []) l = absurd (omega arith)
little_eight (a ∷ b ∷ c ∷ d ∷ []) l = absurd (omega arith)
little_eight (a ∷ b ∷ c ∷ d ∷ e ∷ []) l = absurd (omega arith)
little_eight (a ∷ b ∷ c ∷ d ∷ e ∷ f ∷ []) l = absurd (omega arith)
little_eight (a ∷ b ∷ c ∷ d ∷ e ∷ f ∷ g ∷ []) l = absurd (omega arith)
little_eight (a ∷ b ∷ c ∷ d ∷ e ∷ f ∷ g ∷ h ∷ i ∷ more) l = absurd (omega arith)

-- ---- shifts

-- nothing is left of a number of 64 bits above these
pub shifted_out : (w n : ℕ) → w < 2 ^ 64 → 64 ≤ n → w / 2 ^ n ≡ 0
shifted_out w n h l = let big = pow_mono l in div-eq_of_lt (omega (arith, big))

pub shr_none : (w n : ℕ) → w / 2 ^ n ≡ 0 → w < 2 ^ n
shr_none w n e =
    let f : 0 * 2 ^ n + w % 2 ^ n ≡ w = subst (λ (x : ℕ). x * 2 ^ n + w % 2 ^ n ≡ w) e (shr_split w n) in
    let g = mod-lt w (pow_pos n) in
    omega arith

-- ---- single bits, of which the library speaks as numbers (`bit_at`)

pub bit-zero : (w : ℕ) → bit w 0 ≡ eqb (w % 2) 1
unfolding bit
bit-zero w = ap (λ (x : ℕ). eqb x 1) (bit_at_lowest w)

-- a bit above the lowest is one of the half
pub bit-suc : (w i : ℕ) → bit w (suc i) ≡ bit (w / 2) i
unfolding bit
bit-suc w i = ap (λ (x : ℕ). eqb x 1) (bit_at-suc w i)

pub bit_none : (i : ℕ) → bit 0 i ≡ false
unfolding bit
bit_none i = ap (λ (x : ℕ). eqb x 1) (bit_at-zero i)

pub bit-shr : (w k i : ℕ) → bit (w / 2 ^ k) i ≡ bit w (k + i)
unfolding bit
bit-shr w k i = ap (λ (x : ℕ). eqb (x % 2) 1) (shr-shr w k i)

-- the bits of a number below 2 ^ k stay where they are under a multiple of it
pub bit_low : (k x y i : ℕ) → i < k → bit (x + 2 ^ k * y) i ≡ bit x i
unfolding bit
bit_low k x y i l =
    let e : x + 2 ^ k * y ≡ y * 2 ^ k + x = grind arith in
    ap (λ (n : ℕ). eqb (bit_at n i) 1) e ∙ ap (λ (n : ℕ). eqb n 1) (bit_at_cat_low y k x i l)

-- a bit is one of two numbers, so that the test tells which
pub same_digit : (u v : ℕ) → u < 2 → v < 2 → eqb u 1 ≡ eqb v 1 → u ≡ v
same_digit u v h l e = grind (arith, nat_tests)

-- numbers with the same bits are the same
pub bits_equal : (k a b : ℕ) → a < 2 ^ k → b < 2 ^ k → ((i : ℕ) → i < k → bit a i ≡ bit b i) → a ≡ b
unfolding bit
bits_equal k a b h l same = same_from_bits_below k a b h l (λ i g. same_digit (bit_at a i) (bit_at b i) (bit_at-lt a i) (bit_at-lt b i) (same i g))

-- ---- bytes

pub bytes_take : (k : ℕ) (bytes : List ℕ) → Bytes bytes → Bytes (take k bytes)
bytes_take zero bytes small j = omega arith
bytes_take (suc k) [] small j = omega arith
bytes_take (suc k) (b ∷ bytes) small zero = small 0
bytes_take (suc k) (b ∷ bytes) small (suc j) = bytes_take k bytes (λ i. small (suc i)) j

pub bytes_drop : (k : ℕ) (bytes : List ℕ) → Bytes bytes → Bytes (drop k bytes)
bytes_drop k bytes small j = rw get_or-drop (small (k + j))

-- bit i of byte b is bit 8 b + i of the number that the bytes write
pub little_bits : (bytes : List ℕ) → Bytes bytes → (b i : ℕ) → i < 8 → bit (little bytes) (8 * b + i) ≡ bit (get_or bytes b 0) i
little_bits [] small b i l = bit_none (8 * b + i) ∙ sym (bit_none i)
little_bits (x ∷ bytes) small zero i l =
    let at : 8 * 0 + i ≡ i = omega arith in
    ap (bit (x + 256 * little bytes)) at ∙ bit_low 8 x (little bytes) i l
little_bits (x ∷ bytes) small (suc b) i l =
    let h = small 0 in
    let at : 8 * suc b + i ≡ 8 + (8 * b + i) = omega arith in
    let high : (x + 256 * little bytes) / 2 ^ 8 ≡ little bytes = omega arith in
    ap (bit (x + 256 * little bytes)) at
    ∙ sym (bit-shr (x + 256 * little bytes) 8 (8 * b + i))
    ∙ ap (λ (n : ℕ). bit n (8 * b + i)) high
    ∙ little_bits bytes (λ c. small (suc c)) b i l

-- ---- numbers below a power

pub bits_above : (w n : ℕ) → w < 2 ^ n → (i : ℕ) → n ≤ i → bit w i ≡ false
unfolding bit
bits_above w n h i l = ap (λ (x : ℕ). eqb x 1) (bit_at_above w n i h l)

no_bits : (w : ℕ) → ((i : ℕ) → bit w i ≡ false) → w ≡ 0
unfolding bit
no_bits w none = same_from_bits w 0 (λ i. same_digit (bit_at w i) (bit_at 0 i) (bit_at-lt w i) (bit_at-lt 0 i) (none i ∙ sym (bit_none i)))

pub below_from_bits : (w n : ℕ) → ((i : ℕ) → n ≤ i → bit w i ≡ false) → w < 2 ^ n
below_from_bits w n none =
    shr_none w n (no_bits (w / 2 ^ n) (λ i. bit-shr w n i ∙ none (n + i) (omega arith)))
