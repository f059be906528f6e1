-- The bits of what masks make: of `&`, `|`, `!`, `<<`, and of the first n ones.
use Rattle.std.proofs.Common.{◌≡◌, ℕ, zero, suc, ◌-◌, ◌*◌, ◌/◌, ◌%◌, ◌^◌, ◌<◌, ◌≤◌, Bool, true, false, min, max, not, ◌&&◌, ◌||◌, eqb, ltb, sym, refl, ap, ◌∙◌, ap₂, inl, inr, pow-suc, arith, w64}
use lib.Bits.{bit_and, bit_or}
use Rattle.std.specs.Int.{bit_at, bit_not}
use Rattle.std.proofs.lemmas.Nat.{one_shl, pow_pos}
use Rattle.std.proofs.lemmas.Nat.Bits.{bit_at_and, bit_at-lt, bit_at_ones, bit_at_ones_above, bit_at_or, bit_at-pow_other, bit_at-pow_same, shr_and_one}
use Rattle.std.proofs.lemmas.Bool.{cases_eq, cases_lt, eq-eqb, lt-ltb, le-ltb, ne_eqb}
use Rattle.std.proofs.lemmas.Bool.Decides.{nat_tests}
use Rattle.readings.specs.Bits.{bit}
use Rattle.readings.proofs.Bits.{bit_none, bit-suc, bit-zero, bits_above}
use Rattle.readings.specs.Tables.{differ}
use Rattle.sets.specs.Sets.{Members, either, only, shared}
use Rattle.sets.specs.Tables.{otherwise}

-- ---- `a & b`, `a | b`, `!b`, of which the library speaks by `bit_at`, a number, and of `!b` at fixed widths

pub bit-bit_and : (a b i : ℕ) → bit (bit_and a b) i ≡ shared a b i
unfolding bit
bit-bit_and a b i = ap (λ (x : ℕ). eqb x 1) (bit_at_and a b i) ∙ digits (bit_at a i) (bit_at b i) (bit_at-lt a i) (bit_at-lt b i)
  where
    digits : (u v : ℕ) → u < 2 → v < 2 → eqb (min u v) 1 ≡ (eqb u 1 && eqb v 1)
    digits u v h k = grind (arith, nat_tests)

pub bit-bit_or : (a b i : ℕ) → bit (bit_or a b) i ≡ either a b i
unfolding bit
bit-bit_or a b i = ap (λ (x : ℕ). eqb x 1) (bit_at_or a b i) ∙ digits (bit_at a i) (bit_at b i) (bit_at-lt a i) (bit_at-lt b i)
  where
    digits : (u v : ℕ) → u < 2 → v < 2 → eqb (max u v) 1 ≡ (eqb u 1 || eqb v 1)
    digits u v h k = grind (arith, nat_tests)

-- at w bits
pub bit-bit_not : (w b i : ℕ) → b < 2 ^ w → i < w → bit (2 ^ w - 1 - b) i ≡ not (bit b i)
bit-bit_not zero b i h l = absurd (omega arith)
bit-bit_not (suc w) b zero h l =
    let e = pow-suc 2 w in
    let odd : (2 ^ suc w - 1 - b) % 2 ≡ 1 - b % 2 = omega arith in
    bit-zero (2 ^ suc w - 1 - b) ∙ ap (λ (x : ℕ). eqb x 1) odd ∙ digit (b % 2) (omega arith) ∙ ap not (sym (bit-zero b))
  where
    digit : (u : ℕ) → u < 2 → eqb (1 - u) 1 ≡ not (eqb u 1)
    digit u h = grind (arith, nat_tests)
bit-bit_not (suc w) b (suc i) h l =
    let e = pow-suc 2 w in
    let half : (2 ^ suc w - 1 - b) / 2 ≡ 2 ^ w - 1 - b / 2 = omega arith in
    bit-suc (2 ^ suc w - 1 - b) i
    ∙ ap (λ (x : ℕ). bit x i) half
    ∙ bit-bit_not w (b / 2) i (omega arith) (omega arith)
    ∙ ap not (sym (bit-suc b i))

pub bit_only : (a b i : ℕ) → b < 2 ^ 64 → i < 64 → bit (bit_and a (bit_not w64 b)) i ≡ only a b i
bit_only a b i h l = bit-bit_and a (bit_not w64 b) i ∙ ap (λ x. bit a i && x) (bit-bit_not 64 b i h l)

-- ---- one bit, and the first n

pub bit-pow : (k i : ℕ) → bit (2 ^ k) i ≡ eqb i k
unfolding bit
bit-pow k i =
    elim (cases_eq i k) [
      | inl e ↦ (ap (λ (j : ℕ). eqb (bit_at (2 ^ k) j) 1) e ∙ ap (λ (x : ℕ). eqb x 1) (bit_at-pow_same k) ∙ sym (eq-eqb i k e))
      | inr ne ↦ (ap (λ (x : ℕ). eqb x 1) (bit_at-pow_other k i ne) ∙ sym (ne_eqb i k ne))
    ]

pub bit_first : (n i : ℕ) → bit (2 ^ n - 1) i ≡ ltb i n
unfolding bit
bit_first n i =
    elim (cases_lt i n) [
      | inl l ↦ (ap (λ (x : ℕ). eqb x 1) (bit_at_ones n i l) ∙ sym (lt-ltb i n l))
      | inr l ↦ (ap (λ (x : ℕ). eqb x 1) (bit_at_ones_above n i l) ∙ sym (le-ltb i n l))
    ]

-- ---- what the code makes of them

pub shifted : (s i : ℕ) → eqb (bit_and (s / 2 ^ i) 1) 1 ≡ bit s i
unfolding bit
shifted s i = ap (λ (x : ℕ). eqb x 1) (shr_and_one s i)

-- no book from 64 on is in a set
pub past : (s i : ℕ) → s < 2 ^ 64 → 64 ≤ i → bit s i ≡ false
past s i h = bits_above s 64 h i

pub one : (i : ℕ) → i < 64 → Members (1 * 2 ^ i % 2 ^ 64) (λ j. eqb j i)
unfolding Members
one i h j l = ap (λ (s : ℕ). bit s j) (one_shl i 64 h) ∙ bit-pow i j

pub one_past : (i : ℕ) → 64 ≤ i → Members 0 (λ j. eqb j i)
unfolding Members
one_past i h j l = bit_none j ∙ sym (ne_eqb j i (λ e. omega arith))

pub or : (a b : ℕ) → Members (bit_or a b) (either a b)
unfolding Members
or a b i l = bit-bit_or a b i

pub first : (n : ℕ) → n < 64 → Members (1 * 2 ^ n % 2 ^ 64 - 1) (λ i. ltb i n)
unfolding Members
first n h i l = ap (λ (s : ℕ). bit (s - 1) i) (one_shl n 64 h) ∙ bit_first n i

pub first_all : (n : ℕ) → 64 ≤ n → Members (2 ^ 64 - 1) (λ i. ltb i n)
unfolding Members
first_all n h i l = bit_first 64 i ∙ lt-ltb i 64 l ∙ sym (lt-ltb i n (omega arith))

within : (n w m : ℕ) (first : Bool) → bit w 0 ≡ first → (x i : ℕ) → bit x i ≡ differ first (bit w i) → bit m i ≡ ltb i n → bit (bit_and x m) i ≡ otherwise n w i
within n w m first e x i at known =
    bit-bit_and x m i ∙ ap₂ (λ a b. a && b) at known ∙ swap (differ first (bit w i)) (ltb i n) ∙ ap (λ b. ltb i n && differ b (bit w i)) (sym e)
  where
    swap : (a b : Bool) → (a && b) ≡ (b && a)
    swap a b = grind arith

pub kept : (n w m : ℕ) → bit w 0 ≡ false → Members m (λ i. ltb i n) → Members (bit_and w m) (otherwise n w)
unfolding Members
kept n w m e known i l = within n w m false e w i refl (known i l)

pub turned : (n w m : ℕ) → w < 2 ^ 64 → bit w 0 ≡ true → Members m (λ i. ltb i n) → Members (bit_and (bit_not w64 w) m) (otherwise n w)
unfolding Members
turned n w m h e known i l = within n w m true e (bit_not w64 w) i (bit-bit_not 64 w i h l) (known i l)

pub first_some : (n : ℕ) → n < 64 → 1 ≤ 1 * 2 ^ n % 2 ^ 64
first_some n h = let e = one_shl n 64 h in let p = pow_pos n in omega arith

-- the first n books as a mask
pub ruleset first_ones = (first, first_some, first_all)
