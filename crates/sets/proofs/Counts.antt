-- How many numbers have a property, or whether some has it, and that the ones of a number are its bits.
use Rattle.std.proofs.Common.{◌≡◌, ℕ, zero, suc, ◌+◌, ◌/◌, ◌%◌, ◌^◌, ◌<◌, ◌≤◌, Bool, true, false, cond, eqb, ◌⊎◌, sym, refl, ap, ◌∙◌, inl, inr, pow-suc, add-one, arith, below_more}
use lib.Count.{ones, ones-le, ones_step}
use Rattle.std.proofs.lemmas.Bool.{cases_Bool, cases_lt, false≢true}
use Rattle.std.proofs.lemmas.Bool.Decides.{nat_tests}
use Rattle.readings.specs.Bits.{bit}
use Rattle.readings.proofs.Bits.{bit-suc, bit-zero}
use Rattle.sets.specs.Sets.{count, size_of}

-- ---- one number

one_le : (x y : Bool) → (x ≡ true → y ≡ true) → cond {A = ℕ} x 1 0 ≤ cond {A = ℕ} y 1 0
one_le true true f = omega arith
one_le true false f = absurd (false≢true (f refl))
one_le false y f = omega arith

one_same : (x y : Bool) → cond {A = ℕ} x 1 0 ≡ cond {A = ℕ} y 1 0 → x ≡ y
one_same true true e = refl
one_same false false e = refl
one_same true false e = absurd (omega arith)
one_same false true e = absurd (omega arith)

-- ---- all below n

pub count_like : (n : ℕ) (P Q : ℕ → Bool) → ((i : ℕ) → i < n → P i ≡ Q i) → count n P ≡ count n Q
unfolding count
count_like zero P Q same = refl
count_like (suc n) P Q same =
    let rest = count_like n P Q (λ i l. same i (omega arith)) in
    let here = ap (λ x. cond {A = ℕ} x 1 0) (same n (omega arith)) in
    omega arith

-- what P has Q has: P has no more, and if it has as many, it is the same
pub count_le : (n : ℕ) (P Q : ℕ → Bool) → ((i : ℕ) → i < n → P i ≡ true → Q i ≡ true) → count n P ≤ count n Q
unfolding count
count_le zero P Q among = omega arith
count_le (suc n) P Q among =
    let rest = count_le n P Q (λ i l. among i (omega arith)) in
    let here = one_le (P n) (Q n) (among n (omega arith)) in
    omega arith

pub count_same : (n : ℕ) (P Q : ℕ → Bool) → ((i : ℕ) → i < n → P i ≡ true → Q i ≡ true) → count n P ≡ count n Q → (i : ℕ) → i < n → P i ≡ Q i
unfolding count
count_same zero P Q among e i l = absurd (omega arith)
count_same (suc n) P Q among e i l =
    let fewer = count_le n P Q (λ j g. among j (omega arith)) in
    let here = one_le (P n) (Q n) (among n (omega arith)) in
    let rest = count_same n P Q (λ j g. among j (omega arith)) (omega arith) i in
    let last = one_same (P n) (Q n) (omega arith) in
    elim (cases_lt i n) [ inl g ↦ rest g | inr g ↦ (let at : i ≡ n = omega arith in ap P at ∙ last ∙ ap Q (sym at)) ]

pub count_none : (n : ℕ) (P : ℕ → Bool) → ((i : ℕ) → i < n → P i ≡ false) → count n P ≡ 0
unfolding count
count_none zero P none = refl
count_none (suc n) P none =
    let rest = count_none n P (λ i l. none i (omega arith)) in
    let here = ap (λ x. cond {A = ℕ} x 1 0) (none n (omega arith)) in
    omega arith

-- where none has P from n on, counting on finds no more
pub count_past : (n k : ℕ) (P : ℕ → Bool) → ((i : ℕ) → n ≤ i → P i ≡ false) → count (n + k) P ≡ count n P
unfolding count
count_past n zero P none = ap (λ (x : ℕ). count x P) (omega arith)
count_past n (suc k) P none =
    let rest = count_past n k P none in
    let here = ap (λ x. cond {A = ℕ} x 1 0) (none (n + k) (omega arith)) in
    let at : n + suc k ≡ suc (n + k) = omega arith in
    ap (λ (x : ℕ). count x P) at ∙ omega arith

-- ---- some or none

-- some number below n has P, or none
pub some_or_none : (n : ℕ) (P : ℕ → Bool) → ((k : ℕ) × (k < n) × (P k ≡ true)) ⊎ ((k : ℕ) → k < n → P k ≡ false)
some_or_none zero P = inr (λ k l. absurd (omega arith))
some_or_none (suc n) P = by (some_or_none n P) (cases_Bool (P n))
  where
    by : ((k : ℕ) × (k < n) × (P k ≡ true)) ⊎ ((k : ℕ) → k < n → P k ≡ false) → (P n ≡ true) ⊎ (P n ≡ false) → ((k : ℕ) × (k < suc n) × (P k ≡ true)) ⊎ ((k : ℕ) → k < suc n → P k ≡ false)
    by (inl (k, l, e)) here = inl (k, omega arith, e)
    by (inr none) (inl e) = inl (n, omega arith, e)
    by (inr none) (inr e) = inr (rw add-one at (below_more (λ k. P k ≡ false) n none e))

-- ---- ones

count_front : (n : ℕ) (P : ℕ → Bool) → count (suc n) P ≡ cond (P 0) 1 0 + count n (λ i. P (suc i))
unfolding count
count_front zero P = omega arith
count_front (suc n) P = let rest = count_front n P in omega arith

pub ones-count : (k s : ℕ) → s < 2 ^ k → ones s ≡ count k (bit s)
unfolding count
ones-count zero s h = omega (arith, ones-le 0 s h)
ones-count (suc k) s h =
    let p = pow-suc 2 k in
    let step = ones_step s in
    let half = ones-count k (s / 2) (omega arith) in
    let rest = count_like k (λ i. bit s (suc i)) (bit (s / 2)) (λ i l. bit-suc s i) in
    let front = count_front k (bit s) in
    let here = ap (λ x. cond {A = ℕ} x 1 0) (bit-zero s) ∙ digit (s % 2) (omega arith) in
    omega arith
  where
    digit : (u : ℕ) → u < 2 → cond {A = ℕ} (eqb u 1) 1 0 ≡ u
    digit u h = grind (arith, nat_tests)

-- at 64 bits, as `count_ones` counts them
pub ones_are : (s : ℕ) → s < 2 ^ 64 → ones s ≡ size_of s
ones_are = ones-count 64
