-- The smallest book of a set, by the zeros below its first one.
use Rattle.std.proofs.Common.{◌≡◌, ℕ, zero, suc, ◌/◌, ◌%◌, ◌^◌, ◌<◌, Bool, false, eqb, Some, None, Option, sym, w64, refl, ap, ◌∙◌, inl, inr, pow-suc, arith}
use lib.Bits.{bit_and}
use lib.Count.{count_trailing_zeros, under}
use Rattle.std.proofs.lemmas.Bool.{both_ways, cases_order}
use Rattle.std.specs.Int.{bit_not}
use Rattle.readings.specs.Bits.{bit}
use Rattle.readings.proofs.Bits.{bit_none, bit-suc, bit-zero}
use Rattle.sets.specs.Sets.{Smallest, SmallestBelow, only, shared}
use Rattle.sets.specs.Statements.{OneSmallest}
use Rattle.sets.proofs.Masks.{bit-bit_and, bit_only}

pub smallest_like : (P Q : ℕ → Bool) (r : Option ℕ) → ((i : ℕ) → i < 64 → P i ≡ Q i) → Smallest P r → Smallest Q r
smallest_like P Q None same none = λ i l. sym (same i l) ∙ none i l
smallest_like P Q (Some k) same s =
    let l = s.0 in
    (l, sym (same k l) ∙ s.1, λ i g. sym (same i (omega arith)) ∙ s.2 i g)

pub one_smallest : OneSmallest
one_smallest P None None x y = refl
one_smallest P None (Some k) x y = absurd (both_ways (P k) (x k y.0) y.1)
one_smallest P (Some j) None x y = absurd (both_ways (P j) (y j x.0) x.1)
one_smallest P (Some j) (Some k) x y =
    elim (cases_order j k) [
      | inl e ↦ ap Some e
      | inr (inl l) ↦ absurd (both_ways (P j) (y.2 j l) x.1)
      | inr (inr l) ↦ absurd (both_ways (P k) (x.2 k l) y.1)
    ]

-- t is the lowest bit of s, which has k of them
abbrev pub Low : ℕ → ℕ → ℕ → Type 0
Low k s t = SmallestBelow k (bit s) (Some t)

Low-suc : (k s t : ℕ) → s % 2 ≡ 0 → Low k (s / 2) t → Low (suc k) s (suc t)
Low-suc k s t even low = (omega (arith, low.0), bit-suc s t ∙ low.1, below)
  where
    below : (i : ℕ) → i < suc t → bit s i ≡ false
    below zero l = bit-zero s ∙ ap (λ (x : ℕ). eqb x 1) even
    below (suc i) l = bit-suc s i ∙ low.2 i (omega arith)

-- for every number of bits, and not for the widths of types alone
pub trailing_low : (k s : ℕ) → 0 < s → s < 2 ^ k → Low k s (count_trailing_zeros k s)
unfolding count_trailing_zeros
trailing_low zero s some h = absurd (omega arith)
trailing_low (suc k) s some h =
    let e = pow-suc 2 k in
    by (s % 2) refl (λ l. trailing_low k (s / 2) l (omega arith))
  where
    by : (d : ℕ) → s % 2 ≡ d → (0 < s / 2 → Low k (s / 2) (count_trailing_zeros k (s / 2))) → Low (suc k) s (under d (count_trailing_zeros k (s / 2)))
    by zero even half = Low-suc k s (count_trailing_zeros k (s / 2)) even (half (omega arith))
    by (suc d) odd half =
        let one : s % 2 ≡ 1 = omega arith in
        (omega arith, bit-zero s ∙ ap (λ (x : ℕ). eqb x 1) one, λ i l. absurd (omega arith))

pub trailing_smallest : (s : ℕ) → s < 2 ^ 64 → (s ≡ 0 → ⊥) → Smallest (bit s) (Some (count_trailing_zeros 64 s))
trailing_smallest s h some = trailing_low 64 s (omega (arith, some)) h

pub none_smallest : (s : ℕ) → s ≡ 0 → Smallest (bit s) None
none_smallest s e i l = ap (λ (x : ℕ). bit x i) e ∙ bit_none i

-- ---- of a mask

pub smallest_of_shared : (a b : ℕ) (r : Option ℕ) → Smallest (bit (bit_and a b)) r → Smallest (shared a b) r
smallest_of_shared a b r = smallest_like _ _ r (λ i l. bit-bit_and a b i)

pub smallest_of_only : (a b : ℕ) (r : Option ℕ) → b < 2 ^ 64 → Smallest (bit (bit_and a (bit_not w64 b))) r → Smallest (only a b) r
smallest_of_only a b r h = smallest_like _ _ r (λ i l. bit_only a b i h l)
