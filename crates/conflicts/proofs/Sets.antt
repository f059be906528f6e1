-- When two sets of books cross.
use Rattle.std.proofs.Common.{◌≡◌, ℕ, ◌^◌, ◌<◌, Bool, true, false, not, ◌&&◌, inl, inr, arith}
use Rattle.std.proofs.lemmas.Bool.{and_parts, both_ways, not-true}
use Rattle.std.proofs.lemmas.Bool.Decides.{nat_tests}
use Rattle.readings.specs.Bits.{bit}
use Rattle.sets.specs.Sets.{Among, Apart, only, shared}
use Rattle.sets.proofs.Counts.{some_or_none}
use Rattle.sets.proofs.Sets.{among_below, apart_below}
use Rattle.conflicts.specs.Crossing.{Agree, Cross}

-- ---- one is among the other, or they are apart

pub among_uncrossed : (a b : ℕ) → Among a b → Cross a b → ⊥
unfolding Among Cross
among_uncrossed a b f (x, (j, y), z) =
    let e = and_parts (bit a j) (not (bit b j)) y in
    both_ways (bit b j) (not-true (bit b j) e.1) (f j e.0)

pub turned_uncrossed : (a b : ℕ) → Among b a → Cross a b → ⊥
unfolding Among Cross
turned_uncrossed a b f (x, y, (k, z)) =
    let e = and_parts (bit b k) (not (bit a k)) z in
    both_ways (bit a k) (not-true (bit a k) e.1) (f k e.0)

pub apart_uncrossed : (a b : ℕ) → Apart a b → Cross a b → ⊥
unfolding Apart Cross
apart_uncrossed a b f ((i, x), y, z) = let e = and_parts (bit a i) (bit b i) x in f i e.0 e.1

-- ---- neither

some_only : (a b : ℕ) → a < 2 ^ 64 → (Among a b → ⊥) → (j : ℕ) × (only a b j ≡ true)
some_only a b h some =
    elim (some_or_none 64 (only a b)) [ inl (j, l, e) ↦ (j, e) | inr none ↦ absurd (some (among_below 64 a b h (λ i l x. holds (bit a i) (bit b i) (none i l) x))) ]
  where
    holds : (x y : Bool) → (x && not y) ≡ false → x ≡ true → y ≡ true
    holds x y e f = grind (arith, nat_tests)

some_shared : (a b : ℕ) → a < 2 ^ 64 → (Apart a b → ⊥) → (i : ℕ) × (shared a b i ≡ true)
some_shared a b h some =
    elim (some_or_none 64 (shared a b)) [ inl (i, l, e) ↦ (i, e) | inr none ↦ absurd (some (apart_below 64 a b h (λ i l x y. holds (bit a i) (bit b i) (none i l) x y))) ]
  where
    holds : (x y : Bool) → (x && y) ≡ false → x ≡ true → y ≡ true → ⊥
    holds x y e f g = grind (arith, nat_tests)

pub crosses : (a b : ℕ) → a < 2 ^ 64 → b < 2 ^ 64 → (Among a b → ⊥) → (Among b a → ⊥) → (Apart a b → ⊥) → Cross a b
unfolding Cross
crosses a b ha hb f g h = (some_shared a b ha h, some_only a b ha f, some_only b a hb g)

pub uncrossed_agree : (n a b : ℕ) → (Cross a b → ⊥) → Agree n a b
unfolding Agree Cross
uncrossed_agree n a b none i j k li lj lk x y z = none ((i, x), (j, y), (k, z))

-- what masks say of two sets, and what that says of their conflicts
pub ruleset pairs = (among_uncrossed, turned_uncrossed, apart_uncrossed, crosses, uncrossed_agree)
