-- Sets of books by their members: when they are equal, one among the other, apart, and how large they are.
use Rattle.std.proofs.Common.{◌≡◌, ℕ, ◌^◌, ◌<◌, ◌≤◌, Bool, true, false, not, ◌&&◌, eqb, ltb, Decides, sym, refl, ap, ◌∙◌, inl, inr, arith, w64}
use lib.Bits.{bit_and, and_le_l}
use Rattle.std.proofs.lemmas.Bool.{both_ways, cases_eq, cases_lt, eq-eqb, eqb-true, false≢true, le-ltb, lt-ltb}
use Rattle.std.specs.Int.{bit_not}
use Rattle.readings.specs.Bits.{bit}
use Rattle.readings.proofs.Bits.{bit_none, bits_above, bits_equal}
use Rattle.sets.specs.Sets.{Among, Apart, Members, SameBooks, size_of}
use Rattle.sets.specs.Statements.{AsLarge, Determined, Empty, Smaller}
use Rattle.sets.proofs.Counts.{count_le, count_none, count_same}
use Rattle.sets.proofs.Masks.{bit-bit_and, bit_only}

-- ---- members

pub determined : Determined
unfolding Members
determined P a b ha hb ma mb = bits_equal 64 a b ha hb (λ i l. ma i l ∙ sym (mb i l))

pub members_like : (s : ℕ) (P Q : ℕ → Bool) → ((i : ℕ) → i < 64 → P i ≡ Q i) → Members s P → Members s Q
unfolding Members
members_like s P Q same m i l = m i l ∙ same i l

-- a member of a number of n bits is below n
pub member_below : (n s i : ℕ) → s < 2 ^ n → bit s i ≡ true → i < n
member_below n s i h x = elim (cases_lt i n) [ inl l ↦ l | inr l ↦ absurd (both_ways (bit s i) (bits_above s n h i l) x) ]

-- the books below n with a property: what is said of those, and of the rest
pub below_reads : (n s : ℕ) (P : ℕ → Bool) → n ≤ 64 → Members s (λ i. ltb i n && P i) → (i : ℕ) → i < n → bit s i ≡ P i
unfolding Members
below_reads n s P few m i l = m i (omega arith) ∙ ap (λ x. x && P i) (lt-ltb i n l)

pub none_past : (n s : ℕ) (P : ℕ → Bool) → s < 2 ^ 64 → Members s (λ i. ltb i n && P i) → (i : ℕ) → n ≤ i → bit s i ≡ false
unfolding Members
none_past n s P h m i l =
    elim (cases_lt i 64) [ inl g ↦ (m i g ∙ ap (λ x. x && P i) (le-ltb i n l)) | inr g ↦ bits_above s 64 h i g ]

no_members : (s : ℕ) → s < 2 ^ 64 → ((i : ℕ) → i < 64 → bit s i ≡ false) → s ≡ 0
no_members s h none = bits_equal 64 s 0 h (omega arith) (λ i l. none i l ∙ sym (bit_none i))

-- ---- among

pub among_below : (n a b : ℕ) → a < 2 ^ n → ((i : ℕ) → i < n → bit a i ≡ true → bit b i ≡ true) → Among a b
unfolding Among
among_below n a b h f i x = f i (member_below n a i h x) x

pub among_self : (a : ℕ) → Among a a
unfolding Among
among_self a i x = x

pub among_trans : (a b c : ℕ) → Among a b → Among b c → Among a c
unfolding Among
among_trans a b c f g i x = g i (f i x)

pub among_none_only : (a b : ℕ) → a < 2 ^ 64 → b < 2 ^ 64 → Decides (eqb (bit_and a (bit_not w64 b)) 0) (Among a b)
unfolding Among
among_none_only a b ha hb = (
  λ e i x.
      let l = member_below 64 a i ha x in
      let none = sym (bit_only a b i hb l) ∙ ap (λ (m : ℕ). bit m i) (eqb-true _ _ e) ∙ bit_none i in
      holds (bit a i) (bit b i) none x,
  λ f. eq-eqb _ _ (no_members _ (omega (arith, and_le_l a (bit_not w64 b))) (λ i l. bit_only a b i hb l ∙ lacks (bit a i) (bit b i) (f i))),
)
  where
    holds : (x y : Bool) → (x && not y) ≡ false → x ≡ true → y ≡ true
    holds true true e f = refl
    holds true false e f = sym e
    holds false y e f = absurd (false≢true f)

    lacks : (x y : Bool) → (x ≡ true → y ≡ true) → (x && not y) ≡ false
    lacks true y f = ap not (f refl)
    lacks false y f = refl

-- ---- apart

pub apart_below : (n a b : ℕ) → a < 2 ^ n → ((i : ℕ) → i < n → bit a i ≡ true → bit b i ≡ true → ⊥) → Apart a b
unfolding Apart
apart_below n a b h f i x y = f i (member_below n a i h x) x y

pub apart_none_shared : (a b : ℕ) → a < 2 ^ 64 → Decides (eqb (bit_and a b) 0) (Apart a b)
unfolding Apart
apart_none_shared a b ha = (
  λ e i x y. both_ways (bit (bit_and a b) i) (ap (λ (m : ℕ). bit m i) (eqb-true _ _ e) ∙ bit_none i) (bit-bit_and a b i ∙ join (bit a i) (bit b i) x y),
  λ f. eq-eqb _ _ (no_members _ (omega (arith, and_le_l a b)) (λ i l. bit-bit_and a b i ∙ lacks (bit a i) (bit b i) (f i))),
)
  where
    join : (x y : Bool) → x ≡ true → y ≡ true → (x && y) ≡ true
    join x y e f = grind arith

    lacks : (x y : Bool) → (x ≡ true → y ≡ true → ⊥) → (x && y) ≡ false
    lacks true true f = absurd (f refl refl)
    lacks true false f = refl
    lacks false y f = refl

-- ---- equal

pub equal_books : (a b : ℕ) → a < 2 ^ 64 → b < 2 ^ 64 → Decides (eqb a b) (SameBooks a b)
unfolding SameBooks
equal_books a b ha hb = (λ e i. ap (λ (s : ℕ). bit s i) (eqb-true a b e), λ same. eq-eqb a b (bits_equal 64 a b ha hb (λ i l. same i)))

-- ---- how large

pub among_size : (a b : ℕ) → Among a b → size_of a ≤ size_of b
unfolding Among
among_size a b f = count_le 64 (bit a) (bit b) (λ i l. f i)

pub as_large : AsLarge
unfolding Among
as_large a b ha hb f e = bits_equal 64 a b ha hb (count_same 64 (bit a) (bit b) (λ i l. f i) e)

pub smaller : Smaller
smaller a b ha hb f ne =
    let le = among_size a b f in
    elim (cases_eq (size_of a) (size_of b)) [ inl e ↦ absurd (ne (as_large a b ha hb f e)) | inr g ↦ omega (arith, g) ]

pub empty : Empty
empty s h = (
  λ e i.
      elim (cases_lt i 64) [
        | inl l ↦ (sym (count_same 64 (λ j. false) (bit s) (λ j k x. absurd (false≢true x)) (count_none 64 (λ j. false) (λ j k. refl) ∙ sym e) i l))
        | inr l ↦ (bits_above s 64 h i l)
      ],
  λ none. count_none 64 (bit s) (λ i l. none i),
)
