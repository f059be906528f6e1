-- The search, from book to book and from pair to pair.
use Rattle.std.proofs.Common.{◌≡◌, ℕ, ◌+◌, ◌<◌, ◌≤◌, Bool, true, false, List, [], ◌∷◌, length, get_or, Some, None, Option, sym, refl, subst, inl, inr, arith, below_more}
use Rattle.std.proofs.lemmas.Bool.{both_ways, cases_lt}
use Rattle.std.specs.Bool.{then_some}
use Rattle.std.specs.Option.{option_or}
use Rattle.sets.specs.Sets.{SmallestBelow, only, shared}
use Rattle.conflicts.specs.Seen.{conflict_by, conflict_of, seen_with}
use Rattle.conflicts.specs.Conflicts.{NoLater, numbers}
use Rattle.conflicts.specs.Crossing.{Agree, Crossing, Finds}
use Rattle.conflicts.specs.declared.search.Conflict.{Conflict as Named}
use Rattle.conflicts.specs.declared.seen.Seen.{Seen}
use Rattle.conflicts.proofs.Order.{no_larger}

-- ---- the smallest so far

so_far_none : (P : ℕ → Bool) (o : Option ℕ) → o ≡ None → SmallestBelow 0 P o
so_far_none P None e = λ k l. absurd (omega arith)
so_far_none P (Some k) e = let no_one : ◌≡◌ {A = ℕ} 0 1 = cc in absurd (omega arith)

so_far_more : (P : ℕ → Bool) (i : ℕ) (o : Option ℕ) (here : Bool) → here ≡ P i → SmallestBelow i P o → SmallestBelow (i + 1) P (option_or o (then_some here i))
so_far_more P i (Some k) here e s = (omega (arith, s.0), s.1, s.2)
so_far_more P i None true e s = (omega arith, sym e, s)
so_far_more P i None false e s = below_more (λ k. P k ≡ false) i s (sym e)

-- none below n has P, where none was seen
so_far_absent : (P : ℕ → Bool) (i n : ℕ) → n ≤ i → SmallestBelow i P None → (k : ℕ) → k < n → P k ≡ true → ⊥
so_far_absent P i n h s k l e = both_ways (P k) (s k (omega arith)) e

-- what was seen is no larger than any other
so_far_least : (P : ℕ → Bool) (i x : ℕ) → SmallestBelow i P (Some x) → (k : ℕ) → P k ≡ true → x ≤ k
so_far_least P i x s k e = elim (cases_lt k x) [ inl l ↦ absurd (both_ways (P k) (s.2 k l) e) | inr l ↦ l ]

-- ---- from book to book

-- what was seen of two sets when the books below i were looked at
unfoldable pub Looked : ℕ → ℕ → ℕ → Seen → Type 0
Looked i a b s = SmallestBelow i (shared a b) s.both × SmallestBelow i (only a b) s.one × SmallestBelow i (only b a) s.two

pub no_book : (a b : ℕ) (s : Seen) → s.both ≡ None → s.one ≡ None → s.two ≡ None → Looked 0 a b s
unfolding Looked
no_book a b s x y z = (so_far_none (shared a b) s.both x, so_far_none (only a b) s.one y, so_far_none (only b a) s.two z)

pub none_seen : (p q : ℕ) (s : Seen) → s.both ≡ None → conflict_by p q s ≡ None
none_seen p q s e = rw e refl

pub one_book : (a b i : ℕ) (s : Seen) → Looked i a b s → Looked (i + 1) a b (seen_with s a b i)
unfolding Looked
one_book a b i s (x, y, z) = (
  so_far_more (shared a b) i s.both (shared a b i) refl x,
  so_far_more (only a b) i s.one (only a b i) refl y,
  so_far_more (only b a) i s.two (only b a i) refl z,
)

-- ---- from pair to pair

-- each conflict of the sets is one of the places p and q, or comes after these
unfoldable pub Clear : List ℕ → ℕ → ℕ → ℕ → Type 0
Clear sets n p q = (c : Named) → Crossing sets n c → NoLater (p ∷ q ∷ []) (c.p ∷ c.q ∷ [])

pub no_pair : (sets : List ℕ) (n : ℕ) → Clear sets n 0 (0 + 1)
unfolding Clear
no_pair sets n c x = no_larger 0 c.p (omega arith) (no_larger 1 c.q (omega (arith, x.order)) tt)

pub one_pair : (sets : List ℕ) (n p q : ℕ) → Agree n (get_or sets p 0) (get_or sets q 0) → Clear sets n p q → Clear sets n p (q + 1)
unfolding Agree Clear
one_pair sets n p q agree clear c x =
    elim (clear c x) [
      | inl l ↦ inl l
      | inr (e, inl l) ↦ inr (e, no_larger (q + 1) c.q (omega arith) tt)
      | inr (e, inr (f, u)) ↦ (let t = x.there in
          absurd (agree c.both c.one c.two t.1 t.2 t.3 (simp (e, f) x.both_is) (simp (e, f) x.one_is) (simp (e, f) x.two_is)))
    ]

-- a book of some kind was not seen
agree_unseen : (n i a b p q : ℕ) (x y z : Option ℕ) → SmallestBelow i (shared a b) x → SmallestBelow i (only a b) y → SmallestBelow i (only b a) z → conflict_of p q x y z ≡ None → n ≤ i → Agree n a b
unfolding Agree
agree_unseen n i a b p q None y z sx sy sz e h j k l lj lk ll u v w = so_far_absent (shared a b) i n h sx j lj u
agree_unseen n i a b p q (Some x) None z sx sy sz e h j k l lj lk ll u v w = so_far_absent (only a b) i n h sy k lk v
agree_unseen n i a b p q (Some x) (Some y) None sx sy sz e h j k l lj lk ll u v w = so_far_absent (only b a) i n h sz l ll w
agree_unseen n i a b p q (Some x) (Some y) (Some z) sx sy sz e h j k l lj lk ll u v w = let no_one : ◌≡◌ {A = ℕ} 0 1 = cc in omega arith

pub all_books : (sets : List ℕ) (n p q i : ℕ) (s : Seen) → Looked i (get_or sets p 0) (get_or sets q 0) s → conflict_by p q s ≡ None → n ≤ i → Clear sets n p q → Clear sets n p (q + 1)
unfolding Looked
all_books sets n p q i s (x, y, z) e h = one_pair sets n p q (agree_unseen n i _ _ p q s.both s.one s.two x y z e h)

pub one_row : (sets : List ℕ) (n p q : ℕ) → length sets ≤ q → Clear sets n p q → Clear sets n (p + 1) (p + 1 + 1)
unfolding Clear
one_row sets n p q h clear c x =
    let o = x.order in
    let t = x.there.0 in
    elim (clear c x) [
      | inl l ↦ no_larger (p + 1) c.p (omega arith) (no_larger (p + 1 + 1) c.q (omega arith) tt)
      | inr (e, inl l) ↦ absurd (omega arith)
      | inr (e, inr (f, u)) ↦ absurd (omega arith)
    ]

-- ---- the end

pub none_found : (sets : List ℕ) (n p q : ℕ) → length sets ≤ p → Clear sets n p q → Finds sets n None
unfolding Clear Finds
none_found sets n p q h clear c x =
    let o = x.order in
    let t = x.there.0 in
    elim (clear c x) [ inl l ↦ omega arith | inr (e, rest) ↦ omega arith ]

first_found : (sets : List ℕ) (n p q i : ℕ) (x y z : Option ℕ) (c : Named) → p < q → q < length sets → i < n → Clear sets n p q →
    SmallestBelow (i + 1) (shared (get_or sets p 0) (get_or sets q 0)) x → SmallestBelow (i + 1) (only (get_or sets p 0) (get_or sets q 0)) y → SmallestBelow (i + 1) (only (get_or sets q 0) (get_or sets p 0)) z →
    conflict_of p q x y z ≡ Some c → Finds sets n (Some c)
unfolding Clear Finds
first_found sets n p q i None y z c o t l clear sx sy sz e = let no_one : ◌≡◌ {A = ℕ} 0 1 = cc in absurd (omega arith)
first_found sets n p q i (Some x) None z c o t l clear sx sy sz e = let no_one : ◌≡◌ {A = ℕ} 0 1 = cc in absurd (omega arith)
first_found sets n p q i (Some x) (Some y) None c o t l clear sx sy sz e = let no_one : ◌≡◌ {A = ℕ} 0 1 = cc in absurd (omega arith)
first_found sets n p q i (Some x) (Some y) (Some z) c o t l clear sx sy sz e = subst (Finds sets n) e (here, first)
  where
    here : Crossing sets n (record { p = p; q = q; both = x; one = y; two = z })
    here = record {
      order = o;
      there = (t, omega (arith, sx.0), omega (arith, sy.0), omega (arith, sz.0));
      both_is = sx.1;
      one_is = sy.1;
      two_is = sz.1;
    }

    first : (d : Named) → Crossing sets n d → NoLater (p ∷ q ∷ x ∷ y ∷ z ∷ []) (numbers d)
    first d u =
        elim (clear d u) [
          | inl g ↦ inl g
          | inr (f, inl g) ↦ inr (f, inl g)
          | inr (f, inr (g, w)) ↦ (
              let both = no_larger x d.both (so_far_least (shared (get_or sets p 0) (get_or sets q 0)) (i + 1) x sx d.both (simp (f, g) u.both_is)) in
              let one = no_larger y d.one (so_far_least (only (get_or sets p 0) (get_or sets q 0)) (i + 1) y sy d.one (simp (f, g) u.one_is)) in
              let two = no_larger z d.two (so_far_least (only (get_or sets q 0) (get_or sets p 0)) (i + 1) z sz d.two (simp (f, g) u.two_is)) in
              inr (f, inr (g, both (one (two tt)))))
        ]

pub one_found : (sets : List ℕ) (n p q i : ℕ) (s : Seen) (c : Named) → p < q → q < length sets → i < n → Clear sets n p q →
    Looked (i + 1) (get_or sets p 0) (get_or sets q 0) s → conflict_by p q s ≡ Some c → Finds sets n (Some c)
unfolding Looked
one_found sets n p q i s c o t l clear (x, y, z) e = first_found sets n p q i s.both s.one s.two c o t l clear x y z e

-- what the search does, step by step
pub ruleset steps = (no_book, none_seen, one_book, no_pair, one_pair, all_books, one_row, none_found, one_found)
