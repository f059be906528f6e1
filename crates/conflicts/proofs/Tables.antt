-- The conflicts of a table and of its sets.
use Rattle.std.proofs.Common.{◌≡◌, ℕ, ◌<◌, ◌≤◌, true, false, not, ◌⊎◌, List, length, get_or, Some, None, Option, sym, refl, ap, ◌∙◌, subst, inl, inr, arith}
use Rattle.std.proofs.lemmas.Bool.{and_from, and_parts, both_ways, cases_lt, cases_order, not_from_false, not-true}
use Rattle.readings.specs.Bits.{bit}
use Rattle.readings.specs.Tables.{Table}
use Rattle.sets.specs.Sets.{only, shared}
use Rattle.sets.specs.Tables.{SetsOf, Words}
use Rattle.sets.proofs.Tables.{sets_none_past, sets_reads}
use Rattle.conflicts.specs.Conflicts.{Answers, Conflict, FirstConflict, NoLater, named, numbers}
use Rattle.conflicts.specs.Crossing.{Cross, Crossing, Finds}
use Rattle.conflicts.specs.Statements.{AlikeAgree, CrossingPlaces, EitherFirst, SameAnswer, Tied}
use Rattle.conflicts.specs.declared.search.Conflict.{Conflict as Named}

-- ---- conflicts of one table

-- the same conflict with its places the other way round
abbrev pub swapped : (t : Table) → Conflict t → Conflict t
swapped t c =
    let h = c.there in
    record {
      p = c.q;
      q = c.p;
      both = c.both;
      one = c.two;
      two = c.one;
      there = (h.1, h.0, h.2, h.4, h.3);
      both_is = (c.both_is.1, c.both_is.0);
      one_is = (c.two_is.1, c.two_is.0);
      two_is = (c.one_is.1, c.one_is.0);
    }

pub either_first : EitherFirst
either_first t c = (swapped t c, refl)

pub alike_agree : AlikeAgree
alike_agree t c same = both_ways (t.other c.q c.one) c.one_is.1 (sym (same c.one c.there.3) ∙ c.one_is.0)

pub apart_places : (t : Table) (c : Conflict t) → c.p ≡ c.q → ⊥
apart_places t c e = alike_agree t c (λ i l. ap (λ (p : ℕ). t.other p i) e)

-- ---- a table and its sets

module _ (t : Table) (sets : List ℕ) (few : t.books ≤ 64) (s : SetsOf t t.places sets) where
  reads : (p i : ℕ) → p < t.places → i < t.books → bit (get_or sets p 0) i ≡ t.other p i
  reads = sets_reads t t.places sets s few

  long : length sets ≡ t.places
  unfolding SetsOf
  long = s.0

  shared_reads : (p q i : ℕ) → p < t.places → q < t.places → i < t.books → t.other p i ≡ true → t.other q i ≡ true → shared (get_or sets p 0) (get_or sets q 0) i ≡ true
  shared_reads p q i hp hq hi x y = and_from _ _ (reads p i hp hi ∙ x) (reads q i hq hi ∙ y)

  only_reads : (p q i : ℕ) → p < t.places → q < t.places → i < t.books → t.other p i ≡ true → t.other q i ≡ false → only (get_or sets p 0) (get_or sets q 0) i ≡ true
  only_reads p q i hp hq hi x y = and_from _ _ (reads p i hp hi ∙ x) (not_from_false _ (reads q i hq hi ∙ y))

  reads_shared : (p q i : ℕ) → p < t.places → q < t.places → i < t.books → shared (get_or sets p 0) (get_or sets q 0) i ≡ true → (t.other p i ≡ true) × (t.other q i ≡ true)
  reads_shared p q i hp hq hi e =
      let both = and_parts (bit (get_or sets p 0) i) (bit (get_or sets q 0) i) e in
      (sym (reads p i hp hi) ∙ both.0, sym (reads q i hq hi) ∙ both.1)

  reads_only : (p q i : ℕ) → p < t.places → q < t.places → i < t.books → only (get_or sets p 0) (get_or sets q 0) i ≡ true → (t.other p i ≡ true) × (t.other q i ≡ false)
  reads_only p q i hp hq hi e =
      let both = and_parts (bit (get_or sets p 0) i) (not (bit (get_or sets q 0) i)) e in
      (sym (reads p i hp hi) ∙ both.0, sym (reads q i hq hi) ∙ not-true (bit (get_or sets q 0) i) both.1)

  -- three books by which two sets cross make a conflict of the table
  conflict_by_sets : (p q i j k : ℕ) → p < t.places → q < t.places → i < t.books → j < t.books → k < t.books →
      shared (get_or sets p 0) (get_or sets q 0) i ≡ true → only (get_or sets p 0) (get_or sets q 0) j ≡ true → only (get_or sets q 0) (get_or sets p 0) k ≡ true →
      (d : Conflict t) × (named d ≡ record { p = p; q = q; both = i; one = j; two = k })
  conflict_by_sets p q i j k hp hq hi hj hk x y z =
      let w = reads_only q p k hq hp hk z in (
        record {
          p = p;
          q = q;
          both = i;
          one = j;
          two = k;
          there = (hp, hq, hi, hj, hk);
          both_is = reads_shared p q i hp hq hi x;
          one_is = reads_only p q j hp hq hj y;
          two_is = (w.1, w.0);
        },
        refl,
      )

  from_sets : (c : Named) → Crossing sets t.books c → (d : Conflict t) × (named d ≡ c)
  from_sets c x =
      let o = x.order in
      let h = x.there in
      let e = long in
      let hq : c.q < t.places = omega arith in
      let hp : c.p < t.places = omega arith in
      conflict_by_sets c.p c.q c.both c.one c.two hp hq h.1 h.2 h.3 x.both_is x.one_is x.two_is

  to_sets : (d : Conflict t) → d.p < d.q → Crossing sets t.books (named d)
  to_sets d l =
      let h = d.there in
      record {
        order = l;
        there = (subst (λ (m : ℕ). d.q < m) (sym long) h.1, h.2, h.3, h.4);
        both_is = shared_reads d.p d.q d.both h.0 h.1 h.2 d.both_is.0 d.both_is.1;
        one_is = only_reads d.p d.q d.one h.0 h.1 h.3 d.one_is.0 d.one_is.1;
        two_is = only_reads d.q d.p d.two h.1 h.0 h.4 d.two_is.1 d.two_is.0;
      }

  -- ---- what is said of both

  none_of_table : ((c : Named) → Crossing sets t.books c → ⊥) → Conflict t → ⊥
  none_of_table none d = by (cases_order d.p d.q)
    where
      by : (d.p ≡ d.q) ⊎ ((d.p < d.q) ⊎ (d.q < d.p)) → ⊥
      by (inl e) = apart_places t d e
      by (inr (inl l)) = none (named d) (to_sets d l)
      by (inr (inr l)) = none (named (swapped t d)) (to_sets (swapped t d) l)

  first_of_table : (c : Named) → Crossing sets t.books c × ((d : Named) → Crossing sets t.books d → NoLater (numbers c) (numbers d)) → FirstConflict t c
  first_of_table c (x, first) =
      let k = from_sets c x in
      record { conflict = k.0; is = k.1; order = x.order; first = λ d. by d (cases_order d.p d.q) }
    where
      by : (d : Conflict t) → (d.p ≡ d.q) ⊎ ((d.p < d.q) ⊎ (d.q < d.p)) → NoLater (numbers c) (numbers (named d))
      by d (inl e) = absurd (apart_places t d e)
      by d (inr (inl l)) = first (named d) (to_sets d l)
      by d (inr (inr l)) = elim (first (named (swapped t d)) (to_sets (swapped t d) l)) [ inl g ↦ inl (omega arith) | inr (e, rest) ↦ inl (omega arith) ]

  first_of_sets : (c : Named) → FirstConflict t c → Crossing sets t.books c × ((d : Named) → Crossing sets t.books d → NoLater (numbers c) (numbers d))
  first_of_sets c f =
      let o = f.order in
      let p_is = ap (λ (x : Named). x.p) f.is in
      let q_is = ap (λ (x : Named). x.q) f.is in (
        subst (Crossing sets t.books) f.is (to_sets f.conflict (omega arith)),
        λ d x. (let k = from_sets d x in subst (λ (e : Named). NoLater (numbers c) (numbers e)) k.1 (f.first k.0)),
      )

  pub same_for : (r : Option Named) → (Finds sets t.books r → Answers t r) × (Answers t r → Finds sets t.books r)
  unfolding Finds Answers
  same_for None = (none_of_table, λ none c x. none (from_sets c x).0)
  same_for (Some c) = (first_of_table c, first_of_sets c)

  -- ---- the sets of two places

  -- a book of a set is one of the table's
  known_book : Words sets → (p i : ℕ) → p < t.places → bit (get_or sets p 0) i ≡ true → i < t.books
  known_book words p i hp x =
      elim (cases_lt i t.books) [ inl l ↦ l | inr l ↦ absurd (both_ways (bit (get_or sets p 0) i) (sets_none_past t t.places sets s words p i hp l) x) ]

  pub crossing_for : (p q : ℕ) → Words sets → p < t.places → q < t.places →
      (Cross (get_or sets p 0) (get_or sets q 0) → (c : Conflict t) × (c.p ≡ p) × (c.q ≡ q)) × ((c : Conflict t) × (c.p ≡ p) × (c.q ≡ q) → Cross (get_or sets p 0) (get_or sets q 0))
  unfolding Cross
  crossing_for p q words hp hq = (to_table, from_table)
    where
      to_table : ((i : ℕ) × (shared (get_or sets p 0) (get_or sets q 0) i ≡ true)) × ((j : ℕ) × (only (get_or sets p 0) (get_or sets q 0) j ≡ true)) × ((k : ℕ) × (only (get_or sets q 0) (get_or sets p 0) k ≡ true)) → (c : Conflict t) × (c.p ≡ p) × (c.q ≡ q)
      to_table ((i, x), (j, y), (k, z)) =
          let hi = known_book words p i hp (and_parts (bit (get_or sets p 0) i) (bit (get_or sets q 0) i) x).0 in
          let hj = known_book words p j hp (and_parts (bit (get_or sets p 0) j) (not (bit (get_or sets q 0) j)) y).0 in
          let hk = known_book words q k hq (and_parts (bit (get_or sets q 0) k) (not (bit (get_or sets p 0) k)) z).0 in
          let d = conflict_by_sets p q i j k hp hq hi hj hk x y z in
          (d.0, ap (λ (c : Named). c.p) d.1, ap (λ (c : Named). c.q) d.1)

      from_table : (c : Conflict t) × (c.p ≡ p) × (c.q ≡ q) → ((i : ℕ) × (shared (get_or sets p 0) (get_or sets q 0) i ≡ true)) × ((j : ℕ) × (only (get_or sets p 0) (get_or sets q 0) j ≡ true)) × ((k : ℕ) × (only (get_or sets q 0) (get_or sets p 0) k ≡ true))
      from_table (c, e, f) =
          let h = c.there in (
            (c.both, simp (← e, ← f) (shared_reads c.p c.q c.both h.0 h.1 h.2 c.both_is.0 c.both_is.1)),
            (c.one, simp (← e, ← f) (only_reads c.p c.q c.one h.0 h.1 h.3 c.one_is.0 c.one_is.1)),
            (c.two, simp (← e, ← f) (only_reads c.q c.p c.two h.1 h.0 h.4 c.two_is.1 c.two_is.0)),
          )

pub tied : Tied
tied t sets few s = (from_sets t sets few s, to_sets t sets few s)

pub same_answer : SameAnswer
same_answer t sets r few s = same_for t sets few s r

pub crossing_places : CrossingPlaces
crossing_places t sets p q few words s hp hq = crossing_for t sets few s p q words hp hq
