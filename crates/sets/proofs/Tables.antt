-- The sets of the places of a table, in lent memory.
use Rattle.std.proofs.Common.{◌≡◌, ℕ, ◌+◌, ◌^◌, ◌<◌, ◌≤◌, Bool, true, false, cond, not, ◌&&◌, ltb, List, [], ◌∷◌, ◌++◌, length, get_or, take, drop, set, sym, refl, ap, ◌∙◌, ap₂, subst, inl, inr, arith}
use Rattle.std.proofs.lemmas.List.{drop-drop, drop-set-lt, drop_at, ext_get_or, get_or_append_left, get_or_push, get_or-take, length_push, length-take-le, take-append-drop, take_all, take_at, take_more_set}
use Rattle.std.proofs.lemmas.Bool.{and_right, cases_lt, le-ltb}
use Rattle.readings.specs.Bits.{bit}
use Rattle.readings.specs.Files.{row_at}
use Rattle.readings.specs.Tables.{Table, differ, differ_self, table_at, table_of}
use Rattle.readings.specs.declared.file.Sizes.{Sizes}
use Rattle.readings.proofs.Files.{row_or_none}
use Rattle.sets.specs.Sets.{Members}
use Rattle.sets.specs.Statements.{OneFilling, RowSet, TurnedRound}
use Rattle.sets.specs.Tables.{InFront, SetsOf, Words, other_at, otherwise}
use Rattle.sets.proofs.Masks.{bit-bit_not}
use Rattle.sets.proofs.Sets.{below_reads, determined, members_like, none_past}

-- ---- the set of a row

pub row_set : RowSet
unfolding Members table_of
row_set n rows p s few h m =
    let w = get_or rows p 0 in (
      below_reads n s (λ i. differ (bit w 0) (bit w i)) few m,
      none_past n s (λ i. differ (bit w 0) (bit w i)) h m,
      m 0 (omega arith) ∙ and_right (ltb 0 n) (differ (bit w 0) (bit w 0)) (differ_self (bit w 0)),
    )

pub turned_round : TurnedRound
turned_round n w i some h =
    elim (cases_lt i n) [
      | inl l ↦ ap (λ x. ltb i n && x) (ap₂ differ (bit-bit_not n w 0 h some) (bit-bit_not n w i h l) ∙ both (bit w 0) (bit w i))
      | inr l ↦ rw (le-ltb i n l)
    ]
  where
    both : (x y : Bool) → differ (not x) (not y) ≡ differ x y
    both true true = refl
    both true false = refl
    both false true = refl
    both false false = refl

-- ---- the set of a place

pub place_set : (s : Sizes) (bytes : List ℕ) (p v : ℕ) → Members v (otherwise s.books (cond (ltb p s.places) (row_at bytes p) 0)) → Members v (other_at (table_at s bytes) p)
unfolding table_at table_of
place_set s bytes p v =
    members_like v _ _ (λ i l. ap (λ (w : ℕ). otherwise s.books w i) (row_or_none bytes s.places p))

-- ---- the sets of a table

pub sets_reads : (t : Table) (k : ℕ) (sets : List ℕ) → SetsOf t k sets → t.books ≤ 64 → (p i : ℕ) → p < k → i < t.books → bit (get_or sets p 0) i ≡ t.other p i
unfolding SetsOf
sets_reads t k sets s few p i hp hi = below_reads t.books (get_or sets p 0) (t.other p) few (s.1 p hp) i hi

pub sets_none_past : (t : Table) (k : ℕ) (sets : List ℕ) → SetsOf t k sets → Words sets → (p i : ℕ) → p < k → t.books ≤ i → bit (get_or sets p 0) i ≡ false
unfolding SetsOf
sets_none_past t k sets s words p i hp hi = none_past t.books (get_or sets p 0) (t.other p) (words p) (s.1 p hp) i hi

-- ---- lent memory

pub none_yet : (t : Table) (old : List ℕ) → InFront t 0 old old
unfolding InFront SetsOf
none_yet t old = ((refl, λ p l. absurd (omega arith)), refl)

sets_push : (t : Table) (p v : ℕ) (sets : List ℕ) → Members v (other_at t p) → SetsOf t p sets → SetsOf t (p + 1) (sets ++ v ∷ [])
unfolding SetsOf
sets_push t p v sets m s = (length_push sets v ∙ ap (λ (x : ℕ). x + 1) s.0, each)
  where
    each : (q : ℕ) → q < p + 1 → Members (get_or (sets ++ v ∷ []) q 0) (other_at t q)
    each q h =
        let long = s.0 in
        elim (cases_lt q p) [
          | inl g ↦ rw (get_or_append_left sets (v ∷ []) 0 q (omega arith)) (s.1 q g)
          | inr g ↦ (let last : p ≡ q = omega arith in rw (get_or_push sets v 0 q (long ∙ last), ← last) m)
        ]

pub one_more : (t : Table) (p v : ℕ) (old new : List ℕ) → p < length new → Members v (other_at t p) → InFront t p old new → InFront t (p + 1) old (set new p v)
unfolding InFront
one_more t p v old new l m front = (
  rw (take_more_set new p v l) (sets_push t p v (take p new) m front.0),
  drop-set-lt (p + 1) new p v (omega arith) ∙ sym (drop-drop 1 p new) ∙ ap (drop 1) front.1 ∙ drop-drop 1 p old,
)

-- the part in front was filled, and what lay after it lies there still
pub whole_front : (t : Table) (k m : ℕ) (old front : List ℕ) → length front ≡ length (take m old) → m ≤ length old → m ≡ k → InFront t k (take m old) front → InFront t k old (front ++ drop m old)
unfolding InFront
whole_front t k m old front h l g f =
    let e : length front ≡ k = h ∙ length-take-le m old l ∙ g in (
      subst (λ (xs : List ℕ). SetsOf t k xs) (take_all k front (omega arith) ∙ sym (take_at front (drop m old) k e)) f.0,
      drop_at front (drop m old) k e ∙ ap (λ (q : ℕ). drop q old) g,
    )

pub in_front : (t : Table) (k : ℕ) (old new : List ℕ) → InFront t k old new → SetsOf t k (take k new)
unfolding InFront
in_front t k old new front = front.0

pub one_filling : OneFilling
unfolding InFront SetsOf
one_filling t k old x y wx wy fx fy =
    let lx = fx.0.0 in
    let ly = fy.0.0 in
    let fronts : take k x ≡ take k y =
    ext_get_or 0 (take k x) (take k y) (lx ∙ sym ly)
    (λ p l. determined (other_at t p) _ _ (word x p (omega arith) wx) (word y p (omega arith) wy) (fx.0.1 p (omega arith)) (fy.0.1 p (omega arith))) in
    sym (take-append-drop k x) ∙ ap₂ (λ (a b : List ℕ). a ++ b) fronts (fx.1 ∙ sym fy.1) ∙ take-append-drop k y
  where
    word : (z : List ℕ) (p : ℕ) → p < k → Words z → get_or (take k z) p 0 < 2 ^ 64
    word z p l w = let e = get_or-take k z p 0 l in let h = w p in omega arith

-- the filling of lent memory, step by step
pub ruleset filling = (none_yet, one_more)
