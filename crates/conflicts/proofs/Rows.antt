-- Conflicts read off the rows of a table: in all four ways, and none of a row turned round.
use Rattle.std.proofs.Common.{◌≡◌, ℕ, ◌<◌, Bool, true, false, not, ◌⊎◌, List, length, get_or, sym, refl, ap, ◌∙◌, subst, inl, inr}
use Rattle.std.proofs.lemmas.Bool.{lt-ltb}
use Rattle.readings.specs.Bits.{bit}
use Rattle.readings.specs.Tables.{differ, differ_self, table_of}
use Rattle.sets.specs.Tables.{otherwise}
use Rattle.sets.proofs.Tables.{turned_round}
use Rattle.conflicts.specs.Conflicts.{Conflict}
use Rattle.conflicts.specs.Statements.{FourWays, SomeReads, TurnedAgree}
use Rattle.conflicts.proofs.Tables.{alike_agree}

-- ---- two readings

differ-not : (a : Bool) → differ a (not a) ≡ true
differ-not true = refl
differ-not false = refl

differ-true : (a b : Bool) → differ a b ≡ true → b ≡ not a
differ-true true true e = sym e
differ-true true false e = refl
differ-true false b e = e

differ-false : (a b : Bool) → differ a b ≡ false → b ≡ a
differ-false true true e = refl
differ-false true false e = sym e
differ-false false b e = e

same_or_not : (x a : Bool) → (x ≡ a) ⊎ (x ≡ not a)
same_or_not true true = inl refl
same_or_not true false = inr refl
same_or_not false true = inr refl
same_or_not false false = inl refl

-- ---- all four ways

module _ (n : ℕ) (rows : List ℕ) (some : 0 < n) where
  four_of : (c : Conflict (table_of n rows)) → (x y : Bool) → SomeReads n (get_or rows c.p 0) (get_or rows c.q 0) x y
  unfolding table_of
  four_of c x y = by (same_or_not x (bit (get_or rows c.p 0) 0)) (same_or_not y (bit (get_or rows c.q 0) 0))
    where
      by : (x ≡ bit (get_or rows c.p 0) 0) ⊎ (x ≡ not (bit (get_or rows c.p 0) 0)) → (y ≡ bit (get_or rows c.q 0) 0) ⊎ (y ≡ not (bit (get_or rows c.q 0) 0)) → SomeReads n (get_or rows c.p 0) (get_or rows c.q 0) x y
      by (inl e) (inl f) = (0, some, sym e, sym f)
      by (inr e) (inr f) = (c.both, c.there.2, differ-true _ _ c.both_is.0 ∙ sym e, differ-true _ _ c.both_is.1 ∙ sym f)
      by (inr e) (inl f) = (c.one, c.there.3, differ-true _ _ c.one_is.0 ∙ sym e, differ-false _ _ c.one_is.1 ∙ sym f)
      by (inl e) (inr f) = (c.two, c.there.4, differ-false _ _ c.two_is.0 ∙ sym e, differ-true _ _ c.two_is.1 ∙ sym f)

  of_four : (p q : ℕ) → p < length rows → q < length rows → ((x y : Bool) → SomeReads n (get_or rows p 0) (get_or rows q 0) x y) → (c : Conflict (table_of n rows)) × (c.p ≡ p) × (c.q ≡ q)
  unfolding table_of
  of_four p q hp hq all =
      let x = bit (get_or rows p 0) 0 in
      let y = bit (get_or rows q 0) 0 in
      let i = all (not x) (not y) in
      let j = all (not x) y in
      let k = all x (not y) in (
        record {
          p = p;
          q = q;
          both = i.0;
          one = j.0;
          two = k.0;
          there = (hp, hq, i.1, j.1, k.1);
          both_is = (ap (differ x) i.2 ∙ differ-not x, ap (differ y) i.3 ∙ differ-not y);
          one_is = (ap (differ x) j.2 ∙ differ-not x, ap (differ y) j.3 ∙ differ_self y);
          two_is = (ap (differ x) k.2 ∙ differ_self x, ap (differ y) k.3 ∙ differ-not y);
        },
        refl,
        refl,
      )

pub four_ways : FourWays
four_ways n rows p q some hp hq = (
  λ k x y. (let c = k.0 in
      subst (λ (u : ℕ). SomeReads n (get_or rows u 0) (get_or rows q 0) x y) k.1
      (subst (λ (u : ℕ). SomeReads n (get_or rows c.p 0) (get_or rows u 0) x y) k.2 (four_of n rows some c x y))),
  of_four n rows some p q hp hq,
)

-- ---- a row turned round

pub turned_agree : TurnedAgree
unfolding table_of
turned_agree n rows c some h e = alike_agree (table_of n rows) c same
  where
    same : (i : ℕ) → i < n → differ (bit (get_or rows c.p 0) 0) (bit (get_or rows c.p 0) i) ≡ differ (bit (get_or rows c.q 0) 0) (bit (get_or rows c.q 0) i)
    same i l =
        let t = turned_round n (get_or rows c.p 0) i some h in
        let u : otherwise n (get_or rows c.q 0) i ≡ otherwise n (get_or rows c.p 0) i = rw e t in
        let v = lt-ltb i n l in
        sym (simp v at u)
