-- Conflicts of a table: two places that no tree can explain together. Assumes nothing: these are definitions.
--   Conflict        two places and three books that, with book 0, read in all four ways
--   Named           what the program names of a conflict: the numbers of the two places and the three books
--   NoLater         of two lists of as many numbers, the first comes before the second or is the same
--   FirstConflict   what is named is a conflict of the table, and none comes before it
--   Answers         what is said of a table: its first conflict, or that there is none
use Rattle.std.specs.Prelude.{◌≡◌, ℕ, ◌<◌, true, false, ◌⊎◌, List, [], ◌∷◌, Some, None, Option}
use Rattle.readings.specs.Tables.{Table}
use Rattle.conflicts.specs.declared.search.Conflict.{Conflict as Named}

-- a conflict: two places and three books that, with book 0, read in all four ways (the failure of the four-gamete test)
pub record Conflict (t : Table) : Type 0 where
  pub p : ℕ
  pub q : ℕ
  pub both : ℕ
  pub one : ℕ
  pub two : ℕ
  pub there : (p < t.places) × (q < t.places) × (both < t.books) × (one < t.books) × (two < t.books)
  pub both_is : (t.other p both ≡ true) × (t.other q both ≡ true)
  pub one_is : (t.other p one ≡ true) × (t.other q one ≡ false)
  pub two_is : (t.other p two ≡ false) × (t.other q two ≡ true)

abbrev pub named : {t : Table} → Conflict t → Named
named c = record { p = c.p; q = c.q; both = c.both; one = c.one; two = c.two }

-- where the two lists first differ, the first has the smaller number
abbrev pub NoLater : List ℕ → List ℕ → Type 0
NoLater [] [] = Unit {0}
NoLater [] (y ∷ ys) = ⊥
NoLater (x ∷ xs) [] = ⊥
NoLater (x ∷ xs) (y ∷ ys) = (x < y) ⊎ ((x ≡ y) × NoLater xs ys)

-- conflicts are compared by p, then by q, then by the three books
abbrev pub numbers : Named → List ℕ
numbers c = c.p ∷ c.q ∷ c.both ∷ c.one ∷ c.two ∷ []

pub record FirstConflict (t : Table) (c : Named) : Type 0 where
  pub conflict : Conflict t
  pub is : named conflict ≡ c
  pub order : c.p < c.q
  pub first : (d : Conflict t) → NoLater (numbers c) (numbers (named d))

unfoldable pub Answers : Table → Option Named → Type 0
Answers t None = Conflict t → ⊥
Answers t (Some c) = FirstConflict t c
