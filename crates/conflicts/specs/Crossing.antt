-- Conflicts of sets of books, as they lie in a list, one for each place. Assumes nothing: these are definitions.
--   Cross       two sets conflict: one book is in both, one in the first alone, one in the second alone
--   Agree       by no three of the first n books do two sets conflict
--   Crossing    what is named is a conflict of two sets of the list, by three of the first n books
--   Finds       what is said of the list: the first of these, or that there is none
use Rattle.std.specs.Prelude.{◌≡◌, ℕ, ◌<◌, true, List, length, Some, None, Option, ◌≢◌, slice_index}
use Rattle.sets.specs.Sets.{only, shared}
use Rattle.conflicts.specs.Conflicts.{NoLater, numbers}
use Rattle.conflicts.specs.declared.search.Conflict.{Conflict as Named}

unfoldable pub Cross : ℕ → ℕ → Type 0
Cross a b = ((i : ℕ) × (shared a b i ≡ true)) × ((j : ℕ) × (only a b j ≡ true)) × ((k : ℕ) × (only b a k ≡ true))

unfoldable pub Agree : ℕ → ℕ → ℕ → Type 0
Agree n a b = (i j k : ℕ) → i < n → j < n → k < n → shared a b i ≡ true → only a b j ≡ true → only b a k ≢ true

pub record Crossing (sets : List ℕ) (n : ℕ) (c : Named) : Type 0 where
  pub order : c.p < c.q
  pub there : (c.q < length sets) × (c.both < n) × (c.one < n) × (c.two < n)
  pub both_is : shared (slice_index sets c.p) (slice_index sets c.q) c.both ≡ true
  pub one_is : only (slice_index sets c.p) (slice_index sets c.q) c.one ≡ true
  pub two_is : only (slice_index sets c.q) (slice_index sets c.p) c.two ≡ true

unfoldable pub Finds : List ℕ → ℕ → Option Named → Type 0
Finds sets n None = (c : Named) → Crossing sets n c → ⊥
Finds sets n (Some c) = Crossing sets n c × ((d : Named) → Crossing sets n d → NoLater (numbers c) (numbers d))
