-- What is promised of sets of books. Each is a statement, a type whose proof is owed. Assumes nothing.
use Rattle.std.specs.Prelude.{◌≡◌, ℕ, ◌-◌, ◌^◌, ◌<◌, ◌≤◌, Bool, false, List, Option, ◌≢◌, slice_index}
use Rattle.readings.specs.Bits.{bit}
use Rattle.readings.specs.Tables.{Table, table_of}
use Rattle.sets.specs.Sets.{Among, Members, Smallest, size_of}
use Rattle.sets.specs.Tables.{InFront, Words, otherwise}

-- a set is determined by its members
abbrev pub Determined : Type 0
Determined = (P : ℕ → Bool) (a b : ℕ) → a < 2 ^ 64 → b < 2 ^ 64 → Members a P → Members b P → a ≡ b

-- a set that is among another and is not that one is smaller
abbrev pub Smaller : Type 0
Smaller = (a b : ℕ) → a < 2 ^ 64 → b < 2 ^ 64 → Among a b → a ≢ b → size_of a < size_of b

-- a set that is among another and as large is that one
abbrev pub AsLarge : Type 0
AsLarge = (a b : ℕ) → a < 2 ^ 64 → b < 2 ^ 64 → Among a b → size_of a ≡ size_of b → a ≡ b

-- a set has size 0 exactly if no book is in it
abbrev pub Empty : Type 0
Empty = (s : ℕ) → s < 2 ^ 64 → (size_of s ≡ 0 → (i : ℕ) → bit s i ≡ false) × (((i : ℕ) → bit s i ≡ false) → size_of s ≡ 0)

-- there is one smallest book, or none
abbrev pub OneSmallest : Type 0
OneSmallest = (P : ℕ → Bool) (x y : Option ℕ) → Smallest P x → Smallest P y → x ≡ y

-- the set of a row is what the table calls reading otherwise: of the books below n just those, and none from n on; so book 0 is never in it
abbrev pub RowSet : Type 0
RowSet =
    (n : ℕ) (rows : List ℕ) (p s : ℕ) → n ≤ 64 → s < 2 ^ 64 → Members s (otherwise n (slice_index rows p)) →
    ((i : ℕ) → i < n → bit s i ≡ (table_of n rows).other p i) × ((i : ℕ) → n ≤ i → bit s i ≡ false) × (bit s 0 ≡ false)

-- a row turned round, with 1 for 0 at each of the n books, has the same set
abbrev pub TurnedRound : Type 0
TurnedRound = (n w i : ℕ) → 0 < n → w < 2 ^ n → otherwise n (2 ^ n - 1 - w) i ≡ otherwise n w i

-- what lent memory holds after the sets were written is determined
abbrev pub OneFilling : Type 0
OneFilling = (t : Table) (k : ℕ) (old x y : List ℕ) → Words x → Words y → InFront t k old x → InFront t k old y → x ≡ y
