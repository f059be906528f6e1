-- The sets of the places of a table: of each, the books that read otherwise there than book 0 (a side of the split that the place makes). Assumes nothing: these are definitions.
--   otherwise     whether a book is in the set of a row
--   other_at      whether it is in the set of a place of a table
--   SetsOf        the sets of a table's first places
--   InFront       those sets, written over what lent memory held in front
--   Words         numbers of 64 bits
use Rattle.std.specs.Prelude.{◌≡◌, ℕ, ◌^◌, ◌<◌, Bool, ◌&&◌, List, length, take, drop, nat_lt, slice_index}
use Rattle.readings.specs.Bits.{bit}
use Rattle.readings.specs.Tables.{Table, differ}
use Rattle.sets.specs.Sets.{Members}

-- book i is one of n, and in the row w reads otherwise than book 0
abbrev pub otherwise : ℕ → ℕ → ℕ → Bool
otherwise n w i = nat_lt i n && differ (bit w 0) (bit w i)

-- book i is one of the table's, and reads otherwise at the place p
abbrev pub other_at : Table → ℕ → ℕ → Bool
other_at t p i = nat_lt i t.books && t.other p i

unfoldable pub SetsOf : Table → ℕ → List ℕ → Type 0
SetsOf t k sets = (length sets ≡ k) × ((p : ℕ) → p < k → Members (slice_index sets p) (other_at t p))

unfoldable pub InFront : Table → ℕ → List ℕ → List ℕ → Type 0
InFront t k old new = SetsOf t k (take k new) × (drop k new ≡ drop k old)

abbrev pub Words : List ℕ → Type 0
Words sets = (p : ℕ) → slice_index sets p < 2 ^ 64
