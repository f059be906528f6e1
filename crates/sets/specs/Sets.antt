-- Sets of books as numbers: book i is in the set s if bit i of s is set. Assumes nothing: these are definitions.
--   shared, only, either   whether a book is in both sets, in the first alone, in one or the other
--   Members                which books a set has
--   Among, Apart           each book of one set is in the other; no book is in both
--   SameBooks              each book is in both or in none
--   count, size_of         how many numbers have a property; how many books a set has
--   SmallestBelow          the smallest number below n with a property, or that there is none
--   Smallest               the smallest book with a property, or that there is none
use Rattle.std.specs.Prelude.{◌≡◌, ℕ, zero, suc, ◌+◌, ◌<◌, Bool, true, false, if◌then◌else◌, not, ◌&&◌, ◌||◌, Some, None, Option, ◌≢◌}
use Rattle.readings.specs.Bits.{bit}

abbrev pub shared : ℕ → ℕ → ℕ → Bool
shared a b i = bit a i && bit b i

abbrev pub only : ℕ → ℕ → ℕ → Bool
only a b i = bit a i && not (bit b i)

abbrev pub either : ℕ → ℕ → ℕ → Bool
either a b i = bit a i || bit b i

-- the books of s are those with P; a number of 64 bits has room for the books below 64
unfoldable pub Members : ℕ → (ℕ → Bool) → Type 0
Members s P = (i : ℕ) → i < 64 → bit s i ≡ P i

unfoldable pub Among : ℕ → ℕ → Type 0
Among a b = (i : ℕ) → bit a i ≡ true → bit b i ≡ true

unfoldable pub Apart : ℕ → ℕ → Type 0
Apart a b = (i : ℕ) → bit a i ≡ true → bit b i ≢ true

unfoldable pub SameBooks : ℕ → ℕ → Type 0
SameBooks a b = (i : ℕ) → bit a i ≡ bit b i

-- how many of the numbers below n have P
unfoldable pub count : ℕ → (ℕ → Bool) → ℕ
count zero P = 0
count (suc n) P = count n P + (if P n then 1 else 0)

abbrev pub size_of : ℕ → ℕ
size_of s = count 64 (bit s)

-- of the numbers below n the smallest with P, or that none has it
abbrev pub SmallestBelow : ℕ → (ℕ → Bool) → Option ℕ → Type 0
SmallestBelow n P None = (i : ℕ) → i < n → P i ≡ false
SmallestBelow n P (Some k) = (k < n) × (P k ≡ true) × ((i : ℕ) → i < k → P i ≡ false)

abbrev pub Smallest : (ℕ → Bool) → Option ℕ → Type 0
Smallest = SmallestBelow 64
