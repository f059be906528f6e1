-- What is promised of the reading of tables. Each is a statement, a type whose proof is owed. Assumes nothing.
use Rattle.std.specs.Prelude.{◌≡◌, ℕ, ◌+◌, ◌*◌, ◌/◌, ◌%◌, ◌<◌, ◌≤◌, true, false, List, length, Ok, slice_index}
use Rattle.readings.specs.Bits.{Bytes, bit}
use Rattle.readings.specs.Files.{Contents, known, reading, row_at}
use Rattle.readings.specs.Tables.{differ, table_of}
use Rattle.readings.specs.Writing.{Allowed, file_of}

-- the bits of a row are the books: bit i of byte b of a place is book 8 b + i
abbrev pub RowBits : Type 0
RowBits = (bytes : List ℕ) → Bytes bytes → (p b i : ℕ) → b < 8 → i < 8 → bit (row_at bytes p) (8 * b + i) ≡ bit (slice_index bytes (8 * p + b)) i

-- a row is known exactly if no bit at or above n is set
abbrev pub KnownBits : Type 0
KnownBits =
    (n w : ℕ) → (known n w ≡ true → (i : ℕ) → n ≤ i → bit w i ≡ false) × (((i : ℕ) → n ≤ i → bit w i ≡ false) → known n w ≡ true)

-- in the table that a file stands for, book i reads otherwise at the place p exactly if its bit differs from that of book 0, the lowest of the place's first byte
abbrev pub TableBits : Type 0
TableBits =
    (file : List ℕ) (c : Contents) → Bytes file → reading file ≡ Ok c → (p i : ℕ) → p < length c.rows → i < 64 →
    (table_of c.books c.rows).other p i ≡ differ (bit (slice_index file (3 + 8 * p)) 0) (bit (slice_index file (3 + 8 * p + i / 8)) (i % 8))

-- a table within the limits is read as it was written
abbrev pub ReadsBack : Type 0
ReadsBack = (c : Contents) → Allowed c → reading (file_of c) ≡ Ok c

-- what is read was written so, and is within the limits: each other file is turned away
abbrev pub OnlyWritten : Type 0
OnlyWritten = (file : List ℕ) (c : Contents) → Bytes file → reading file ≡ Ok c → Allowed c × (file ≡ file_of c)
