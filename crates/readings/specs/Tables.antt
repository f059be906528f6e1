-- Tables of readings. Assumes nothing: these are definitions.
use Rattle.std.specs.Prelude.{◌≡◌, ℕ, Bool, true, false, not, List, length, slice_index, refl}
use Rattle.readings.specs.Bits.{bit}
use Rattle.readings.specs.Files.{Contents, rows_in}
use Rattle.readings.specs.declared.file.Sizes.{Sizes}
use Rattle.readings.specs.declared.view.Rows.{Rows}

-- so many books (witnesses) and places (characters of two states); at a place a book reads as book 0 does, false, or the other way, true
pub record Table : Type 0 where
  pub books : ℕ
  pub places : ℕ
  pub other : ℕ → ℕ → Bool
  pub like_first : (p : ℕ) → other p 0 ≡ false

-- whether two readings differ
abbrev pub differ : Bool → Bool → Bool
differ true b = not b
differ false b = b

pub differ_self : (b : Bool) → differ b b ≡ false
differ_self true = refl
differ_self false = refl

-- the table of n books that rows stand for, one row for each place: bit i of a row is what book i reads
unfoldable pub table_of : ℕ → List ℕ → Table
table_of n rows =
    record {
      books = n;
      places = length rows;
      other = λ p i. differ (bit (slice_index rows p) 0) (bit (slice_index rows p) i);
      like_first = λ p. differ_self (bit (slice_index rows p) 0);
    }

-- the table that the bytes of rows stand for, and that of a view of them
unfoldable pub table_at : Sizes → List ℕ → Table
table_at s bytes = table_of s.books (rows_in bytes s.places)

abbrev pub table_in : Rows → Table
table_in rows = table_at rows.sizes rows.bytes.now

-- the contents of a file, as a view of them has these
abbrev pub contents : Rows → Contents
contents rows = record { books = rows.sizes.books; rows = rows_in rows.bytes.now rows.sizes.places }
