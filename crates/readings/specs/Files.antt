-- A table's file, and what reading it answers. Assumes nothing: these are definitions.
--   books_in, places_in    the two sizes as the file has them
--   no_books, no_places    whether they are missing or outside their limits
--   sizes_of               the sizes, or the refusal on their account
--   row_at, rows_in        the row of one place, and of each
--   known, AllKnown        whether each book that reads 1 is there, in a row and at all places
--   stranger               the first place with a book that is not there
--   bytes_of               the bytes of the rows, or the refusal on their account
--   Contents, reading      what a whole file holds, or the first refusal of the list
use Rattle.std.specs.Prelude.{ℕ, ◌+◌, ◌*◌, ◌/◌, ◌^◌, ◌<◌, Bool, if◌then◌else◌, ◌||◌, List, [], ◌∷◌, ◌++◌, codes, decimal, map, length, drop, Some, None, Ok, Err, Option, Result, ◌==◌, nat_lt, slice_index}
use Rattle.std.specs.List.{range_with_len, between}
use Rattle.readings.specs.Bits.{little}
use Rattle.readings.specs.declared.refusals.Refusal.{Refusal}
use Rattle.readings.specs.declared.refusals.Refusal.TheVariants.{BookCount, PlaceCount, TableLength, UnknownBook}
use Rattle.readings.specs.declared.file.Sizes.{Sizes}

-- ---- the sizes

-- n, in one byte
abbrev pub books_in : List ℕ → ℕ
books_in file = slice_index file 0

-- m, in two, the low byte first
abbrev pub places_in : List ℕ → ℕ
places_in file = slice_index file 1 + 256 * slice_index file 2

-- n is missing, 0 or above 64
abbrev pub no_books : List ℕ → Bool
no_books file = length file == 0 || books_in file == 0 || nat_lt 64 (books_in file)

-- m is missing, in whole or in part, or above 2,048
abbrev pub no_places : List ℕ → Bool
no_places file = nat_lt (length file) 3 || nat_lt 2048 (places_in file)

abbrev pub sizes_of : List ℕ → Result Sizes Refusal
sizes_of file =
    if no_books file then Err BookCount
    else if no_places file then Err PlaceCount
    else Ok (record { books = books_in file; places = places_in file })

-- as they are printed
abbrev pub sizes_text : Sizes → List ℕ
sizes_text s = codes "books " ++ (decimal s.books ++ (codes ", places " ++ decimal s.places))

-- ---- the rows

-- the row of the place p is the number that its eight bytes write: bit i is what book i reads
abbrev pub row_at : List ℕ → ℕ → ℕ
row_at bytes p = little (between (8 * p) (8 * p + 8) bytes)

-- the rows of m places, one for each
abbrev pub rows_in : List ℕ → ℕ → List ℕ
rows_in bytes m = map (row_at bytes) (range_with_len 0 m)

-- nothing is left of the row w above its first n bits
abbrev pub known : ℕ → ℕ → Bool
known n w = w / 2 ^ n == 0

-- so it is at each of m places: the row is below 2 ^ n
pub record AllKnown (n m : ℕ) (bytes : List ℕ) : Type 0 where
  pub at : (p : ℕ) → p < m → row_at bytes p < 2 ^ n

-- the first row that is not known, counted from p
abbrev pub stranger : ℕ → ℕ → List ℕ → Option ℕ
stranger n p [] = None
stranger n p (w ∷ rows) = if known n w then stranger n (p + 1) rows else Some p

abbrev pub unless_stranger : Option ℕ → List ℕ → Result (List ℕ) Refusal
unless_stranger None bytes = Ok bytes
unless_stranger (Some p) bytes = Err (UnknownBook p)

-- the bytes after the sizes, if they are eight for each place and no book in them is a stranger
abbrev pub bytes_of : List ℕ → Sizes → Result (List ℕ) Refusal
bytes_of file s =
    if length file == 3 + 8 * s.places then unless_stranger (stranger s.books 0 (rows_in (drop 3 file) s.places)) (drop 3 file)
    else Err (TableLength (length file))

-- ---- the whole file

-- n, and a row for each place
pub record Contents : Type 0 where
  pub books : ℕ
  pub rows : List ℕ

-- the next step at what the step before handed on, or its refusal
abbrev pub and_then : {X Y : Type 0} → Result X Refusal → (X → Result Y Refusal) → Result Y Refusal
and_then (Ok x) next = next x
and_then (Err e) next = Err e

abbrev pub reading : List ℕ → Result Contents Refusal
reading file = and_then (sizes_of file) (λ s. and_then (bytes_of file s) (λ bytes. Ok (record { books = s.books; rows = rows_in bytes s.places })))
