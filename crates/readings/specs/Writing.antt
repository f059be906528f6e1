-- How a table is written into a file, and so which files hold one. Assumes nothing: these are definitions.
use Rattle.std.specs.Prelude.{ℕ, zero, suc, ◌/◌, ◌%◌, ◌^◌, ◌<◌, ◌≤◌, List, [], ◌∷◌, length, slice_index}
use Rattle.std.specs.List.{flat_map}
use Rattle.readings.specs.Files.{Contents}

-- the number w in k bytes, the low byte first
unfoldable pub in_bytes : ℕ → ℕ → List ℕ
in_bytes zero w = []
in_bytes (suc k) w = w % 256 ∷ in_bytes k (w / 256)

-- n in one byte, m in two, the low byte first, and each row in eight
abbrev pub file_of : Contents → List ℕ
file_of c = c.books ∷ length c.rows % 256 ∷ length c.rows / 256 ∷ flat_map (in_bytes 8) c.rows

-- 1 to 64 books, at most 2,048 places, and no book that is not there
pub record Allowed (c : Contents) : Type 0 where
  pub some : 0 < c.books
  pub few : c.books ≤ 64
  pub short : length c.rows ≤ 2048
  pub known : (p : ℕ) → p < length c.rows → slice_index c.rows p < 2 ^ c.books
