-- The table that a file stands for: its sizes, and its readings off the bits of the bytes.
use Rattle.std.proofs.Common.{◌≡◌, ℕ, ◌+◌, ◌*◌, ◌/◌, ◌%◌, ◌<◌, List, length, get_or, drop, sym, refl, ap, ◌∙◌, ap₂, arith}
use Rattle.std.proofs.lemmas.List.{get_or-drop}
use Rattle.readings.specs.Bits.{bit}
use Rattle.readings.specs.Files.{places_in, row_at}
use Rattle.readings.specs.Statements.{TableBits}
use Rattle.readings.specs.Tables.{differ, table_at, table_of}
use Rattle.readings.specs.declared.file.Sizes.{Sizes}
use Rattle.readings.proofs.Bits.{bytes_drop}
use Rattle.readings.proofs.Files.{get_or-rows_in, length-rows_in, row_bits, taken}

pub places_at : (s : Sizes) (bytes : List ℕ) → (table_at s bytes).places ≡ s.places
unfolding table_at table_of
places_at s bytes = length-rows_in bytes s.places

pub books_at : (s : Sizes) (bytes : List ℕ) → (table_at s bytes).books ≡ s.books
unfolding table_at table_of
books_at s bytes = refl

pub table_bits : TableBits
unfolding table_of
table_bits file c small e p i hp hi =
    let t = taken file c e in
    let m_is = ap length t.rows_are ∙ length-rows_in (drop 3 file) (places_in file) in
    let row : get_or c.rows p 0 ≡ row_at (drop 3 file) p = ap (λ (rows : List ℕ). get_or rows p 0) t.rows_are ∙ get_or-rows_in (drop 3 file) (places_in file) p (omega arith) in
    let i_is : 8 * (i / 8) + i % 8 ≡ i = omega arith in
    ap₂ differ (book row 0 0 (3 + 8 * p) (omega arith) (omega arith) (omega arith))
    (ap (bit (get_or c.rows p 0)) (sym i_is) ∙ book row (i / 8) (i % 8) (3 + 8 * p + i / 8) (omega arith) (omega arith) (omega arith))
  where
    book : {w : ℕ} → w ≡ row_at (drop 3 file) p → (b j at : ℕ) → at ≡ 3 + (8 * p + b) → b < 8 → j < 8 → bit w (8 * b + j) ≡ bit (get_or file at 0) j
    book row b j at at_is hb hj =
        ap (λ (w : ℕ). bit w (8 * b + j)) row
        ∙ row_bits (drop 3 file) (bytes_drop 3 file small) p b j hb hj
        ∙ ap (λ (x : ℕ). bit x j) (get_or-drop 3 file (8 * p + b) 0 ∙ ap (λ (k : ℕ). get_or file k 0) (sym at_is))
