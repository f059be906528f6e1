-- A table is read as it was written, and no other file is read.
use Rattle.std.proofs.Common.{◌≡◌, ℕ, zero, suc, ◌+◌, ◌*◌, ◌/◌, ◌%◌, ◌^◌, ◌<◌, ◌≤◌, ◌||◌, eqb, ltb, List, [], ◌∷◌, ◌++◌, map, length, get_or, take, drop, None, Ok, sym, refl, ap, ◌∙◌, ap₂, pow-suc, arith, length-append}
use native.Mathlib.Nat.{div-eq_of_lt}
use Rattle.std.specs.List.{range_with_len, flat_map}
use Rattle.std.proofs.lemmas.List.{take_at, drop_at, take-append-drop, length-take-le, length-drop, nil_from_length}
use Rattle.std.proofs.lemmas.List.FromFn.{fill_by_all, get_or-map-range_with_len, length-map-range_with_len}
use Rattle.std.proofs.Math.Pow.{pow_mono}
use Rattle.readings.specs.Bits.{Bytes, little}
use Rattle.std.proofs.lemmas.Bool.{cond-true, cond-false, eq-eqb, ne_eqb, le-ltb, or_from, or_parts, eqb-false, ltb-false}
use Rattle.readings.specs.declared.file.Sizes.{Sizes}
use Rattle.readings.specs.Files.{and_then, books_in, bytes_of, unless_stranger, known, no_books, no_places, places_in, row_at, rows_in, sizes_of, stranger}
use Rattle.readings.specs.Statements.{ReadsBack, OnlyWritten}
use Rattle.readings.specs.Writing.{file_of, in_bytes}
use Rattle.readings.proofs.Bits.{bytes_drop, bytes_take}
use Rattle.readings.proofs.Files.{length-rows_in, row_at-suc, row_at-zero, rows_known, taken}

-- ---- numbers in bytes

length-in_bytes : (k w : ℕ) → length (in_bytes k w) ≡ k
unfolding in_bytes
length-in_bytes zero w = refl
length-in_bytes (suc k) w = ap suc (length-in_bytes k (w / 256))

little-in_bytes : (k w : ℕ) → w < 256 ^ k → little (in_bytes k w) ≡ w
unfolding in_bytes
little-in_bytes zero w h = omega arith
little-in_bytes (suc k) w h =
    let e = pow-suc 256 k in
    let half = little-in_bytes k (w / 256) (omega arith) in
    omega arith

in_bytes-little : (bytes : List ℕ) → Bytes bytes → in_bytes (length bytes) (little bytes) ≡ bytes
unfolding in_bytes
in_bytes-little [] small = refl
in_bytes-little (b ∷ bytes) small =
    let h = small 0 in
    let low : (b + 256 * little bytes) % 256 ≡ b = omega arith in
    let high : (b + 256 * little bytes) / 256 ≡ little bytes = omega arith in
    ap₂ (λ (x : ℕ) (xs : List ℕ). x ∷ xs) low (ap (in_bytes (length bytes)) high ∙ in_bytes-little bytes (λ k. small (suc k)))

-- ---- rows in bytes

length_joined : (rows : List ℕ) → length (flat_map (in_bytes 8) rows) ≡ 8 * length rows
length_joined [] = refl
length_joined (w ∷ rows) =
    let e = length-append (in_bytes 8 w) (flat_map (in_bytes 8) rows) in
    let f = length-in_bytes 8 w in
    let g = length_joined rows in
    omega arith

row_joined : (rows : List ℕ) → ((p : ℕ) → p < length rows → get_or rows p 0 < 2 ^ 64) → (p : ℕ) → p < length rows → row_at (flat_map (in_bytes 8) rows) p ≡ get_or rows p 0
row_joined [] small p l = absurd (omega arith)
row_joined (w ∷ rows) small zero l =
    row_at-zero (in_bytes 8 w ++ flat_map (in_bytes 8) rows)
    ∙ ap little (take_at (in_bytes 8 w) (flat_map (in_bytes 8) rows) 8 (length-in_bytes 8 w))
    ∙ little-in_bytes 8 w (small 0 l)
row_joined (w ∷ rows) small (suc p) l =
    row_at-suc (in_bytes 8 w ++ flat_map (in_bytes 8) rows) p
    ∙ ap (λ (xs : List ℕ). row_at xs p) (drop_at (in_bytes 8 w) (flat_map (in_bytes 8) rows) 8 (length-in_bytes 8 w))
    ∙ row_joined rows (λ q h. small (suc q) (omega arith)) p (omega arith)

rows_joined : (rows : List ℕ) → ((p : ℕ) → p < length rows → get_or rows p 0 < 2 ^ 64) → rows_in (flat_map (in_bytes 8) rows) (length rows) ≡ rows
rows_joined rows small =
    sym (fill_by_all (row_at (flat_map (in_bytes 8) rows)) rows (length rows) 0 refl (λ p l. sym (row_joined rows small p l)))

-- the rows from the second on are those of the bytes from the ninth on
rows_in-suc : (bytes : List ℕ) (m : ℕ) → rows_in bytes (suc m) ≡ row_at bytes 0 ∷ rows_in (drop 8 bytes) m
rows_in-suc bytes m =
    ap (λ (xs : List ℕ). row_at bytes 0 ∷ xs)
    (fill_by_all (row_at (drop 8 bytes)) (map (row_at bytes) (range_with_len 1 m)) m 0 (length-map-range_with_len (row_at bytes) 1 m)
    (λ p l. get_or-map-range_with_len (row_at bytes) 1 m p (suc p) 0 l (omega arith) ∙ row_at-suc bytes p))

joined_rows : (m : ℕ) (bytes : List ℕ) → Bytes bytes → length bytes ≡ 8 * m → bytes ≡ flat_map (in_bytes 8) (rows_in bytes m)
joined_rows zero bytes small h = nil_from_length bytes (omega arith)
joined_rows (suc m) bytes small h =
    let front : length (take 8 bytes) ≡ 8 = length-take-le 8 bytes (omega arith) in
    let rest = length-drop 8 bytes in
    let byte : Bytes (take 8 bytes) = bytes_take 8 bytes small in
    let first : in_bytes 8 (row_at bytes 0) ≡ take 8 bytes =
    ap (in_bytes 8) (row_at-zero bytes) ∙ ap (λ (k : ℕ). in_bytes k (little (take 8 bytes))) (sym front) ∙ in_bytes-little (take 8 bytes) byte in
    sym (take-append-drop 8 bytes)
    ∙ ap₂ (λ (xs ys : List ℕ). xs ++ ys) (sym first) (joined_rows m (drop 8 bytes) (bytes_drop 8 bytes small) (omega arith))
    ∙ ap (flat_map (in_bytes 8)) (sym (rows_in-suc bytes m))

-- ---- what is written is read

no_stranger : (n p : ℕ) (rows : List ℕ) → ((q : ℕ) → q < length rows → get_or rows q 0 < 2 ^ n) → stranger n p rows ≡ None
no_stranger n p [] h = refl
no_stranger n p (w ∷ rows) h =
    cond-true (known n w) _ _ (eq-eqb (w / 2 ^ n) 0 (div-eq_of_lt (h 0 (omega arith))))
    ∙ no_stranger n (p + 1) rows (λ q l. h (suc q) (omega arith))

sizes_taken : (file : List ℕ) (n m : ℕ) → books_in file ≡ n → places_in file ≡ m → 3 ≤ length file → 0 < n → n ≤ 64 → m ≤ 2048 →
    sizes_of file ≡ Ok (record { books = n; places = m })
sizes_taken file n m en em long some few short =
    cond-false (no_books file) _ _
    (or_from (eqb (length file) 0 || eqb (books_in file) 0) _
    (or_from (eqb (length file) 0) _ (ne_eqb _ _ (λ e. omega arith)) (ne_eqb _ _ (λ e. omega arith)))
    (le-ltb _ _ (omega arith)))
    ∙ cond-false (no_places file) _ _ (or_from (ltb (length file) 3) _ (le-ltb _ _ long) (le-ltb _ _ (omega arith)))
    ∙ ap₂ (λ (x y : ℕ). Ok (record { books = x; places = y })) en em

bytes_taken : (file : List ℕ) (z : Sizes) → length file ≡ 3 + 8 * z.places → stranger z.books 0 (rows_in (drop 3 file) z.places) ≡ None → bytes_of file z ≡ Ok (drop 3 file)
bytes_taken file z long none =
    cond-true (eqb (length file) (3 + 8 * z.places)) _ _ (eq-eqb _ _ long) ∙ ap (λ o. unless_stranger o (drop 3 file)) none

pub reads_back : ReadsBack
reads_back c a =
    let z : Sizes = record { books = c.books; places = length c.rows } in
    let body = flat_map (in_bytes 8) c.rows in
    let few = a.few in
    let short = a.short in
    let long = length_joined c.rows in
    let power = pow_mono few in
    let same : rows_in body (length c.rows) ≡ c.rows = rows_joined c.rows (λ p l. let k = a.known p l in omega arith) in
    let m_is : length c.rows % 256 + 256 * (length c.rows / 256) ≡ length c.rows = omega arith in
    ap (λ r. and_then r (λ s. and_then (bytes_of (file_of c) s) (λ bytes. Ok (record { books = s.books; rows = rows_in bytes s.places }))))
    (sizes_taken (file_of c) c.books (length c.rows) refl m_is (omega arith) a.some few short)
    ∙ ap (λ r. and_then r (λ bytes. Ok (record { books = c.books; rows = rows_in bytes (length c.rows) })))
    (bytes_taken (file_of c) z (omega arith) (ap (stranger c.books 0) same ∙ no_stranger c.books 0 c.rows a.known))
    ∙ ap (λ (xs : List ℕ). Ok (record { books = c.books; rows = xs })) same

-- ---- what is read was written

-- the file begins with its three bytes of sizes
begins : (file : List ℕ) → 3 ≤ length file → file ≡ get_or file 0 0 ∷ get_or file 1 0 ∷ get_or file 2 0 ∷ drop 3 file
begins [] h = absurd (omega arith)
begins (a ∷ []) h = absurd (omega arith)
begins (a ∷ b ∷ []) h = absurd (omega arith)
begins (a ∷ b ∷ c ∷ rest) h = refl

pub only_written : OnlyWritten
only_written file c small e =
    let t = taken file c e in
    let n_is = t.books_are in
    let m_is = ap length t.rows_are ∙ length-rows_in (drop 3 file) (places_in file) in
    let long = t.long in
    let b = or_parts (eqb (length file) 0 || eqb (books_in file) 0) _ t.some in
    let some = eqb-false _ _ (or_parts (eqb (length file) 0) _ b.0).1 in
    let few = ltb-false _ _ b.1 in
    let short = ltb-false _ _ (or_parts (ltb (length file) 3) _ t.short).1 in
    let body = joined_rows (places_in file) (drop 3 file) (bytes_drop 3 file small) (length-drop 3 file ∙ omega arith) ∙ ap (flat_map (in_bytes 8)) (sym t.rows_are) in
    let first = small 1 in
    let low : get_or file 1 0 ≡ length c.rows % 256 = omega arith in
    let high : get_or file 2 0 ≡ length c.rows / 256 = omega arith in (
      record {
        some = omega (arith, some);
        few = omega arith;
        short = omega arith;
        known = rw (n_is, t.rows_are) (rows_known (books_in file) (rows_in (drop 3 file) (places_in file)) t.none);
      },
      begins file (omega arith) ∙ cc,
    )
