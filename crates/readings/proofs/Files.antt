-- What holds of a table's file as it is read.
use Rattle.std.proofs.Common.{◌≡◌, ℕ, zero, suc, ◌+◌, ◌-◌, ◌*◌, ◌^◌, ◌<◌, Bool, true, false, cond, not, eqb, ltb, List, [], ◌∷◌, map, length, get_or, take, drop, Some, None, Ok, Err, Option, Result, sym, refl, ap, ◌∙◌, ap₂, inl, inr, arith}
use native.Mathlib.Nat.{div-eq_of_lt}
use Rattle.std.specs.List.{find, position_from, range_with_len}
use Rattle.std.specs.Simd.{first_chunks}
use Rattle.std.proofs.lemmas.List.{at_drop_more, drop-drop, get_or-drop, get_or_past, get_or-take}
use Rattle.std.proofs.lemmas.List.FromFn.{get_or-map-range_with_len, length-map-range_with_len}
use Rattle.std.proofs.lemmas.Bool.{cases_lt, cond_above, cond_below, eq-eqb, eqb-true}
use Rattle.readings.proofs.Bits.{below_from_bits, bits_above, bytes_drop, bytes_take, little_bits, shr_none}
use Rattle.readings.specs.Bits.{bit, little}
use Rattle.readings.specs.Files.{Contents, AllKnown, and_then, books_in, bytes_of, unless_stranger, known, no_books, no_places, places_in, reading, row_at, rows_in, sizes_of, stranger}
use Rattle.readings.specs.declared.file.Sizes.{Sizes}
use Rattle.readings.specs.declared.refusals.Refusal.{Refusal}
use Rattle.readings.specs.declared.refusals.Refusal.TheVariants.{BookCount, PlaceCount, TableLength}
use Rattle.readings.specs.Statements.{KnownBits, RowBits}

-- ---- the rows

pub length-rows_in : (bytes : List ℕ) (m : ℕ) → length (rows_in bytes m) ≡ m
length-rows_in bytes m = length-map-range_with_len (row_at bytes) 0 m

pub get_or-rows_in : (bytes : List ℕ) (m p : ℕ) → p < m → get_or (rows_in bytes m) p 0 ≡ row_at bytes p
get_or-rows_in bytes m p h = get_or-map-range_with_len (row_at bytes) 0 m p p 0 h (omega arith)

-- past the last place the row is 0
pub row_or_none : (bytes : List ℕ) (m p : ℕ) → cond (ltb p m) (row_at bytes p) 0 ≡ get_or (rows_in bytes m) p 0
row_or_none bytes m p =
    let many = length-rows_in bytes m in
    elim (cases_lt p m) [
      | inl l ↦ (sym (cond_below p m (row_at bytes p) 0 l) ∙ sym (get_or-rows_in bytes m p l))
      | inr l ↦ (sym (cond_above p m (row_at bytes p) 0 0 l refl) ∙ sym (get_or_past (rows_in bytes m) p 0 (omega arith)))
    ]

-- the row of a place is its eight bytes
pub row_eight : (bytes : List ℕ) (p : ℕ) → row_at bytes p ≡ little (take 8 (drop (8 * p) bytes))
row_eight bytes p = let e : 8 * p + 8 - 8 * p ≡ 8 = omega arith in ap (λ (k : ℕ). little (take k (drop (8 * p) bytes))) e

pub row_at-zero : (bytes : List ℕ) → row_at bytes 0 ≡ little (take 8 bytes)
row_at-zero bytes = row_eight bytes 0

pub row_at-suc : (bytes : List ℕ) (p : ℕ) → row_at bytes (suc p) ≡ row_at (drop 8 bytes) p
row_at-suc bytes p =
    let e : 8 * suc p ≡ 8 + 8 * p = omega arith in
    row_eight bytes (suc p)
    ∙ ap (λ (k : ℕ). little (take 8 (drop k bytes))) e
    ∙ ap (λ (xs : List ℕ). little (take 8 xs)) (sym (drop-drop (8 * p) 8 bytes))
    ∙ sym (row_eight (drop 8 bytes) p)

-- the part of a place, where the bytes are cut into eights
pub chunk_row : (k : ℕ) (bytes : List ℕ) (p : ℕ) → p < k → little (get_or (first_chunks 8 k bytes) p []) ≡ row_at bytes p
chunk_row zero bytes p h = absurd (omega arith)
chunk_row (suc k) bytes zero h = sym (row_at-zero bytes)
chunk_row (suc k) bytes (suc p) h = chunk_row k (drop 8 bytes) p (omega arith) ∙ sym (row_at-suc bytes p)

pub row_bits : RowBits
row_bits bytes small p b i hb hi =
    ap (λ (w : ℕ). bit w (8 * b + i)) (row_eight bytes p)
    ∙ little_bits (take 8 (drop (8 * p) bytes)) (bytes_take 8 (drop (8 * p) bytes) (bytes_drop (8 * p) bytes small)) b i hi
    ∙ ap (λ (x : ℕ). bit x i) (get_or-take 8 (drop (8 * p) bytes) b 0 hb ∙ get_or-drop (8 * p) bytes b 0)

pub known_bits : KnownBits
known_bits n w = (
  λ e. bits_above w n (shr_none w n (eqb-true _ _ e)),
  λ none. eq-eqb _ _ (div-eq_of_lt (below_from_bits w n none)),
)

-- ---- the first stranger

-- one row on, for whoever goes by the rows
stranger_step : (n p : ℕ) (rows : List ℕ) (b : Bool) → p < length rows → known n (get_or rows p 0) ≡ b → stranger n p (drop p rows) ≡ cond b (stranger n (p + 1) (drop (p + 1) rows)) (Some p)
stranger_step n p rows b l h = at_drop_more (stranger n p) rows p 0 l ∙ ap (λ x. cond x (stranger n (p + 1) (drop (p + 1) rows)) (Some p)) h

module _ (n p m : ℕ) (bytes : List ℕ) (l : p < m) where
  step : (b : Bool) → known n (row_at bytes p) ≡ b → stranger n p (drop p (rows_in bytes m)) ≡ cond b (stranger n (p + 1) (drop (p + 1) (rows_in bytes m))) (Some p)
  step b h =
      let e = length-rows_in bytes m in
      stranger_step n p (rows_in bytes m) b (omega arith) (ap (known n) (get_or-rows_in bytes m p l) ∙ h)

  pub stranger_more : known n (row_at bytes p) ≡ true → stranger n p (drop p (rows_in bytes m)) ≡ stranger n (p + 1) (drop (p + 1) (rows_in bytes m))
  stranger_more = step true

  pub stranger_here : known n (row_at bytes p) ≡ false → stranger n p (drop p (rows_in bytes m)) ≡ Some p
  stranger_here = step false

-- the first part that is not known is that of the first such place, from a on
unknown_from : (n : ℕ) (bytes : List ℕ) (m a : ℕ) → position_from (λ part. not (known n (little part))) a (first_chunks 8 m (drop (8 * a) bytes)) ≡ find (λ p. not (known n (row_at bytes p))) (range_with_len a m)
unknown_from n bytes zero a = refl
unknown_from n bytes (suc m) a =
    let e : 8 * a + 8 ≡ 8 * (a + 1) = omega arith in
    let later = drop-drop 8 (8 * a) bytes ∙ ap (λ (k : ℕ). drop k bytes) e in
    let rest = ap (λ (xs : List ℕ). position_from (λ part. not (known n (little part))) (a + 1) (first_chunks 8 m xs)) later ∙ unknown_from n bytes m (a + 1) in
    ap₂ (λ (w : ℕ) (o : Option ℕ). cond (not (known n w)) (Some a) o) (sym (row_eight bytes a)) rest

-- what was found by going from part to part, said of the places
pub unknown_place : (n m : ℕ) (bytes : List ℕ) (r : Option ℕ) → r ≡ position_from (λ part. not (known n (little part))) 0 (first_chunks 8 m bytes) → r ≡ find (λ p. not (known n (row_at bytes p))) (range_with_len 0 m)
unknown_place n m bytes r e = e ∙ unknown_from n bytes m 0

-- the stranger is the first place, from a on, whose row is not known
stranger_from : (n : ℕ) (bytes : List ℕ) (m a : ℕ) → find (λ p. not (known n (row_at bytes p))) (range_with_len a m) ≡ stranger n a (map (row_at bytes) (range_with_len a m))
stranger_from n bytes zero a = refl
stranger_from n bytes (suc m) a =
    let later = range_with_len (a + 1) m in
    elim (known n (row_at bytes a)) as (λ b. cond (not b) (Some a) (find (λ p. not (known n (row_at bytes p))) later) ≡ cond b (stranger n (a + 1) (map (row_at bytes) later)) (Some a)) [
      | true ↦ stranger_from n bytes m (a + 1)
      | false ↦ refl
    ]

-- ---- no stranger

known_from : (n p : ℕ) (rows : List ℕ) → stranger n p rows ≡ None → (q : ℕ) → q < length rows → get_or rows q 0 < 2 ^ n
known_from n p [] e q l = absurd (omega arith)
known_from n p (w ∷ rows) e q l = by (known n w) refl (λ f. known_from n (p + 1) rows f) q l
  where
    by : (b : Bool) → known n w ≡ b → (stranger n (p + 1) rows ≡ None → (q : ℕ) → q < length rows → get_or rows q 0 < 2 ^ n)
        → (q : ℕ) → q < length (w ∷ rows) → get_or (w ∷ rows) q 0 < 2 ^ n
    by true t rest zero l = shr_none w n (eqb-true _ _ t)
    by true t rest (suc q) l = rest (cc) q (omega arith)
    by false t rest q l = let f : Some p ≡ None = cc in let y : ◌≡◌ {A = ℕ} 0 1 = cc in absurd (omega arith)

pub rows_known : (n : ℕ) (rows : List ℕ) → stranger n 0 rows ≡ None → (p : ℕ) → p < length rows → get_or rows p 0 < 2 ^ n
rows_known n rows = known_from n 0 rows

pub all_known : (n m : ℕ) (bytes : List ℕ) → stranger n 0 (rows_in bytes m) ≡ None → AllKnown n m bytes
all_known n m bytes e = record { at = λ p l. rw get_or-rows_in at (rows_known n (rows_in bytes m) e p (rw length-rows_in l)) }

-- what was found by going from place to place, said of the rows
module _ (n m : ℕ) (bytes : List ℕ) (r : Option ℕ) (found : r ≡ find (λ p. not (known n (row_at bytes p))) (range_with_len 0 m)) where
  pub stranger_is : stranger n 0 (rows_in bytes m) ≡ r
  stranger_is = sym (found ∙ stranger_from n bytes m 0)

  pub none_unknown : r ≡ None → AllKnown n m bytes
  none_unknown e = all_known n m bytes (stranger_is ∙ e)

-- ---- a file that is read

and_then_ok : {X Y : Type 0} (r : Result X Refusal) (next : X → Result Y Refusal) (y : Y) → and_then r next ≡ Ok y → (x : X) × (r ≡ Ok x) × (next x ≡ Ok y)
and_then_ok (Ok x) next y e = (x, refl, e)
and_then_ok (Err d) next y e = absurd (never e)
  where
    never : Err d ≡ Ok y → ⊥
    never f = let z : ◌≡◌ {A = ℕ} 0 1 = cc in omega arith

-- a check that was passed
passed : {X : Type 0} (b : Bool) (d : Refusal) (r : Result X Refusal) (x : X) → cond b (Err d) r ≡ Ok x → (b ≡ false) × (r ≡ Ok x)
passed false d r x e = (refl, e)
passed true d r x e = let z : ◌≡◌ {A = ℕ} 0 1 = cc in absurd (omega arith)

held : {X : Type 0} (b : Bool) (d : Refusal) (r : Result X Refusal) (x : X) → cond b r (Err d) ≡ Ok x → (b ≡ true) × (r ≡ Ok x)
held true d r x e = (refl, e)
held false d r x e = let z : ◌≡◌ {A = ℕ} 0 1 = cc in absurd (omega arith)

unless_stranger_ok : (o : Option ℕ) (bytes xs : List ℕ) → unless_stranger o bytes ≡ Ok xs → (o ≡ None) × (bytes ≡ xs)
unless_stranger_ok None bytes xs e = (refl, cc)
unless_stranger_ok (Some p) bytes xs e = let z : ◌≡◌ {A = ℕ} 0 1 = cc in absurd (omega arith)

-- what holds of a file that is read
pub record Taken (file : List ℕ) (c : Contents) : Type 0 where
  pub books_are : c.books ≡ books_in file
  pub rows_are : c.rows ≡ rows_in (drop 3 file) (places_in file)
  pub some : no_books file ≡ false
  pub short : no_places file ≡ false
  pub long : length file ≡ 3 + 8 * places_in file
  pub none : stranger (books_in file) 0 (rows_in (drop 3 file) (places_in file)) ≡ None

pub taken : (file : List ℕ) (c : Contents) → reading file ≡ Ok c → Taken file c
taken file c e =
    let a = and_then_ok (sizes_of file) _ c e in
    let b = passed (no_books file) BookCount _ _ a.1 in
    let p = passed (no_places file) PlaceCount _ _ b.1 in
    by a.0 b.0 p.0 (cc p.1) a.2
  where
    by : (z : Sizes) → no_books file ≡ false → no_places file ≡ false → z ≡ record { books = books_in file; places = places_in file }
        → and_then (bytes_of file z) (λ bytes. Ok (record { books = z.books; rows = rows_in bytes z.places })) ≡ Ok c → Taken file c
    by z some short z_is e =
        let n_is = ap (λ (s : Sizes). s.books) z_is in
        let m_is = ap (λ (s : Sizes). s.places) z_is in
        let a = and_then_ok (bytes_of file z) _ c e in
        let l = held (eqb (length file) (3 + 8 * z.places)) (TableLength (length file)) _ _ a.1 in
        let k = unless_stranger_ok (stranger z.books 0 (rows_in (drop 3 file) z.places)) _ _ l.1 in
        let c_is : record { books = z.books; rows = rows_in a.0 z.places } ≡ c = cc a.2 in
        let long = eqb-true _ _ l.0 in
        record {
          books_are = sym (ap (λ (x : Contents). x.books) c_is) ∙ n_is;
          rows_are = sym (ap (λ (x : Contents). x.rows) c_is) ∙ ap₂ rows_in (sym k.1) m_is;
          some = some;
          short = short;
          long = omega arith;
          none = sym (ap₂ (λ (n m : ℕ). stranger n 0 (rows_in (drop 3 file) m)) n_is m_is) ∙ k.0;
        }
