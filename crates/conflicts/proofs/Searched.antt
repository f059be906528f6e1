-- What is said of a table's file.
use Rattle.std.proofs.Common.{◌≡◌, ℕ, ◌≤◌, Bool, true, false, cond, ltb, List, length, take, Ok, Err, Option, Result, sym, refl, ap, ◌∙◌, subst, arith}
use Rattle.std.proofs.lemmas.Bool.{le-ltb, ltb-false, or_parts}
use Rattle.std.specs.Result.{result_map_both}
use Rattle.readings.specs.Files.{Contents, and_then, books_in, bytes_of, no_books, no_places, places_in, reading, rows_in, sizes_of}
use Rattle.readings.specs.Tables.{table_at, table_of}
use Rattle.readings.specs.declared.file.Sizes.{Sizes}
use Rattle.readings.specs.declared.refusals.Lent.TheVariants.{Sets}
use Rattle.readings.specs.declared.refusals.Refusal.{Refusal}
use Rattle.readings.specs.declared.refusals.Refusal.TheVariants.{Room}
use Rattle.readings.proofs.Tables.{books_at, places_at}
use Rattle.sets.specs.Tables.{InFront, SetsOf}
use Rattle.sets.proofs.Tables.{in_front}
use Rattle.conflicts.specs.Crossing.{Finds}
use Rattle.conflicts.specs.Searches.{Told, table_with}
use Rattle.conflicts.specs.Statements.{RoomForAll}
use Rattle.conflicts.specs.declared.search.Conflict.{Conflict as Named}
use Rattle.conflicts.proofs.Tables.{same_answer}

-- ---- the table of a file

-- the sizes were read, there is room, and the rows decide
rows_decide : (room : ℕ) (file : List ℕ) (s : Sizes) (r : Result (List ℕ) Refusal) → Ok s ≡ sizes_of file → s.places ≤ room → r ≡ bytes_of file s →
    table_with room file ≡ and_then r (λ bytes. Ok (table_at s bytes))
rows_decide room file s r h l e =
    ap (λ (x : Result Sizes Refusal). and_then x (λ z. cond (ltb room z.places) (Err (Room Sets)) (and_then (bytes_of file z) (λ bytes. Ok (table_at z bytes))))) (sym h)
    ∙ rw (le-ltb room s.places l, e)

pub told : (file old new bytes : List ℕ) (s : Sizes) (r : Option Named) → Ok s ≡ sizes_of file → s.books ≤ 64 → s.places ≤ length old → Ok bytes ≡ bytes_of file s →
    InFront (table_at s bytes) s.places old new → Finds (take s.places new) s.books r → Told file old new r
told file old new bytes s r h few l e front finds =
    let t = table_at s bytes in
    let n_is = books_at s bytes in
    let m_is = sym (places_at s bytes) in
    let sets_of = subst (λ (m : ℕ). SetsOf t m (take s.places new)) m_is (in_front t s.places old new front) in
    record {
      table = t;
      read = rows_decide (length old) file s (Ok bytes) h l e;
      answer = (same_answer t (take s.places new) r (omega arith) sets_of).0 (subst (λ (n : ℕ). Finds (take s.places new) n r) (sym n_is) finds);
      memory = subst (λ (m : ℕ). InFront t m old new) m_is front;
    }

-- ---- room for all

-- the places of a file whose sizes are read are at most 2,048
few_places : (file : List ℕ) → no_places file ≡ false → places_in file ≤ 2048
few_places file e = ltb-false 2048 (places_in file) (or_parts (ltb (length file) 3) (ltb 2048 (places_in file)) e).1

rows_either_way : (s : Sizes) (r : Result (List ℕ) Refusal) →
    and_then r (λ bytes. Ok (table_at s bytes))
    ≡ result_map_both (λ (c : Contents). table_of c.books c.rows) (λ e. e) (and_then r (λ bytes. Ok (record { books = s.books; rows = rows_in bytes s.places })))
unfolding table_at
rows_either_way s (Ok bytes) = refl
rows_either_way s (Err e) = refl

pub room_for_all : RoomForAll
room_for_all room file h = by (no_books file) (no_places file) refl refl
  where
    by : (a b : Bool) → no_books file ≡ a → no_places file ≡ b → table_with room file ≡ result_map_both (λ (c : Contents). table_of c.books c.rows) (λ e. e) (reading file)
    by true b e f = simp e
    by false true e f = simp (e, f)
    by false false e f =
        let few = few_places file f in
        let s : Sizes = record { books = books_in file; places = places_in file } in
        let fits = le-ltb room (places_in file) (omega arith) in
        simp (e, f, fits) (rows_either_way s (bytes_of file s))
