-- What is said of a table's file to one who lends memory for the sets of its places. Assumes nothing: these are definitions.
--   table_with   the table of the file, or the first refusal of the list; whether the memory suffices is tested after the sizes and before the rows
--   Told         the first conflict of the table, or that there is none, and the sets in front of the memory
--   Searched     that, or the refusal, and the memory as it was
use Rattle.std.specs.Prelude.{◌≡◌, ℕ, if◌then◌else◌, List, length, Ok, Err, Option, Result, nat_lt}
use Rattle.readings.specs.Files.{and_then, bytes_of, sizes_of}
use Rattle.readings.specs.Tables.{Table, table_at}
use Rattle.readings.specs.declared.refusals.Lent.TheVariants.{Sets}
use Rattle.readings.specs.declared.refusals.Refusal.{Refusal}
use Rattle.readings.specs.declared.refusals.Refusal.TheVariants.{Room}
use Rattle.sets.specs.Tables.{InFront}
use Rattle.conflicts.specs.Conflicts.{Answers}
use Rattle.conflicts.specs.declared.search.Conflict.{Conflict as Named}

abbrev pub table_with : ℕ → List ℕ → Result Table Refusal
table_with room file =
    and_then (sizes_of file) (λ s. if nat_lt room s.places then Err (Room Sets) else and_then (bytes_of file s) (λ bytes. Ok (table_at s bytes)))

-- what is said of a file that is taken
pub record Told (file old new : List ℕ) (r : Option Named) : Type 0 where
  pub table : Table
  pub read : table_with (length old) file ≡ Ok table
  pub answer : Answers table r
  pub memory : InFront table table.places old new

abbrev pub Searched : List ℕ → List ℕ → List ℕ → Result (Option Named) Refusal → Type 0
Searched file old new (Err e) = (table_with (length old) file ≡ Err e) × (new ≡ old)
Searched file old new (Ok r) = Told file old new r
