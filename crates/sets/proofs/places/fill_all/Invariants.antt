-- What is written so far.
use Rattle.readings.specs.Tables.{table_at}
use Rattle.sets.specs.Tables.{InFront}
use Rattle.sets.proofs.places.fill_all.Given as goal

abbrev pub invariant-loop-p : goal.invariant-loop-p
invariant-loop-p l = InFront (table_at l.rows.sizes l.rows.bytes.now) l.p l.initial.sets l.sets
