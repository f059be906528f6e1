-- The clauses that say that there is a conflict, which the check does not name by itself.
use Rattle.conflicts.proofs.Rows.{four_ways}
use Rattle.conflicts.proofs.Tables.{either_first}
use Rattle.conflicts.proofs.laws.four_ways_stand.Goals as goal

pub returns-clause-ways : goal.returns-clause-ways
returns-clause-ways c = four_ways

pub returns-clause-either : goal.returns-clause-either
returns-clause-either c = either_first
