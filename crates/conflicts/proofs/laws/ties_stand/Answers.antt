-- The clauses that say that there is a conflict, which the check does not name by itself.
use Rattle.conflicts.proofs.Tables.{crossing_places, tied}
use Rattle.conflicts.proofs.laws.ties_stand.Goals as goal

pub returns-clause-conflicts : goal.returns-clause-conflicts
returns-clause-conflicts c = tied

pub returns-clause-places : goal.returns-clause-places
returns-clause-places c = crossing_places
