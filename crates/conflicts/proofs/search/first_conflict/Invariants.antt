-- What holds along the search: nothing is found yet, and no conflict lies behind.
use Rattle.std.proofs.Common.{◌≡◌, ◌+◌, get_or, None}
use Rattle.conflicts.specs.Seen.{conflict_by}
use Rattle.conflicts.proofs.Walk.{Clear, Looked}
use Rattle.conflicts.proofs.search.first_conflict.Given as goal

abbrev pub invariant-search : goal.invariant-search
invariant-search l = record { nothing : l.found ≡ None; behind : Clear l.sets l.n l.p (l.p + 1) }

abbrev pub invariant-loop-q : goal.invariant-loop-q
invariant-loop-q l = record { nothing : l.found ≡ None; behind : Clear l.sets l.n l.p l.q }

abbrev pub invariant-loop-i : goal.invariant-loop-i
invariant-loop-i l =
    record {
      nothing : l.found ≡ None;
      looked : Looked l.i (get_or l.sets l.p 0) (get_or l.sets l.q 0) l.seen;
      unseen : conflict_by l.p l.q l.seen ≡ None;
    }
