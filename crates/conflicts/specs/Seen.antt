-- The books of two sets, as they are looked at one by one. Assumes nothing: these are definitions.
--   seen_with     what was seen with one book more
--   conflict_by   the conflict by the books that were seen, if there is one of each kind
use Rattle.std.specs.Prelude.{ℕ, Some, None, Option}
use Rattle.std.specs.Bool.{then_some}
use Rattle.std.specs.Option.{option_or}
use Rattle.sets.specs.Sets.{only, shared}
use Rattle.conflicts.specs.declared.search.Conflict.{Conflict as Named}
use Rattle.conflicts.specs.declared.seen.Seen.{Seen}

-- of each kind the book that was seen before, and else i if it is of that kind
abbrev pub seen_with : Seen → ℕ → ℕ → ℕ → Seen
seen_with s a b i =
    record {
      both = option_or s.both (then_some (shared a b i) i);
      one = option_or s.one (then_some (only a b i) i);
      two = option_or s.two (then_some (only b a i) i);
    }

-- the conflict of the places p and q by the books that were seen, if there is one of each kind
abbrev pub conflict_of : ℕ → ℕ → Option ℕ → Option ℕ → Option ℕ → Option Named
conflict_of p q None y z = None
conflict_of p q (Some x) None z = None
conflict_of p q (Some x) (Some y) None = None
conflict_of p q (Some x) (Some y) (Some z) = Some (record { p = p; q = q; both = x; one = y; two = z })

abbrev pub conflict_by : ℕ → ℕ → Seen → Option Named
conflict_by p q s = conflict_of p q s.both s.one s.two
