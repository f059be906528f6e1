-- No second answer fits.
use Rattle.std.proofs.Common.{◌≡◌, ℕ, Some, None, Ok, Err, sym, refl, ap, ◌∙◌, subst, arith}
use Rattle.readings.specs.Tables.{Table}
use Rattle.sets.specs.Tables.{InFront}
use Rattle.sets.proofs.Tables.{one_filling}
use Rattle.conflicts.specs.Conflicts.{Answers, FirstConflict, NoLater, numbers}
use Rattle.conflicts.specs.Crossing.{Finds}
use Rattle.conflicts.specs.Statements.{OneFinding, OneFirst, OneSearch}
use Rattle.conflicts.specs.declared.search.Conflict.{Conflict as Named}
use Rattle.conflicts.proofs.Order.{one_first_of}

pub one_finding : OneFinding
unfolding Finds
one_finding sets n None None x y = refl
one_finding sets n None (Some d) x y = absurd (x d y.0)
one_finding sets n (Some c) None x y = absurd (y c x.0)
one_finding sets n (Some c) (Some d) x y = ap Some (one_first_of c d (x.1 d y.0) (y.1 c x.0))

-- the first conflict is no later than another that is one of the table
no_later_first : (t : Table) (c d : Named) → FirstConflict t c → FirstConflict t d → NoLater (numbers c) (numbers d)
no_later_first t c d f g = subst (λ (e : Named). NoLater (numbers c) (numbers e)) g.is (f.first g.conflict)

pub one_first : OneFirst
unfolding Answers
one_first t None None x y = refl
one_first t None (Some d) x y = absurd (x y.conflict)
one_first t (Some c) None x y = absurd (y x.conflict)
one_first t (Some c) (Some d) x y = ap Some (one_first_of c d (no_later_first t c d x y) (no_later_first t d c y x))

pub one_search : OneSearch
one_search file old a b (Err d) (Err e) wa wb (x, f) (y, g) = let same : d ≡ e = cc in (ap Err same, f ∙ sym g)
one_search file old a b (Err d) (Ok r) wa wb (x, f) y = let read = y.read in let no_one : ◌≡◌ {A = ℕ} 0 1 = cc in absurd (omega arith)
one_search file old a b (Ok r) (Err e) wa wb x (y, g) = let read = x.read in let no_one : ◌≡◌ {A = ℕ} 0 1 = cc in absurd (omega arith)
one_search file old a b (Ok r) (Ok s) wa wb x y =
    let t = y.table in
    let one = x.read in
    let two = y.read in
    let same : x.table ≡ y.table = cc in (
      ap Ok (one_first t r s (subst (λ (u : Table). Answers u r) same x.answer) y.answer),
      one_filling t t.places old a b wa wb (subst (λ (u : Table). InFront u u.places old a) same x.memory) y.memory,
    )
