-- The order in which conflicts are compared.
use Rattle.std.proofs.Common.{◌≡◌, ℕ, ◌<◌, ◌≤◌, ◌⊎◌, List, [], ◌∷◌, refl, ap₂, inl, inr, arith}
use Rattle.std.proofs.lemmas.Bool.{cases_lt}
use Rattle.conflicts.specs.Conflicts.{NoLater, numbers}
use Rattle.conflicts.specs.declared.search.Conflict.{Conflict as Named}

-- a number that is no larger, in front of what is no later
pub no_larger : {Rest : Type 0} (x y : ℕ) → x ≤ y → Rest → (x < y) ⊎ ((x ≡ y) × Rest)
no_larger x y h rest = elim (cases_lt x y) [ inl l ↦ inl l | inr g ↦ inr (omega arith, rest) ]

-- of two lists each of which is no later than the other
pub no_later_both : (xs ys : List ℕ) → NoLater xs ys → NoLater ys xs → xs ≡ ys
no_later_both [] [] a b = refl
no_later_both [] (y ∷ ys) a b = absurd a
no_later_both (x ∷ xs) [] a b = absurd a
no_later_both (x ∷ xs) (y ∷ ys) (inl l) (inl g) = absurd (omega arith)
no_later_both (x ∷ xs) (y ∷ ys) (inl l) (inr (f, b)) = absurd (omega arith)
no_later_both (x ∷ xs) (y ∷ ys) (inr (e, a)) (inl g) = absurd (omega arith)
no_later_both (x ∷ xs) (y ∷ ys) (inr (e, a)) (inr (f, b)) = ap₂ (λ (n : ℕ) (ns : List ℕ). n ∷ ns) e (no_later_both xs ys a b)

numbers_same : (c d : Named) → numbers c ≡ numbers d → c ≡ d
numbers_same c d e =
    let same : ◌≡◌ {A = Named} (record { p = c.p; q = c.q; both = c.both; one = c.one; two = c.two }) (record { p = d.p; q = d.q; both = d.both; one = d.one; two = d.two }) = cc in
    same

-- of two conflicts neither of which comes before the other
pub one_first_of : (c d : Named) → NoLater (numbers c) (numbers d) → NoLater (numbers d) (numbers c) → c ≡ d
one_first_of c d a b = numbers_same c d (no_later_both (numbers c) (numbers d) a b)
