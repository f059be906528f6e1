-- What is promised of conflicts. Each is a statement, a type whose proof is owed. Assumes nothing.
use Rattle.std.specs.Prelude.{◌≡◌, ℕ, ◌-◌, ◌^◌, ◌<◌, ◌≤◌, Bool, List, length, Option, Result, ◌≢◌, slice_index}
use Rattle.std.specs.Result.{result_map_both}
use Rattle.readings.specs.Bits.{bit}
use Rattle.readings.specs.Files.{Contents, reading}
use Rattle.readings.specs.Tables.{Table, table_of}
use Rattle.readings.specs.declared.refusals.Refusal.{Refusal}
use Rattle.sets.specs.Tables.{SetsOf, Words}
use Rattle.conflicts.specs.Conflicts.{Answers, Conflict, named}
use Rattle.conflicts.specs.Crossing.{Cross, Crossing, Finds}
use Rattle.conflicts.specs.Searches.{Searched, table_with}
use Rattle.conflicts.specs.declared.search.Conflict.{Conflict as Named}

-- ---- no second answer fits

abbrev pub OneFinding : Type 0
OneFinding = (sets : List ℕ) (n : ℕ) (x y : Option Named) → Finds sets n x → Finds sets n y → x ≡ y

abbrev pub OneFirst : Type 0
OneFirst = (t : Table) (x y : Option Named) → Answers t x → Answers t y → x ≡ y

abbrev pub OneSearch : Type 0
OneSearch =
    (file old a b : List ℕ) (x y : Result (Option Named) Refusal) → Words a → Words b → Searched file old a x → Searched file old b y → (x ≡ y) × (a ≡ b)

-- ---- the sets of a table conflict as the table does

-- a conflict of the sets is one of the table, and back
abbrev pub Tied : Type 0
Tied =
    (t : Table) (sets : List ℕ) → t.books ≤ 64 → SetsOf t t.places sets →
    ((c : Named) → Crossing sets t.books c → (d : Conflict t) × (named d ≡ c)) × ((d : Conflict t) → d.p < d.q → Crossing sets t.books (named d))

-- what is found in the sets is what is to be said of the table, and back
abbrev pub SameAnswer : Type 0
SameAnswer =
    (t : Table) (sets : List ℕ) (r : Option Named) → t.books ≤ 64 → SetsOf t t.places sets →
    (Finds sets t.books r → Answers t r) × (Answers t r → Finds sets t.books r)

-- the sets of two places cross exactly if the places conflict
abbrev pub CrossingPlaces : Type 0
CrossingPlaces =
    (t : Table) (sets : List ℕ) (p q : ℕ) → t.books ≤ 64 → Words sets → SetsOf t t.places sets → p < t.places → q < t.places →
    (Cross (slice_index sets p) (slice_index sets q) → (c : Conflict t) × (c.p ≡ p) × (c.q ≡ q)) × ((c : Conflict t) × (c.p ≡ p) × (c.q ≡ q) → Cross (slice_index sets p) (slice_index sets q))

-- one who lends memory for 2,048 sets is given no refusal but those of reading
abbrev pub RoomForAll : Type 0
RoomForAll = (room : ℕ) (file : List ℕ) → 2048 ≤ room → table_with room file ≡ result_map_both (λ (c : Contents). table_of c.books c.rows) (λ e. e) (reading file)

-- ---- what a conflict is

-- it does not matter which of the two places is called the first
abbrev pub EitherFirst : Type 0
EitherFirst = (t : Table) (c : Conflict t) → (d : Conflict t) × (named d ≡ record { p = c.q; q = c.p; both = c.both; one = c.two; two = c.one })

-- places at which the same books read otherwise do not conflict, so that no place does with itself
abbrev pub AlikeAgree : Type 0
AlikeAgree = (t : Table) (c : Conflict t) → ((i : ℕ) → i < t.books → t.other c.p i ≡ t.other c.q i) → ⊥

-- nor does a place conflict with itself turned round, with 1 for 0 at each of the n books
abbrev pub TurnedAgree : Type 0
TurnedAgree =
    (n : ℕ) (rows : List ℕ) (c : Conflict (table_of n rows)) → 0 < n → slice_index rows c.p < 2 ^ n → slice_index rows c.q ≢ 2 ^ n - 1 - slice_index rows c.p

-- some of the n books reads x in the row v and y in the row w
abbrev pub SomeReads : ℕ → ℕ → ℕ → Bool → Bool → Type 0
SomeReads n v w x y = (i : ℕ) × (i < n) × (bit v i ≡ x) × (bit w i ≡ y)

-- two places conflict exactly if their books read in all four ways
abbrev pub FourWays : Type 0
FourWays =
    (n : ℕ) (rows : List ℕ) (p q : ℕ) → 0 < n → p < length rows → q < length rows →
    ((c : Conflict (table_of n rows)) × (c.p ≡ p) × (c.q ≡ q) → (x y : Bool) → SomeReads n (slice_index rows p) (slice_index rows q) x y)
    × (((x y : Bool) → SomeReads n (slice_index rows p) (slice_index rows q) x y) → (c : Conflict (table_of n rows)) × (c.p ≡ p) × (c.q ≡ q))
