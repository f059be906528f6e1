-- The list of refusals: the number of each, and its place. Assumes nothing: these are definitions.
use Rattle.std.specs.Prelude.{ℕ, ◌++◌, List, codes, decimal}
use Rattle.readings.specs.declared.refusals.Lent.{Lent}
use Rattle.readings.specs.declared.refusals.Lent.TheVariants.{Sets, Nodes, Homes}
use Rattle.readings.specs.declared.refusals.Refusal.{Refusal}
use Rattle.readings.specs.declared.refusals.Refusal.TheVariants.{BookCount, PlaceCount, TableLength, UnknownBook, NodeCount, NoSmaller, BadHome, BadChange, TreeLength, Room}

abbrev pub number : Refusal → ℕ
number BookCount = 1
number PlaceCount = 2
number (TableLength bytes) = 3
number (UnknownBook p) = 4
number (NodeCount k) = 5
number (NoSmaller v) = 6
number (BadHome i) = 7
number (BadChange p) = 8
number (TreeLength bytes) = 9
number (Room slice) = 10

-- which of the lent slices, in the order in which they are tested
abbrev pub slice_number : Lent → ℕ
slice_number Sets = 0
slice_number Nodes = 1
slice_number Homes = 2

abbrev pub place : Refusal → ℕ
place BookCount = 0
place PlaceCount = 1
place (TableLength bytes) = bytes
place (UnknownBook p) = p
place (NodeCount k) = k
place (NoSmaller v) = v
place (BadHome i) = i
place (BadChange p) = p
place (TreeLength bytes) = bytes
place (Room slice) = slice_number slice

-- the line in which it is told of
abbrev pub refusal_text : Refusal → List ℕ
refusal_text refusal = codes "refused " ++ (decimal (number refusal) ++ (codes " at " ++ decimal (place refusal)))
