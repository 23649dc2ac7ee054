-- What a walk over the supertypes needs: that each of them is a class.
use Rattle.std.specs.Prelude.{ℕ, ◌<◌, List, [], length, Contains, slice_index_or}

abbrev pub AreWithin : List (List ℕ) → List ℕ → Type 0
AreWithin supers classes = (s : ℕ) → Contains classes s → s < length supers

abbrev pub LeadWithin : List (List ℕ) → Type 0
LeadWithin supers = (c : ℕ) → AreWithin supers (slice_index_or supers c [])
