-- The features of a class follow one another, so that rows are looked through class by class.
use Rattle.std.specs.Prelude.{ℕ, ◌==◌, ◌≤◌, List, [], ◌∷◌, if◌then◌else◌}
use Rattle.ecore_rows.specs.Rows.{FeatureRow}

-- what stands behind the features of a class that stand first
abbrev pub past_run : ℕ → List FeatureRow → List FeatureRow
past_run class [] = []
past_run class (row ∷ rows) = if row.owner == class then past_run class rows else row ∷ rows

-- the owners rise, from this one on
abbrev pub IsRising : ℕ → List FeatureRow → Type 0
IsRising k [] = Unit {0}
IsRising k (row ∷ rows) = (k ≤ row.owner) × IsRising row.owner rows
