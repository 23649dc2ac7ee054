-- The features of a file stand by their classes, in their order.
use Rattle.std.proofs.Common.{ℕ, suc, ◌-◌, ◌≤◌, List, [], ◌∷◌, arith}
use Rattle.std.specs.Prelude.{Bool, true, false, if◌then◌else◌}
use Rattle.ecore_outline.specs.Outline.{Entry, is_class_role, is_feature_role}
use Rattle.ecore_rows.specs.Rows.{FeatureRow, feature_rows_from, feature_rows, typed}
use Rattle.ecore_rows.specs.Runs.{IsRising}

pub rising_from : (j k : ℕ) (rows : List FeatureRow) → j ≤ k → IsRising k rows → IsRising j rows
rising_from j k [] l h = tt
rising_from j k (row ∷ rows) l h = (omega (arith, h.0), h.1)

rows_rise : (file : List Entry) (classes : ℕ) (es : List Entry) → IsRising (classes - 1) (feature_rows_from file classes es)
rows_rise file classes [] = tt
rows_rise file classes (e ∷ es) = by (is_feature_role e.role) (is_class_role e.role) (rows_rise file classes es) (rows_rise file (suc classes) es)
  where
    by : (f c : Bool) → IsRising (classes - 1) (feature_rows_from file classes es) → IsRising (suc classes - 1) (feature_rows_from file (suc classes) es)
        → IsRising (classes - 1) (if f then record { entry = e; owner = classes - 1; type = typed file e es } ∷ feature_rows_from file classes es else feature_rows_from file (if c then suc classes else classes) es)
    by true c h k = (omega arith, h)
    by false true h k = rising_from (classes - 1) (suc classes - 1) (feature_rows_from file (suc classes) es) (omega arith) k
    by false false h k = h

pub features_rise : (file : List Entry) → IsRising 0 (feature_rows file)
features_rise file = rows_rise file 0 file
