use Rattle.std.proofs.Common.{◌≡◌, ◌++◌, map, drop}
use Rattle.xmi_read.specs.Parts.{feature_of}
use Rattle.ecore_outline.specs.Entries.{entries_of}
use Rattle.ecore_rows.specs.CodeRows.{feature_rows_of}
use Rattle.xmi_read.proofs.features.features.Given as goal

abbrev pub invariant-loop-i : goal.invariant-loop-i
invariant-loop-i l =
    l.list ++ map (feature_of (entries_of l.file)) (feature_rows_of (drop l.i l.rows)) ≡ map (feature_of (entries_of l.file)) (feature_rows_of l.rows)
