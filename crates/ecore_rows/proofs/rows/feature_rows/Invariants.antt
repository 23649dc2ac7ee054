use Rattle.std.proofs.Common.{◌≡◌, ◌++◌, ◌≤◌, drop}
use Rattle.ecore_rows.specs.Rows.{feature_rows, feature_rows_from}
use Rattle.ecore_outline.specs.Entries.{entries_of}
use Rattle.ecore_rows.specs.CodeRows.{feature_rows_of}
use Rattle.ecore_rows.proofs.rows.feature_rows.Given as goal

abbrev pub invariant-loop-i : goal.invariant-loop-i
invariant-loop-i l = record {
  told : feature_rows_of l.rows.items ++ feature_rows_from (entries_of l.file) l.classes (entries_of (drop l.i l.entries)) ≡ feature_rows (entries_of l.file);
  classes : l.classes ≤ l.i;
}
