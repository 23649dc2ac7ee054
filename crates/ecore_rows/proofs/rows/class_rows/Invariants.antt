use Rattle.std.proofs.Common.{◌≡◌, ◌++◌, ◌≤◌, drop}
use Rattle.ecore_rows.specs.Rows.{class_rows, class_rows_from}
use Rattle.ecore_outline.specs.Entries.{entries_of}
use Rattle.ecore_rows.specs.CodeRows.{class_rows_of}
use Rattle.ecore_rows.proofs.rows.class_rows.Given as goal

abbrev pub invariant-loop-i : goal.invariant-loop-i
invariant-loop-i l = record {
  told : class_rows_of l.rows.items ++ class_rows_from l.packages (entries_of (drop l.i l.file)) ≡ class_rows (entries_of l.file);
  packages : l.packages ≤ l.i;
}
