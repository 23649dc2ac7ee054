use Rattle.std.proofs.Common.{◌≡◌, ◌++◌, ◌≤◌, ℕ, length, drop}
use Rattle.xmi_read.specs.Parts.{own_of, classes_from}
use Rattle.ecore_outline.specs.Entries.{entries_of}
use Rattle.ecore_rows.specs.CodeRows.{class_rows_of, feature_rows_of}
use Rattle.ecore_rows.specs.Runs.{IsRising}
use Rattle.xmi_read.proofs.classes.classes.Given as goal

-- the features from `begin` on are of this class and of later ones, which have no others
abbrev pub invariant-loop-i : goal.invariant-loop-i
invariant-loop-i l = record {
  told : l.list ++ classes_from (entries_of l.file) l.i (class_rows_of (drop l.i l.rows)) ≡ classes_from (entries_of l.file) 0 (class_rows_of l.rows);
  begin : l.begin ≤ length l.features;
  rising : IsRising l.i (feature_rows_of (drop l.begin l.features));
  own : (class : ℕ) → l.i ≤ class → own_of (entries_of l.file) class l.begin (feature_rows_of (drop l.begin l.features)) ≡ own_of (entries_of l.file) class 0 (feature_rows_of l.features);
}
