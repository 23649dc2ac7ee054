use Rattle.std.proofs.Common.{◌≡◌, ◌++◌, ◌≤◌, drop}
use Rattle.xmi_read.specs.Parts.{skipped_from}
use Rattle.ecore_outline.specs.Entries.{entries_of}
use Rattle.xmi_read.proofs.skipped.skipped.Given as goal

abbrev pub invariant-loop-i : goal.invariant-loop-i
invariant-loop-i l = record {
  told : l.list ++ skipped_from (entries_of l.file) l.classes (entries_of (drop l.i l.file)) ≡ skipped_from (entries_of l.file) 0 (entries_of l.file);
  classes : l.classes ≤ l.i;
}
