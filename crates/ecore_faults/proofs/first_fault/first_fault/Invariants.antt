use Rattle.std.proofs.Common.{◌≡◌, ◌≤◌, take, drop}
use Rattle.ecore_faults.specs.Faults.{fault_from, first_fault}
use Rattle.ecore_outline.specs.Entries.{entries_of}
use Rattle.ecore_faults.specs.Tables.{AreCounted}
use Rattle.ecore_faults.specs.Seen.{AreSeen}
use Rattle.ecore_faults.proofs.first_fault.first_fault.Given as goal

abbrev pub invariant-loop-i : goal.invariant-loop-i
invariant-loop-i l = record {
  told : fault_from (entries_of l.file) (entries_of (take l.i l.entries)) (entries_of (drop l.i l.entries)) ≡ first_fault (entries_of l.file);
  counts : AreCounted (entries_of l.file) l.counts (entries_of (take l.i l.entries));
  seen : AreSeen (entries_of (take l.i l.entries)) l.seen;
  classes : l.counts.classes ≤ l.i;
  enums : l.counts.enums ≤ l.i;
  features : l.counts.features ≤ l.i;
}
