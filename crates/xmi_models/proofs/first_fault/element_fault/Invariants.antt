use Rattle.std.proofs.Common.{◌≡◌, take, drop}
use Rattle.xmi_models.specs.Outline.{objects_in}
use Rattle.xmi_models.specs.Faults.{fault_from, element_fault}
use Rattle.xmi_models.specs.Entries.{entries_of}
use Rattle.xmi_models.specs.SeenFeatures.{AreSeen}
use Rattle.xmi_models.proofs.first_fault.element_fault.Given as goal

-- nothing is wrong so far
abbrev pub invariant-loop-i : goal.invariant-loop-i
invariant-loop-i l = record {
  told : fault_from l.meta (entries_of (take l.i l.file)) (entries_of (drop l.i l.file)) ≡ element_fault l.meta (entries_of l.file);
  seen : AreSeen l.meta (entries_of (take l.i l.file)) l.seen;
  number : l.number ≡ objects_in (entries_of (take l.i l.file));
}
