use Rattle.std.proofs.Common.{◌≡◌, ◌+◌, ◌++◌, drop}
use Rattle.xmi_models.specs.Outline.{objects_in}
use Rattle.xmi_models.specs.Faults.{objects}
use Rattle.xmi_models.specs.Entries.{entries_of}
use Rattle.xmi_links.specs.Found.{ids_from, ids_in}
use Rattle.xmi_links.proofs.ids.ids_of.Given as goal

-- what is to come from the elements that are left completes the ids
abbrev pub invariant-loop-i : goal.invariant-loop-i
invariant-loop-i l = record {
  told : ids_in l.ids.items ++ ids_from l.sketch l.number (objects (entries_of (drop l.i l.file))) ≡ ids_from l.sketch 0 (objects (entries_of l.file));
  number : l.number + objects_in (entries_of (drop l.i l.file)) ≡ objects_in (entries_of l.file);
}
