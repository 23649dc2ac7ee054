use Rattle.std.proofs.Common.{◌≡◌, ◌+◌, ◌++◌, ℕ, List, [], drop}
use Rattle.atl_base.specs.declared.numbers.ObjId.{ObjId}
use Rattle.xmi_models.specs.Outline.{objects_in}
use Rattle.xmi_models.specs.Faults.{objects}
use Rattle.xmi_models.specs.Entries.{entries_of}
use Rattle.xmi_links.specs.References.{Link, links_from, reference_fault_from}
use Rattle.xmi_links.specs.Found.{AreBearers, AreEnds, links_in}
use Rattle.xmi_links.proofs.links.links_of.Given as goal

-- nothing is wrong so far, and what is left completes the links
abbrev pub invariant-loop-i : goal.invariant-loop-i
invariant-loop-i l = record {
  number : l.number + objects_in (entries_of (drop l.i l.file)) ≡ objects_in (entries_of l.file);
  told : (who : List ℕ → List ObjId) → AreBearers who l.ids → (before : List Link) × AreEnds l.sketch.meta before l.found.ends
      × (reference_fault_from l.sketch who l.number before (objects (entries_of (drop l.i l.file))) ≡ reference_fault_from l.sketch who 0 [] (objects (entries_of l.file)))
      × (links_in l.found.links.items ++ links_from l.sketch who l.number (objects (entries_of (drop l.i l.file))) ≡ links_from l.sketch who 0 (objects (entries_of l.file)));
}
