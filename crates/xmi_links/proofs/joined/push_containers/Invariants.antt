use Rattle.std.proofs.Common.{◌≡◌, take}
use Rattle.ecore_meta.specs.Valid.{IsMetamodel}
use Rattle.xmi_models.specs.Outline.{objects_in}
use Rattle.xmi_models.specs.Faults.{objects}
use Rattle.xmi_models.specs.Entries.{entries_of}
use Rattle.xmi_links.specs.References.{draft, roots_from}
use Rattle.xmi_links.specs.Stages.{built, contained_to}
use Rattle.xmi_links.proofs.joined.push_containers.Given as goal

-- the objects so far have their containers
abbrev pub invariant-loop-i : goal.invariant-loop-i
invariant-loop-i l = record {
  number : l.number ≡ objects_in (entries_of (take l.i l.file));
  told : IsMetamodel l.meta → l.fn.sketch ≡ draft l.meta (entries_of l.file)
      → l.sketch ≡ built l.meta (contained_to l.meta (entries_of l.file) l.number) (objects (entries_of l.file)) (roots_from 0 (objects (entries_of l.file)));
}
