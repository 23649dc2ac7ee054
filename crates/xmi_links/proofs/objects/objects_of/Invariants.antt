use Rattle.std.proofs.Common.{◌≡◌}
use Rattle.xmi_models.specs.Faults.{objects}
use Rattle.xmi_models.specs.Entries.{entries_of}
use Rattle.xmi_links.specs.References.{roots_from}
use Rattle.xmi_links.specs.Stages.{built, drafted_to}
use Rattle.xmi_links.proofs.objects.objects_of.Given as goal

-- the objects so far have their defaults
abbrev pub invariant-loop-number : goal.invariant-loop-number
invariant-loop-number l = l.sketch ≡ built l.meta.value (drafted_to l.meta.value (entries_of l.file) l.number) (objects (entries_of l.file)) (roots_from 0 (objects (entries_of l.file)))
