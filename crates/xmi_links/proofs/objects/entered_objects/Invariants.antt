use Rattle.std.proofs.Common.{◌≡◌, take}
use Rattle.xmi_models.specs.Entries.{entries_of}
use Rattle.xmi_links.specs.Stages.{raw}
use Rattle.xmi_links.proofs.objects.entered_objects.Given as goal

-- the objects so far
abbrev pub invariant-loop-i : goal.invariant-loop-i
invariant-loop-i l = l.sketch ≡ raw l.meta.value (entries_of (take l.i l.file))
