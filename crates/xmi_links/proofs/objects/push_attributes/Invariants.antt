use Rattle.std.proofs.Common.{◌≡◌, drop}
use Rattle.xmi_models.specs.Entries.{part_in}
use Rattle.xmi_links.specs.Stages.{all_attributed}
use Rattle.xmi_links.proofs.objects.push_attributes.Given as goal

-- what is left completes it
abbrev pub invariant-loop-i : goal.invariant-loop-i
invariant-loop-i l = all_attributed l.meta l.o (part_in l.part) (drop l.i l.attributes) l.sketch ≡ all_attributed l.meta l.o (part_in l.part) l.attributes l.fn.sketch
