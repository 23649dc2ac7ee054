use Rattle.std.proofs.Common.{◌≡◌, drop}
use Rattle.xmi_models.specs.Faults.{all_foreign}
use Rattle.xmi_models.specs.FoundFaults.{first_value}
use Rattle.xmi_models.specs.Entries.{part_in}
use Rattle.xmi_models.proofs.foreign.first_foreign.Given as goal

-- nothing in the attributes so far
abbrev pub invariant-loop-i : goal.invariant-loop-i
invariant-loop-i l = first_value (all_foreign l.meta (part_in l.part) (drop l.i l.attributes)) ≡ first_value (all_foreign l.meta (part_in l.part) l.attributes)
