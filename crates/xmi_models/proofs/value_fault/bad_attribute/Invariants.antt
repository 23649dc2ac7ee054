use Rattle.std.proofs.Common.{◌≡◌, drop}
use Rattle.std.specs.Prelude.{filter_map}
use Rattle.xmi_models.specs.Faults.{attribute_value}
use Rattle.xmi_models.specs.FoundFaults.{first_value}
use Rattle.xmi_models.specs.Entries.{part_in}
use Rattle.xmi_models.proofs.value_fault.bad_attribute.Given as goal

-- nothing in the attributes so far
abbrev pub invariant-loop-i : goal.invariant-loop-i
invariant-loop-i l = first_value (filter_map (attribute_value l.meta (part_in l.part)) (drop l.i l.attributes)) ≡ first_value (filter_map (attribute_value l.meta (part_in l.part)) l.attributes)
