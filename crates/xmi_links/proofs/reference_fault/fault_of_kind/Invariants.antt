use Rattle.std.proofs.Common.{◌≡◌, drop}
use Rattle.xmi_models.specs.Entries.{part_in}
use Rattle.xmi_links.specs.References.{fault_of_kind}
use Rattle.xmi_links.specs.Found.{references_in}
use Rattle.xmi_links.proofs.reference_fault.fault_of_kind.Given as goal

-- none so far
abbrev pub invariant-loop-i : goal.invariant-loop-i
invariant-loop-i l = fault_of_kind l.sketch (part_in l.part) l.kind (references_in (drop l.i l.references)) ≡ fault_of_kind l.sketch (part_in l.part) l.kind (references_in l.references)
