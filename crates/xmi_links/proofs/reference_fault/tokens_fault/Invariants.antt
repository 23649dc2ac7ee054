use Rattle.std.proofs.Common.{◌≡◌, drop, map}
use Rattle.xmi_models.specs.Entries.{part_in}
use Rattle.xmi_models.specs.Faults.{first_of}
use Rattle.xmi_links.specs.References.{fault_of_kind, tokens_fault}
use Rattle.xmi_links.specs.Found.{references_in}
use Rattle.xmi_links.specs.declared.reference_fault.TheConstants.{KINDS}
use Rattle.xmi_links.proofs.reference_fault.tokens_fault.Given as goal

-- none so far
abbrev pub invariant-loop-i : goal.invariant-loop-i
invariant-loop-i l = first_of (map (λ kind. fault_of_kind l.sketch (part_in l.part) kind (references_in l.references)) (drop l.i KINDS)) ≡ tokens_fault l.sketch (part_in l.part) (references_in l.references)
