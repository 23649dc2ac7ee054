use Rattle.xmi_links.specs.Found.{AreTexts, reference_in}
use Rattle.xmi_links.proofs.Finding.{holds_at}
use Rattle.xmi_links.proofs.reference_fault.fault_of_kind.Goals as goal

pub fault_in_reference-requires : goal.fault_in_reference-requires
fault_in_reference-requires c = holds_at reference_in AreTexts c.args.references.now c.loop-i.i c.index-references-i.result c.requires c.loop-i-test.true c.index-references-i.is
