use Rattle.ecore_outline.proofs.Sizes.{outline_within}
use Rattle.xmi_read.proofs.laws.outline_is_within_its_document.Goals as goal

pub returns : goal.returns
returns c = outline_within
