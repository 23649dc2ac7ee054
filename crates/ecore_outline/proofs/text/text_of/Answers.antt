use Rattle.atl_base.specs.declared.text.Text.{Text}
use Rattle.xmi_text.proofs.Offences.{not_refused}
use Rattle.ecore_outline.proofs.text.text_of.Goals as goal

pub unreachable-requires : goal.unreachable-requires
unreachable-requires c = not_refused Text c.args.bytes.now c.in-Err-BadByte.field-0 c.in-Err-BadByte.field-0-0 c.requires c.in-Err-BadByte.field-0-is (c.in-Err-BadByte.ensures.refused)
