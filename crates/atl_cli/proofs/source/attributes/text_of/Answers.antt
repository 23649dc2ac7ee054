use Rattle.atl_cli.proofs.SourceAttributes.{offends}
use Rattle.atl_cli.proofs.source.attributes.text_of.Goals as goal

pub returns-in-Err-BadByte : goal.returns-in-Err-BadByte
returns-in-Err-BadByte c = offends c.args.bytes.now _ (rw c.in-Err-BadByte.field-0-is at c.in-Err-BadByte.ensures.refused)
