use Rattle.atl_cli.proofs.Modules.{no_text}
use Rattle.atl_cli.proofs.one_rule.read_module.Goals as goal

pub returns-in-Err-BadByte : goal.returns-in-Err-BadByte
returns-in-Err-BadByte c m is =
    let refused = rw c.in-Err-BadByte.field-0-is at c.in-Err-BadByte.ensures.refused in
    no_text c.args.bytes.now _ refused is.text
