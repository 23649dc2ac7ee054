use Rattle.std.specs.Str.{chars}
use Rattle.atl_tree.proofs.Exact.{exact}
use Rattle.atl_cli.proofs.one_rule.read_tokens.Goals as goal

pub returns-in-Ok : goal.returns-in-Ok
returns-in-Ok c = (exact (chars c.args.text.now)).tells c.in-Ok.read c.in-Ok.ensures

pub returns-in-Err-BadByte : goal.returns-in-Err-BadByte
returns-in-Err-BadByte c ts has =
    let read = (exact (chars c.args.text.now)).reads ts has in
    let refused = rw c.in-Err-BadByte.field-0-is at c.in-Err-BadByte.ensures in
    cc

pub returns-in-Err-OpenText : goal.returns-in-Err-OpenText
returns-in-Err-OpenText c ts has =
    let read = (exact (chars c.args.text.now)).reads ts has in
    let refused = rw c.in-Err-OpenText.field-0-is at c.in-Err-OpenText.ensures in
    cc

pub returns-in-Err-WideNumber : goal.returns-in-Err-WideNumber
returns-in-Err-WideNumber c ts has =
    let read = (exact (chars c.args.text.now)).reads ts has in
    let refused = rw c.in-Err-WideNumber.field-0-is at c.in-Err-WideNumber.ensures in
    cc

pub returns-in-Err-RealNumber : goal.returns-in-Err-RealNumber
returns-in-Err-RealNumber c ts has =
    let read = (exact (chars c.args.text.now)).reads ts has in
    let refused = rw c.in-Err-RealNumber.field-0-is at c.in-Err-RealNumber.ensures in
    cc
