use Rattle.ocl_parse.proofs.Over.{over_ends}
use Rattle.ocl_parse.proofs.parse.over.Goals as goal

pub returns : goal.returns
returns c = over_ends c.args.stack.now c.end_all.new.stack c.args.e c.in_ok-whole.whole c.alone.result c.in_ok-whole.ensures c.alone.ensures
