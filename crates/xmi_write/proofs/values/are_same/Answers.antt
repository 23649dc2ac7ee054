use Rattle.std.proofs.Common.{sym}
use Rattle.xmi_write.proofs.SlotValues.{sizes_differ}
use Rattle.xmi_write.proofs.values.are_same.Goals as goal

pub returns-then-a-b : goal.returns-then-a-b
returns-then-a-b c = sym (sizes_differ c.args.a.now c.args.b.now c.if-a-b.true)
