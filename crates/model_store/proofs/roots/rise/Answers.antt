use Rattle.std.proofs.Common.{arith}
use Rattle.model_store.proofs.RisingRoots.{rise_more}
use Rattle.model_store.proofs.roots.rise.Goals as goal

pub loop-at-preserved : goal.loop-at-preserved
loop-at-preserved c = rise_more c.args.roots.now c.loop-at.at _ (omega arith) (omega arith) c.loop-at.invariant c.if-roots-at.false
