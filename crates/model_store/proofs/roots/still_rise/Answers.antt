use Rattle.model_store.proofs.RisingRoots.{one_more}
use Rattle.model_store.proofs.roots.still_rise.Goals as goal

pub returns-then-rise : goal.returns-then-rise
returns-then-rise c = λ told. one_more c.args.o c.args.roots.now c.args.at (c.requires.rise c.if-rise.true) c.requires.within (c.is_above.ensures told) c.requires.below
