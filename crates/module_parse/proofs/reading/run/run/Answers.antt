use Rattle.std.proofs.Common.{arith}
use Rattle.module_states.specs.Nexts.{state_of}
use Rattle.module_parse.proofs.Passing.{ends}
use Rattle.module_parse.proofs.reading.run.run.Goals as goal

pub returns : goal.returns
returns c =
    ends c.args.tokens.now c.args.end c.loop-i.i c.loop-i.led (state_of c.loop-i.next) c.finish.result (omega arith) c.loop-i.invariant c.finish.ensures
