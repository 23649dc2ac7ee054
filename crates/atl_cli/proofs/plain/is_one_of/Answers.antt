use Rattle.std.proofs.Common.{[]}
use Rattle.atl_cli.proofs.Modules.{among-here}
use Rattle.atl_cli.proofs.plain.is_one_of.Goals as goal

pub returns-then-eq : goal.returns-then-eq
returns-then-eq c = among-here c.args.name.now c.args.words.now c.loop-word.word-index (record { ref_ptr = (0, 0); now = [] }) c.loop-word-test.true c.if-eq.ensures
