use Rattle.std.proofs.Common.{length}
use Rattle.ocl_parse.proofs.pending.+end_before.Given as goal

abbrev pub decreases-end_before : goal.decreases-end_before
decreases-end_before l = length l.stack.now
