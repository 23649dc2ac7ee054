use Rattle.std.proofs.Common.{take}
use Rattle.xmi_write.specs.Climbs.{IsLeast}
use Rattle.xmi_write.proofs.cycles.least.Given as goal

-- the least so far
abbrev pub invariant-loop-o : goal.invariant-loop-o
invariant-loop-o l = IsLeast (take l.o-index l.objects) l.least
