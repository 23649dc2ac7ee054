use Rattle.std.proofs.Common.{None}
use Rattle.xmi_write.proofs.Climbing.{again}
use Rattle.xmi_write.proofs.Tables.{IsTable}
use Rattle.xmi_write.proofs.cycles.doubled.Given as goal

-- what stands twice as high, so far
abbrev pub invariant-loop-o : goal.invariant-loop-o
invariant-loop-o l = IsTable None l.o (again l.above) l.list.items
