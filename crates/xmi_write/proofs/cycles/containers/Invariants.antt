use Rattle.model_store.specs.Contents.{container}
use Rattle.std.proofs.Common.{None}
use Rattle.xmi_write.proofs.Climbing.{object_no}
use Rattle.xmi_write.proofs.Tables.{IsTable}
use Rattle.xmi_write.proofs.cycles.containers.Given as goal

-- the containers so far
abbrev pub invariant-loop-o : goal.invariant-loop-o
invariant-loop-o l = IsTable None l.o (λ k. container l.model (object_no k)) l.list.items
