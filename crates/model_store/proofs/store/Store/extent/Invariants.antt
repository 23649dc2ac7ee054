use Rattle.std.proofs.Common.{take}
use Rattle.model_store.specs.Order.{AreThose, IsOf}
use Rattle.model_store.proofs.store.Store.extent.Given as goal

-- those of the objects so far
abbrev pub invariant-loop-o : goal.invariant-loop-o
invariant-loop-o l = AreThose (IsOf l.self l.class) (take l.o-index l.o-items) l.list.items
