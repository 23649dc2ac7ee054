use Rattle.std.proofs.Common.{◌≡◌, take}
use Rattle.model_store.proofs.held.copy_slots.Given as goal

-- the slots so far
abbrev pub invariant-loop-slot : goal.invariant-loop-slot
invariant-loop-slot l = l.copy.items ≡ take l.slot-index l.slots
