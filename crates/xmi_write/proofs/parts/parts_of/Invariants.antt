use Rattle.std.proofs.Common.{◌≡◌, ◌++◌, drop, map, Some}
use Rattle.xmi_write.specs.Pending.{todo_part}
use Rattle.xmi_write.specs.Xmi.{by_slot, slot_parts}
use Rattle.xmi_write.proofs.parts.parts_of.Given as goal

-- the parts so far, and those of the slots that are left
abbrev pub invariant-loop-at : goal.invariant-loop-at
invariant-loop-at l = map todo_part l.list.items ++ map Some (by_slot (slot_parts l.meta) (drop l.at l.features) (drop l.at l.slots)) ≡ map Some (by_slot (slot_parts l.meta) l.features l.slots)
