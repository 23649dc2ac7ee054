use Rattle.std.proofs.Common.{◌≡◌, ◌++◌, drop}
use Rattle.xmi_write.specs.Xmi.{attributes_of, by_slot, slot_attributes}
use Rattle.xmi_write.proofs.heads.attributes_of.Given as goal

-- the attributes so far, and those of the slots that are left
abbrev pub invariant-loop-at : goal.invariant-loop-at
invariant-loop-at l = l.list.items ++ by_slot (slot_attributes l.setting.model.now) (drop l.at l.features) (drop l.at l.slots) ≡ l.fn.others.items ++ attributes_of l.setting.model.now l.fn.named l.object
