use Rattle.std.proofs.Common.{◌≡◌, take}
use Rattle.model_store.proofs.copies.copy_slot.Given as goal

-- the values so far
abbrev pub invariant-loop-cell : goal.invariant-loop-cell
invariant-loop-cell l = l.slot.items ≡ take l.cell-index l.cells
