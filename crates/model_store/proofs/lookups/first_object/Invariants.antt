use Rattle.std.proofs.Common.{◌≡◌, drop}
use Rattle.model_store.specs.Contents.{first_object}
use Rattle.model_store.proofs.lookups.first_object.Given as goal

-- the rest of the slot has the same first object
abbrev pub invariant-loop-cell : goal.invariant-loop-cell
invariant-loop-cell l = first_object (drop l.cell-index l.cells) ≡ first_object l.cells
