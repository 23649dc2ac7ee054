use Rattle.std.proofs.Common.{◌≡◌, ◌++◌, drop}
use Rattle.model_store.specs.Contents.{objects_of}
use Rattle.model_store.proofs.order.push_objects.Given as goal

-- the objects so far, and those of the rest
abbrev pub invariant-loop-cell : goal.invariant-loop-cell
invariant-loop-cell l = l.list.items ++ objects_of (drop l.cell-index l.cells) ≡ l.initial.list.items ++ objects_of l.cells
