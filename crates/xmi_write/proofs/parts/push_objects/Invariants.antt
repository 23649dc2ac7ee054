use Rattle.std.proofs.Common.{◌≡◌, ◌++◌, drop, map, Some}
use Rattle.model_store.specs.Contents.{objects_of}
use Rattle.xmi_write.specs.Pending.{todo_part}
use Rattle.xmi_write.specs.Xmi.{Content}
use Rattle.xmi_write.proofs.parts.push_objects.Given as goal

-- the objects so far, and those of the rest
abbrev pub invariant-loop-cell : goal.invariant-loop-cell
invariant-loop-cell l = map todo_part l.list.items ++ map Some (map (Content l.f) (objects_of (drop l.cell-index l.cells))) ≡ map todo_part l.fn.list.items ++ map Some (map (Content l.f) (objects_of l.cells))
