use Rattle.std.proofs.Common.{◌≡◌, ◌++◌, take, map, Some}
use Rattle.xmi_write.specs.Pending.{todo_part}
use Rattle.xmi_write.specs.Xmi.{Value}
use Rattle.xmi_write.proofs.parts.push_values.Given as goal

-- the values so far
abbrev pub invariant-loop-cell : goal.invariant-loop-cell
invariant-loop-cell l = map todo_part l.list.items ≡ map todo_part l.fn.list.items ++ map Some (map (Value l.f) (take l.cell-index l.cells))
