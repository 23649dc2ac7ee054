use Rattle.std.proofs.Common.{◌≡◌, take, map, Some}
use Rattle.xmi_write.specs.Pending.{todo_root}
use Rattle.xmi_write.proofs.parts.root_parts.Given as goal

-- the roots so far
abbrev pub invariant-loop-o : goal.invariant-loop-o
invariant-loop-o l = map todo_root l.list.items ≡ map Some (take l.o-index l.roots)
