use Rattle.std.proofs.Common.{◌≡◌, ◌++◌, reverse, length}
use Rattle.xmi_write.proofs.parts.stack_up.Given as goal

-- what is on the stack, and what comes on it
abbrev pub invariant-loop-todo : goal.invariant-loop-todo
invariant-loop-todo l = l.stack.items ++ reverse l.others.items ≡ l.initial.stack.items ++ reverse l.initial.others.items

abbrev pub decreases-loop-todo : goal.decreases-loop-todo
decreases-loop-todo l = length l.others.items
