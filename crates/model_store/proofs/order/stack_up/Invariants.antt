use Rattle.std.proofs.Common.{◌≡◌, ◌++◌, reverse, length}
use Rattle.model_store.proofs.order.stack_up.Given as goal

-- what is on the stack, and what comes on it
abbrev pub invariant-loop-o : goal.invariant-loop-o
invariant-loop-o l = l.stack.items ++ reverse l.others.items ≡ l.initial.stack.items ++ reverse l.initial.others.items

abbrev pub decreases-loop-o : goal.decreases-loop-o
decreases-loop-o l = length l.others.items
