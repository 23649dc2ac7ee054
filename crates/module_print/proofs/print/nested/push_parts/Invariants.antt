use Rattle.std.proofs.Common.{◌≡◌, ◌++◌, [], reverse}
use Rattle.module_print.specs.Pending.{pending, put, work}
use Rattle.module_print.proofs.print.nested.push_parts.Given as goal

-- what is printed and what is pending are the part's text
abbrev pub invariant-loop-next : goal.invariant-loop-next
invariant-loop-next l = l.out ++ pending (reverse l.stack.items) ≡ l.fn.out ++ put l.fn.part []

abbrev pub decreases-loop-next : goal.decreases-loop-next
decreases-loop-next l = work (reverse l.stack.items)
