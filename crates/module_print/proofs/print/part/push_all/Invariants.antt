use Rattle.std.proofs.Common.{◌≡◌, ◌++◌, ◌-◌, reverse, drop}
use Rattle.module_print.proofs.print.part.push_all.Given as goal

-- the last parts are on the stack
abbrev pub invariant-loop-i : goal.invariant-loop-i
invariant-loop-i l = reverse l.stack.items ≡ drop (l.count - l.i) l.parts ++ reverse l.initial.stack.items
