use Rattle.std.proofs.Common.{◌≡◌, ◌++◌, length, reverse}
use Rattle.xmi_write.proofs.cycles.turned.Given as goal

-- what is turned, and what is left
abbrev pub invariant-loop-o : goal.invariant-loop-o
invariant-loop-o l = l.down ++ reverse l.up.items ≡ reverse l.fn.up.items

abbrev pub decreases-loop-o : goal.decreases-loop-o
decreases-loop-o l = length l.up.items
