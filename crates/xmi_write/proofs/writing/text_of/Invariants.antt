use Rattle.std.proofs.Common.{◌≡◌, ◌++◌, length, reverse}
use Rattle.xmi_write.specs.Pending.{ends, pending}
use Rattle.xmi_write.specs.Xmi.{xmi}
use Rattle.xmi_write.proofs.writing.text_of.Given as goal

-- what is written and what is pending are the text
abbrev pub invariant-loop-todo : goal.invariant-loop-todo
invariant-loop-todo l = record {
  written : l.out ++ pending l.model (reverse l.stack.items) ≡ xmi l.model;
  depth : ends (reverse l.stack.items) ≡ l.depth;
}

abbrev pub decreases-loop-todo : goal.decreases-loop-todo
decreases-loop-todo l = length (pending l.model (reverse l.stack.items))
