use Rattle.std.proofs.Common.{◌≡◌, ◌++◌, length}
use Rattle.std.specs.Prelude.{reverse}
use Rattle.doc_text.specs.Pending.{pending}
use Rattle.doc_text.specs.Written.{written_element}
use Rattle.doc_text.proofs.write.push_element.Given as goal

-- what is written and what is pending are the element's lines
abbrev pub invariant-loop-top : goal.invariant-loop-top
invariant-loop-top l = l.out ++ pending l.declared l.depth (reverse l.stack.items) ≡ l.fn.out ++ written_element l.declared l.element l.depth

abbrev pub decreases-loop-top : goal.decreases-loop-top
decreases-loop-top l = length (pending l.declared l.depth (reverse l.stack.items))
