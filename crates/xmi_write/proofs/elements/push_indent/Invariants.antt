use Rattle.std.proofs.Common.{◌≡◌, ◌++◌}
use Rattle.doc_text.specs.Written.{indent}
use Rattle.xmi_write.proofs.elements.push_indent.Given as goal

-- so many pairs of blanks are written
abbrev pub invariant-loop-level : goal.invariant-loop-level
invariant-loop-level l = l.out ≡ l.fn.out ++ indent l._level
