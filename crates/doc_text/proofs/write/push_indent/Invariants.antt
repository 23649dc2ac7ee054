use Rattle.std.proofs.Common.{◌≡◌, ◌++◌}
use Rattle.doc_text.specs.Written.{indent}
use Rattle.doc_text.proofs.write.push_indent.Given as goal

-- so many pairs of blanks are written
abbrev pub invariant-loop-i : goal.invariant-loop-i
invariant-loop-i l = l.out ≡ l.fn.out ++ indent l._i
