use Rattle.std.proofs.Common.{◌≡◌, ◌++◌, take}
use Rattle.std.specs.List.{flat_map}
use Rattle.doc_text.specs.Written.{written_declaration}
use Rattle.doc_text.proofs.write.push_declarations.Given as goal

-- the declarations so far are written
abbrev pub invariant-loop-declaration : goal.invariant-loop-declaration
invariant-loop-declaration l = l.out ≡ l.fn.out ++ flat_map written_declaration (take l.declaration-index l.declarations)
