use Rattle.std.proofs.Common.{◌≡◌, ◌++◌, take}
use Rattle.std.specs.List.{flat_map}
use Rattle.module_print.specs.Fragments.{local_text}
use Rattle.module_print.proofs.print.lists.push_locals.Given as goal

-- those so far are written
abbrev pub invariant-loop-local : goal.invariant-loop-local
invariant-loop-local l = l.out ≡ l.fn.out ++ flat_map local_text (take l.local-index l.locals)
