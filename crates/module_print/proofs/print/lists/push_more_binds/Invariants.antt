use Rattle.std.proofs.Common.{◌≡◌, ◌++◌, take}
use Rattle.std.specs.List.{flat_map}
use Rattle.module_print.specs.Fragments.{comma, bind_text}
use Rattle.module_print.proofs.print.lists.push_more_binds.Given as goal

-- those so far are written
abbrev pub invariant-loop-bind : goal.invariant-loop-bind
invariant-loop-bind l = l.out ≡ l.fn.out ++ flat_map (λ b. comma (bind_text b)) (take l.bind-index l.binds)
