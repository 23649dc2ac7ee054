use Rattle.std.proofs.Common.{◌≡◌, ◌++◌, take}
use Rattle.std.specs.List.{flat_map}
use Rattle.module_print.specs.Fragments.{comma, model_text}
use Rattle.module_print.proofs.print.lists.push_more_models.Given as goal

-- those so far are written
abbrev pub invariant-loop-decl : goal.invariant-loop-decl
invariant-loop-decl l = l.out ≡ l.fn.out ++ flat_map (λ d. comma (model_text d)) (take l.decl-index l.decls)
