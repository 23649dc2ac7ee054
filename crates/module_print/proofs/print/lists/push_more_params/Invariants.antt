use Rattle.std.proofs.Common.{◌≡◌, ◌++◌, take}
use Rattle.std.specs.List.{flat_map}
use Rattle.module_print.specs.Fragments.{comma, param_text}
use Rattle.module_print.proofs.print.lists.push_more_params.Given as goal

-- those so far are written
abbrev pub invariant-loop-param : goal.invariant-loop-param
invariant-loop-param l = l.out ≡ l.fn.out ++ flat_map (λ p. comma (param_text p)) (take l.param-index l.params)
