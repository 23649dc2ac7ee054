use Rattle.std.proofs.Common.{◌≡◌, ◌++◌, take}
use Rattle.std.specs.List.{flat_map}
use Rattle.module_print.specs.Fragments.{comma, target_text}
use Rattle.module_print.proofs.print.lists.push_more_targets.Given as goal

-- those so far are written
abbrev pub invariant-loop-target : goal.invariant-loop-target
invariant-loop-target l = l.out ≡ l.fn.out ++ flat_map (λ t. comma (target_text t)) (take l.target-index l.targets)
