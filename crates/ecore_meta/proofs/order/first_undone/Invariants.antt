use Rattle.std.proofs.Common.{◌≡◌, true}
use Rattle.std.specs.List.{AllWithin}
use Rattle.ecore_meta.specs.Order.{is_done}
use Rattle.ecore_meta.proofs.order.first_undone.Given as goal

-- the supertypes before this one are done
abbrev pub invariant-loop-at : goal.invariant-loop-at
invariant-loop-at l = AllWithin (λ s. is_done l.done s.0 ≡ true) l.supers l.from l.at
