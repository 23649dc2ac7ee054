use Rattle.std.proofs.Common.{◌≡◌, ◌++◌, reverse, length}
use Rattle.std.specs.List.{flat_map}
use Rattle.model_store.specs.Order.{tree, preorder}
use Rattle.model_store.proofs.store.Store.preorder.Given as goal

-- the order so far, and the trees on the stack
abbrev pub invariant-walk : goal.invariant-walk
invariant-walk l = l.order.items ++ flat_map (tree l.self) (reverse l.stack.items) ≡ preorder l.self

abbrev pub decreases-walk : goal.decreases-walk
decreases-walk l = length (flat_map (tree l.self) (reverse l.stack.items))
