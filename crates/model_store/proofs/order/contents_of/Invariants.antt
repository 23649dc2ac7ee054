use Rattle.std.proofs.Common.{◌≡◌, ◌++◌, drop}
use Rattle.model_store.specs.Order.{contents_in}
use Rattle.model_store.proofs.order.contents_of.Given as goal

-- the contents so far, and those by the features that are left
abbrev pub invariant-loop-at : goal.invariant-loop-at
invariant-loop-at l = l.list.items ++ contents_in l.meta (drop l.at l.features) (drop l.at l.slots) ≡ contents_in l.meta l.features l.slots
