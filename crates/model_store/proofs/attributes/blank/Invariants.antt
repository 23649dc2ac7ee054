use Rattle.std.proofs.Common.{◌≡◌, take, map, []}
use Rattle.model_store.proofs.attributes.blank.Given as goal

-- the slots so far
abbrev pub invariant-loop-feature : goal.invariant-loop-feature
invariant-loop-feature l = l.slots.items ≡ map (λ f. []) (take l._feature-index l.features)
