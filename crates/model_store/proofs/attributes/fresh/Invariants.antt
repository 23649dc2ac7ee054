use Rattle.std.proofs.Common.{◌≡◌, take, map}
use Rattle.model_store.specs.Writes.{initial}
use Rattle.model_store.proofs.attributes.fresh.Given as goal

-- the slots so far
abbrev pub invariant-loop-f : goal.invariant-loop-f
invariant-loop-f l = l.slots.items ≡ map (initial l.meta) (take l.f-index l.features)
