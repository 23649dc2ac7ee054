use Rattle.std.proofs.Common.{◌≡◌, ◌++◌, reverse, map, length, Some}
use Rattle.model_store.proofs.store.placed.Given as goal

-- the objects that are left, and those that have places, the last first
abbrev pub invariant-back : goal.invariant-back
invariant-back l = map Some l.objects.items ++ reverse l.places.items ≡ map Some l.initial.objects.items

abbrev pub decreases-back : goal.decreases-back
decreases-back l = length l.objects.items
