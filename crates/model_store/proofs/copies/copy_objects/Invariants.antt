use Rattle.std.proofs.Common.{◌≡◌, take}
use Rattle.model_store.proofs.copies.copy_objects.Given as goal

-- the places so far
abbrev pub invariant-loop-place : goal.invariant-loop-place
invariant-loop-place l = l.copy.items ≡ take l.place-index l.objects
