use Rattle.std.proofs.Common.{◌≡◌, [], take}
use Rattle.std.specs.Prelude.{slice_index_or}
use Rattle.std.specs.List.{flat_map}
use Rattle.ecore_meta.specs.Inheritance.{distinct}
use Rattle.ecore_meta.proofs.inherited.features_seen.Given as goal

-- what the supertypes so far see has been added
abbrev pub invariant-loop-sup : goal.invariant-loop-sup
invariant-loop-sup l = l.seen.keys ≡ distinct (flat_map (λ s. slice_index_or l.lists s.0 []) (take l.sup-index l.sup-items))
