use Rattle.std.proofs.Common.{◌≡◌, [], ◌∷◌, take}
use Rattle.std.specs.Prelude.{slice_index_or}
use Rattle.std.specs.List.{flat_map}
use Rattle.ecore_meta.proofs.inherited.conformed.Given as goal

-- the class, and what the supertypes so far conform to
abbrev pub invariant-loop-sup : goal.invariant-loop-sup
invariant-loop-sup l = l.list.items ≡ l.class ∷ flat_map (λ s. slice_index_or l.lists s.0 []) (take l.sup-index l.supers)
