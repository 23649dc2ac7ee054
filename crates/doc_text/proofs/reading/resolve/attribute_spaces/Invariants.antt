use Rattle.std.proofs.Common.{◌≡◌, ◌∷◌, take}
use Rattle.std.specs.Prelude.{map}
use Rattle.doc_text.specs.RawTrees.{stack_of}
use Rattle.doc_text.specs.Resolving.{space_in}
use Rattle.doc_text.specs.State.{tags}
use Rattle.doc_text.proofs.reading.resolve.attribute_spaces.Given as goal

-- the namespaces of the attributes so far
abbrev pub invariant-loop-pair : goal.invariant-loop-pair
invariant-loop-pair l = l.spaces.items ≡ map (space_in (l.tag ∷ tags (stack_of l.outer))) (take l.pair-index l.pair-items)
