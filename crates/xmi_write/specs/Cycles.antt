-- Containment cycles: the one that a model is refused for.
use Rattle.std.specs.Prelude.{◌≡◌, ◌≤◌, List, [], ◌∷◌, Contains}
use Rattle.atl_base.specs.declared.numbers.ObjId.{ObjId}
use Rattle.ecore_meta.specs.Valid.{AllDiffer}
use Rattle.model_store.specs.Contents.{Contents}
use Rattle.model_store.specs.Order.{contents, IsOnCycle}

-- each of them contains the next, and the last contains this object
abbrev pub IsChainTo : Contents → ObjId → ObjId → List ObjId → Type 0
IsChainTo m last o [] = Contains (contents m o) last
IsChainTo m last o (p ∷ ps) = Contains (contents m o) p × IsChainTo m last p ps

-- a cycle from an object on, without an object twice
abbrev pub IsRingFrom : Contents → ObjId → List ObjId → Type 0
IsRingFrom m first [] = ⊥
IsRingFrom m first (o ∷ os) = (o ≡ first) × IsChainTo m o o os × AllDiffer (o ∷ os)

-- the cycle of the object of least number that lies on one, from that object on
abbrev pub IsCycle : Contents → List ObjId → Type 0
IsCycle m [] = ⊥
IsCycle m (o ∷ os) = IsRingFrom m o (o ∷ os) × ((p : ObjId) → IsOnCycle m p → o.0 ≤ p.0)
