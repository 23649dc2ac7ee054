-- What following references answers: a fault, or the links so far with the ends that they gave.
use Rattle.std.specs.Prelude.{◌≡◌, ℕ, List, ◌∷◌, ◌++◌, flat_map, Option, Some, None, Result, Ok, Err}
use Rattle.atl_base.specs.declared.place.Place.{Place}
use Rattle.atl_base.specs.declared.numbers.ObjId.{ObjId}
use Rattle.ecore_meta.specs.declared.parts.Parts.{Parts}
use Rattle.model_store.specs.Contents.{Contents}
use Rattle.xmi_models.specs.Outline.{Entry}
use Rattle.xmi_models.specs.Faults.{Fault, objects}
use Rattle.xmi_models.specs.FoundFaults.{fault_of}
use Rattle.xmi_models.specs.declared.fault.FoundFault.{FoundFault}
use Rattle.xmi_links.specs.declared.links.Linked.{Linked}
use Rattle.xmi_links.specs.References.{Link, Reference, ends_fault, ends_of, links_from, links_of, reference_fault_from, references_at, references_fault}
use Rattle.xmi_links.specs.Found.{AreEnds, links_in}

-- these references are followed: their links and ends come behind those from before
pub record AreFollowed (meta : Parts) (before : List Link) (rs : List Reference) (old new : Linked) : Type 0 where
  pub ends : AreEnds meta (before ++ flat_map (ends_of meta) rs) new.ends
  pub links : links_in new.links.items ≡ links_in old.links.items ++ flat_map links_of rs

abbrev pub IsLinked : Parts → List Link → List Reference → Linked → Option Fault → Linked → Type 0
IsLinked meta before rs old fault new = (fault ≡ ends_fault meta before rs) × (fault ≡ None → AreFollowed meta before rs old new)

abbrev pub IsLinkedAt : Contents → (List ℕ → List ObjId) → List Link → ObjId → Entry → Linked → Option Fault → Linked → Type 0
IsLinkedAt m who before o e old fault new =
    (fault ≡ references_fault m before e.part (references_at m who o e)) × (fault ≡ None → AreFollowed m.meta before (references_at m who o e) old new)

-- An element more before these: its fault is the first, or its links and ends come behind those from before.
abbrev pub IsStep : Contents → (List ℕ → List ObjId) → List Link → ℕ → ℕ → Entry → List Entry → Linked → Option FoundFault → Linked → Type 0
IsStep m who before n next e rest old (Some found) new = reference_fault_from m who n before (objects (e ∷ rest)) ≡ Some (fault_of found.fault, found.place)
IsStep m who before n next e rest old None new =
    (after : List Link) × AreEnds m.meta after new.ends
    × (reference_fault_from m who n before (objects (e ∷ rest)) ≡ reference_fault_from m who next after (objects rest))
    × (links_in new.links.items ++ links_from m who next (objects rest) ≡ links_in old.links.items ++ links_from m who n (objects (e ∷ rest)))

-- the links of a file, where nothing is wrong
abbrev pub AreLinks : Option (Fault × Place) → List Link → Result Linked FoundFault → Type 0
AreLinks fault links (Ok found) = (fault ≡ None) × (links_in found.links.items ≡ links)
AreLinks fault links (Err found) = fault ≡ Some (fault_of found.fault, found.place)
