-- A model while it is built: objects come with empty slots, and values are appended to them one by one.
use Rattle.std.specs.Prelude.{[], ◌∷◌, ◌++◌, map, Some}
use Rattle.atl_base.specs.declared.numbers.ClassId.{ClassId}
use Rattle.atl_base.specs.declared.numbers.FeatId.{FeatId}
use Rattle.atl_base.specs.declared.numbers.ObjId.{ObjId}
use Rattle.ecore_meta.specs.declared.parts.Parts.{Parts}
use Rattle.ecore_meta.specs.Inheritance.{features}
use Rattle.model_store.specs.declared.parts.Cellv.{Cellv}
use Rattle.model_store.specs.declared.parts.Object.{Object}
use Rattle.model_store.specs.Contents.{Contents, set_slot, slot}

-- an object with empty slots
abbrev pub blank : Parts → ClassId → Object
blank meta class = record { class = class; slots = map (λ f. []) (features meta.classes class) }

abbrev pub with_object : ClassId → Contents → Contents
with_object class m = record m { objects = m.objects ++ Some (blank m.meta class) ∷ [] }

abbrev pub with_last_root : ObjId → Contents → Contents
with_last_root o m = record m { roots = m.roots ++ o ∷ [] }

abbrev pub with_value : ObjId → FeatId → Cellv → Contents → Contents
with_value o f value m = set_slot m o f (slot m o f ++ value ∷ [])
