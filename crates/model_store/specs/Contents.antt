-- A model as contracts see it: a finite map from object numbers to objects, each with its class and a slot for each feature
-- of the class, and the list of roots. (EMF: EObject, eClass, eGet, eContents.)
use Rattle.std.specs.Prelude.{ℕ, ◌+◌, ◌==◌, ◌<◌, ◌≡◌, Bool, false, List, [], ◌∷◌, length, slice_get, slice_set, slice_index_or, position, Option, Some, None, option_map, is_some, count_by, if◌then◌else◌}
use Rattle.std.specs.Option.{option_map_or}
use Rattle.std.specs.List.{list_any}
use Rattle.atl_base.specs.declared.numbers.ClassId.{ClassId}
use Rattle.atl_base.specs.declared.numbers.FeatId.{FeatId}
use Rattle.atl_base.specs.declared.numbers.ObjId.{ObjId}
use Rattle.ecore_meta.specs.declared.parts.Feature.{Feature}
use Rattle.ecore_meta.specs.declared.parts.Parts.{Parts}
use Rattle.ecore_meta.specs.Inheritance.{features}
use Rattle.ecore_meta.specs.Valid.{is_reference, is_containment, opposite_of}
use Rattle.model_store.specs.declared.parts.Cellv.{Cellv}
use Rattle.model_store.specs.declared.parts.Cellv.TheVariants.{Obj}
use Rattle.model_store.specs.declared.parts.Object.{Object}
use Rattle.model_store.specs.declared.refusal.StoreRefusal.{StoreRefusal}
use Rattle.model_store.specs.declared.refusal.StoreRefusal.TheVariants.{NoObject, NoFeature}

-- At the place n of the objects stands the object of number n, or none where that object is gone: so there are as many
-- places as numbers were given, and none is given again.
pub record Contents : Type 0 where
  pub meta : Parts
  pub objects : List (Option Object)
  pub roots : List ObjId

abbrev pub is_object_no : ObjId → ObjId → Bool
is_object_no p q = q.0 == p.0

-- ## What the metamodel says of a feature

-- what a test says of a feature; of a number that is no feature's it says no
abbrev pub feature_is : (Feature → Bool) → Parts → FeatId → Bool
feature_is test meta f = option_map_or test (slice_get meta.features f.0) false

abbrev pub is_many : Parts → FeatId → Bool
is_many = feature_is (λ feature. feature.many)

abbrev pub is_unique : Parts → FeatId → Bool
is_unique = feature_is (λ feature. feature.unique)

abbrev pub refers : Parts → FeatId → Bool
refers = feature_is (λ feature. is_reference feature.kind)

abbrev pub contains : Parts → FeatId → Bool
contains = feature_is (λ feature. is_containment feature.kind)

abbrev pub opposite : Parts → FeatId → Option FeatId
opposite meta f = option_map_or (λ feature. opposite_of feature.kind) (slice_get meta.features f.0) None

-- a container reference: the opposite of a containment
abbrev pub is_contained_by : Parts → FeatId → Bool
is_contained_by meta f = option_map_or (contains meta) (opposite meta f) false

-- ## Objects and slots

abbrev pub object_at : List (Option Object) → ObjId → Option Object
object_at objects o = slice_index_or objects o.0 None

abbrev pub class_of : Contents → ObjId → Option ClassId
class_of m o = option_map (λ object. object.class) (object_at m.objects o)

-- how many objects there are
abbrev pub object_count : List (Option Object) → ℕ
object_count = count_by is_some

-- the place of a feature among those that are seen in a class
abbrev pub place_in : Parts → ClassId → FeatId → Option ℕ
place_in meta class f = position (λ g. g.0 == f.0) (features meta.classes class)

-- the slot of a feature, empty where the object has none
abbrev pub slot_in : Parts → FeatId → Object → List Cellv
slot_in meta f object = option_map_or (λ k. slice_index_or object.slots k []) (place_in meta object.class f) []

abbrev pub slot : Contents → ObjId → FeatId → List Cellv
slot m o f = option_map_or (slot_in m.meta f) (object_at m.objects o) []

-- other values in the slot of a feature, where there is one
abbrev pub with_slot : Object → ℕ → List Cellv → Object
with_slot object k cells = record object { slots = slice_set object.slots k cells }

abbrev pub set_slot : Contents → ObjId → FeatId → List Cellv → Contents
set_slot m o f cells = option_map_or
    (λ object. option_map_or (λ k. record m { objects = slice_set m.objects o.0 (Some (with_slot object k cells)) }) (place_in m.meta object.class f) m)
    (object_at m.objects o)
    m

-- Why a call has no slot to speak of: there is no such object, or else its class has no such feature.
abbrev pub refusal : Contents → ObjId → FeatId → Option StoreRefusal
refusal m o f = option_map_or (λ object. if is_some (place_in m.meta object.class f) then None else Some NoFeature) (object_at m.objects o) (Some NoObject)

-- As many slots as features, at each object. This is the form of the lists alone, and says nothing of what the slots hold.
pub record IsShaped (meta : Parts) (object : Object) : Type 0 where
  pub class_within : object.class.0 < length meta.classes
  pub slots : length object.slots ≡ length (features meta.classes object.class)

abbrev pub AreShaped : Parts → List (Option Object) → Type 0
AreShaped meta objects = (n : ℕ) (object : Object) → slice_index_or objects n None ≡ Some object → IsShaped meta object

-- there is an object, and a slot of it at this place
pub record HasPlace (meta : Parts) (objects : List (Option Object)) (o : ObjId) (at : ℕ) : Type 0 where
  pub object : Object
  pub there : object_at objects o ≡ Some object
  pub within : at < length object.slots

-- ## References

abbrev pub refers_to : ObjId → Cellv → Bool
refers_to p (Obj q) = q.0 == p.0
refers_to p _ = false

-- whether a slot holds an object
abbrev pub holds : ObjId → List Cellv → Bool
holds p = list_any (refers_to p)

-- the objects of a slot
abbrev pub objects_of : List Cellv → List ObjId
objects_of [] = []
objects_of (Obj q ∷ cells) = q ∷ objects_of cells
objects_of (_ ∷ cells) = objects_of cells

-- what a slot holds without an object
abbrev pub without : ObjId → List Cellv → List Cellv
without p [] = []
without p (c ∷ cells) = if refers_to p c then without p cells else c ∷ without p cells

-- the first object of a slot
abbrev pub first_object : List Cellv → Option ObjId
first_object [] = None
first_object (Obj q ∷ cells) = Some q
first_object (_ ∷ cells) = first_object cells

-- ## Containers

-- The place where an object is contained: the first containment slot that holds it. In a model there is at most one.
abbrev pub holding_feature : Parts → ObjId → List FeatId → List (List Cellv) → Option FeatId
holding_feature meta p [] slots = None
holding_feature meta p (f ∷ fs) [] = None
holding_feature meta p (f ∷ fs) (cells ∷ slots) = if (if contains meta f then holds p cells else false) then Some f else holding_feature meta p fs slots

-- where one object contains another
abbrev pub holding_in : Parts → ObjId → Object → Option FeatId
holding_in meta p object = holding_feature meta p (features meta.classes object.class) object.slots

abbrev pub holding_place : Parts → ObjId → Option Object → Option FeatId
holding_place meta p None = None
holding_place meta p (Some object) = holding_in meta p object

-- of the objects from a number on
abbrev pub holder_from : Parts → ObjId → ℕ → List (Option Object) → Option (ObjId × FeatId)
holder_from meta p n [] = None
holder_from meta p n (place ∷ places) = option_map_or (λ f. Some (record { 0 = n }, f)) (holding_place meta p place) (holder_from meta p (n + 1) places)

abbrev pub holder : Contents → ObjId → Option (ObjId × FeatId)
holder m p = holder_from m.meta p 0 m.objects

abbrev pub container : Contents → ObjId → Option ObjId
container m p = option_map (λ at. at.0) (holder m p)
