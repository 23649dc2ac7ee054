-- Which contents are a model: conditions, each by its name. Freedom from containment cycles is a condition of its own
-- (`HasNoCycle` of `Order.antt`), since some calls may leave a cycle.
use Rattle.std.specs.Prelude.{◌≡◌, ◌≢◌, ◌↔◌, ◌<◌, ◌≤◌, true, false, List, [], length, slice_get, Contains, All, Some, None, IsSome, IfSome}
use Rattle.std.specs.Option.{option_map_or, IsSomeAnd}
use Rattle.atl_base.specs.declared.numbers.ClassId.{ClassId}
use Rattle.atl_base.specs.declared.numbers.FeatId.{FeatId}
use Rattle.atl_base.specs.declared.numbers.ObjId.{ObjId}
use Rattle.ecore_meta.specs.declared.parts.FeatKind.{FeatKind}
use Rattle.ecore_meta.specs.declared.parts.Parts.{Parts}
use Rattle.ecore_meta.specs.declared.parts.FeatKind.TheVariants as Kind
use Rattle.ecore_meta.specs.Valid.{AllDiffer, IsMetamodel}
use Rattle.model_store.specs.declared.parts.Cellv.{Cellv}
use Rattle.model_store.specs.declared.parts.Cellv.TheVariants.{Words, Int, Truth, Literal, Obj}
use Rattle.model_store.specs.Contents.{Contents, object_at, class_of, slot, refers, is_many, contains, opposite, refusal, AreShaped, container}
use Rattle.model_store.specs.Order.{IsOf}

-- a class that may have objects of its own
abbrev pub IsConcrete : Parts → ClassId → Type 0
IsConcrete meta c = IfSome (slice_get meta.classes c.0) (λ class. class.is_abstract ≡ false)

-- a value of a feature's type
abbrev pub IsOfKind : Contents → FeatKind → Cellv → Type 0
IsOfKind m Kind.Str (Words text) = Unit {0}
IsOfKind m Kind.Opaque (Words text) = Unit {0}
IsOfKind m Kind.Int (Int n) = Unit {0}
IsOfKind m Kind.Truth (Truth b) = Unit {0}
IsOfKind m (Kind.Enum e) (Literal l) = l < option_map_or (λ d. length d.literals) (slice_get m.meta.enums e) 0
IsOfKind m (Kind.Refer class contains opposite) (Obj q) = IsOf m class q
IsOfKind m _ _ = ⊥

abbrev pub IsOfType : Contents → FeatId → Cellv → Type 0
IsOfType m f value = IsSomeAnd (slice_get m.meta.features f.0) (λ feature. IsOfKind m feature.kind value)

-- What may be written to a feature: values of its type, and at most one where it is single-valued.
pub record Fits (m : Contents) (f : FeatId) (values : List Cellv) : Type 0 where
  pub typed : All (IsOfType m f) values
  pub single : is_many m.meta f ≡ false → length values ≤ 1

-- an object has a feature
abbrev pub HasSlot : Contents → ObjId → FeatId → Type 0
HasSlot m o f = refusal m o f ≡ None

-- o refers to p by f
abbrev pub Refers : Contents → ObjId → FeatId → ObjId → Type 0
Refers m o f p = Contains (slot m o f) (Obj p)

pub record IsModel (m : Contents) : Type 0 where
  pub shaped : AreShaped m.meta m.objects
  -- no object is of an abstract class
  pub concrete : (o : ObjId) → IfSome (class_of m o) (IsConcrete m.meta)
  -- each slot holds values of its type, a single-valued one at most one
  pub fits : (o : ObjId) (f : FeatId) → HasSlot m o f → Fits m f (slot m o f)
  -- a single-valued attribute with a default is not empty
  pub defaults : (o : ObjId) (f : FeatId) → HasSlot m o f → refers m.meta f ≡ false → is_many m.meta f ≡ false
      → IsSomeAnd (slice_get m.meta.features f.0) (λ feature. IsSome feature.default) → slot m o f ≢ []
  -- a reference holds no object twice
  pub differ : (o : ObjId) (f : FeatId) → refers m.meta f ≡ true → AllDiffer (slot m o f)
  -- opposites agree
  pub opposites : (o p : ObjId) (f g : FeatId) → opposite m.meta f ≡ Some g → Refers m o f p → Refers m p g o
  -- no object has two containers
  pub contained_once : (o r p : ObjId) (f h : FeatId) → contains m.meta f ≡ true → contains m.meta h ≡ true → Refers m o f p → Refers m r h p → (o ≡ r) × (f ≡ h)
  -- the roots are the objects without a container, each once
  pub roots : (o : ObjId) → Contains m.roots o ↔ (IsSome (object_at m.objects o) × (container m o ≡ None))
  pub roots_differ : AllDiffer m.roots

-- What is true of each value of the type of models. Its metamodel is valid too.
pub record IsValid (m : Contents) : Type 0 where
  pub metamodel : IsMetamodel m.meta
  pub model : IsModel m
