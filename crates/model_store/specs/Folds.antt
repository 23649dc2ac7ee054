-- A fold of writes: objects are created one by one, and then each write is applied in its order.
-- (After the two phases of ATL: all target elements are created before any of their features is bound.)
use Rattle.std.specs.Prelude.{◌≡◌, ℕ, ◌<◌, List, [], ◌∷◌, length, map, slice_get, All, Some}
use Rattle.atl_base.specs.declared.numbers.ClassId.{ClassId}
use Rattle.atl_base.specs.declared.numbers.FeatId.{FeatId}
use Rattle.atl_base.specs.declared.numbers.ObjId.{ObjId}
use Rattle.ecore_meta.specs.declared.parts.Parts.{Parts}
use Rattle.ecore_meta.specs.Valid.{IsMetamodel}
use Rattle.model_store.specs.declared.parts.Cellv.{Cellv}
use Rattle.model_store.specs.Contents.{Contents}
use Rattle.model_store.specs.Laws.{KeepsObjects}
use Rattle.model_store.specs.Valid.{IsConcrete, IsModel, Fits, HasSlot}
use Rattle.model_store.specs.Writes.{fresh, created, write}

-- values that are written to a feature of an object
pub record Writing : Type 0 where
  pub object : ObjId
  pub feature : FeatId
  pub values : List Cellv

-- no objects
abbrev pub empty : Parts → Contents
empty meta = record { meta = meta; objects = []; roots = [] }

-- objects of these classes more, in their order
abbrev pub all_created : Contents → List ClassId → Contents
all_created m [] = m
all_created m (class ∷ classes) = all_created (created m class) classes

-- all writes, in their order
abbrev pub all_written : Contents → List Writing → Contents
all_written m [] = m
all_written m (w ∷ writes) = all_written (write m w.object w.feature w.values) writes

-- The objects of these classes are the roots in order of creation, and then they are written to.
abbrev pub fold : Parts → List ClassId → List Writing → Contents
fold meta classes writes = all_written (all_created (empty meta) classes) writes

-- ## Laws

-- a class that may have objects of its own
abbrev pub MayCreate : Parts → ClassId → Type 0
MayCreate meta class = (class.0 < length meta.classes) × IsConcrete meta class

-- a write that is not refused
abbrev pub MayWrite : Contents → Writing → Type 0
MayWrite m w = HasSlot m w.object w.feature × Fits m w.feature w.values

-- what stands before the first write: each object as it was created, and each of them a root
pub record IsStart (meta : Parts) (classes : List ClassId) (start : Contents) : Type 0 where
  pub meta_kept : start.meta ≡ meta
  pub objects : start.objects ≡ map (λ class. Some (fresh meta class)) classes
  pub roots_length : length start.roots ≡ length classes
  pub roots : (k : ℕ) → k < length classes → slice_get start.roots k ≡ Some (record { 0 = k })

-- A fold of writes that may be made is a model with the objects that were created. A containment cycle may arise.
abbrev pub IsFoldLaw : Type 0
IsFoldLaw = (meta : Parts) → IsMetamodel meta → (classes : List ClassId) (writes : List Writing)
    → All (MayCreate meta) classes → All (MayWrite (all_created (empty meta) classes)) writes
    → IsStart meta classes (all_created (empty meta) classes) × IsModel (fold meta classes writes) × KeepsObjects (all_created (empty meta) classes) (fold meta classes writes)
