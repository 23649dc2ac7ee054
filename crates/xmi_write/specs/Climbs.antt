-- From an object up, container by container. What has as many containers above it as there are objects is below a cycle, and all of
-- that height lies on it.
use Rattle.std.specs.Prelude.{◌≡◌, ◌<◌, ◌≤◌, ℕ, zero, suc, List, length, slice_index_or, Contains, Option, Some, None}
use Rattle.std.specs.Option.{option_and_then}
use Rattle.atl_base.specs.declared.numbers.ObjId.{ObjId}
use Rattle.model_store.specs.Contents.{Contents, container}
use Rattle.model_store.specs.Order.{IsOnCycle}

-- what stands so many containers above an object
unfoldable pub climb : ℕ → Contents → ObjId → Option ObjId
climb zero m o = Some o
climb (suc n) m o = option_and_then (climb n m) (container m o)

-- a table of what stands so many containers above each object
pub record AreAbove (m : Contents) (n : ℕ) (above : List (Option ObjId)) : Type 0 where
  pub size : length above ≡ length m.objects
  pub each : (k : ℕ) → k < length m.objects → slice_index_or above k None ≡ climb n m (record { 0 = k })

-- among these objects are just those that lie on a cycle
pub record AreCyclic (m : Contents) (objects : List (Option ObjId)) : Type 0 where
  pub sound : (o : ObjId) → Contains objects (Some o) → IsOnCycle m o
  pub whole : (o : ObjId) → IsOnCycle m o → Contains objects (Some o)

-- the least of them
abbrev pub IsLeast : List (Option ObjId) → Option ObjId → Type 0
IsLeast objects None = (o : ObjId) → Contains objects (Some o) → ⊥
IsLeast objects (Some least) = Contains objects (Some least) × ((o : ObjId) → Contains objects (Some o) → least.0 ≤ o.0)
