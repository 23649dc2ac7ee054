-- Two models with the same roots, classes and contents but for the numbers of their objects: in both an object has the same path.
use Rattle.std.specs.Prelude.{◌≡◌, map, IsSome, true}
use Rattle.atl_base.specs.declared.numbers.FeatId.{FeatId}
use Rattle.atl_base.specs.declared.numbers.ObjId.{ObjId}
use Rattle.model_store.specs.Contents.{Contents, class_of, contains, object_at, slot}
use Rattle.xmi_round_trip.specs.Renumbered.{renumbered_value}

-- one model has the roots, classes and contents of the other, with other numbers
pub record HaveSameContents (new : ObjId → ObjId) (m n : Contents) : Type 0 where
  pub meta : n.meta ≡ m.meta
  pub roots : n.roots ≡ map new m.roots
  pub classes : (o : ObjId) → IsSome (object_at m.objects o) → class_of n (new o) ≡ class_of m o
  pub contents : (o : ObjId) (f : FeatId) → IsSome (object_at m.objects o) → contains m.meta f ≡ true → slot n (new o) f ≡ map (renumbered_value new) (slot m o f)
