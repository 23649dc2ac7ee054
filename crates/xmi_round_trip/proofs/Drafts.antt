-- What is known of the objects that a model's file stands for before their references are followed: attributes and contents are
-- there, with the new numbers.
use Rattle.std.specs.Prelude.{◌≡◌, List, [], map, Contains, Some, if◌then◌else◌}
use Rattle.atl_base.specs.declared.numbers.FeatId.{FeatId}
use Rattle.atl_base.specs.declared.numbers.ObjId.{ObjId}
use Rattle.ecore_meta.specs.Inheritance.{features}
use Rattle.model_store.specs.declared.parts.Cellv.{Cellv}
use Rattle.model_store.specs.declared.parts.Object.{Object}
use Rattle.model_store.specs.Contents.{Contents, contains, object_at, refers, slot}
use Rattle.model_store.specs.Order.{preorder}
use Rattle.xmi_models.specs.Outline.{Entry}
use Rattle.xmi_models.specs.Faults.{objects}
use Rattle.xmi_links.specs.References.{drafted_slot, object_by, objects_by, roots_from}
use Rattle.xmi_round_trip.specs.Renumbered.{number, renumbered_value}
use Rattle.xmi_round_trip.proofs.Filed.{file, object_entry}

-- the draft of a model's file: it is proved in `Drafted.antt`
pub record IsDrafted (m : Contents) : Type 0 where
  pub roots : roots_from 0 (objects (file m)) ≡ map (number m) m.roots
  pub objects : (S : ObjId → Entry → FeatId → List Cellv)
      → objects_by m.meta S 0 (objects (file m)) ≡ map (λ o. object_by m.meta (S (number m o) (object_entry m o)) (object_entry m o)) (preorder m)
  pub slots : (o : ObjId) (object : Object) (f : FeatId) → object_at m.objects o ≡ Some object → Contains (features m.meta.classes object.class) f
      → drafted_slot m.meta (file m) (number m o) (object_entry m o) f
      ≡ (if contains m.meta f then map (renumbered_value (number m)) (slot m o f) else if refers m.meta f then [] else slot m o f)
