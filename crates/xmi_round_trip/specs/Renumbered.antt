-- A model with other numbers for its objects, and above all numbered from 0 in preorder: as it is read from a file, which tells no
-- numbers.
use Rattle.std.specs.Prelude.{◌≡◌, map, option_map, IsSome}
use Rattle.std.specs.List.{position_or_len}
use Rattle.atl_base.specs.declared.numbers.ObjId.{ObjId}
use Rattle.model_store.specs.declared.parts.Cellv.{Cellv}
use Rattle.model_store.specs.declared.parts.Cellv.TheVariants.{Obj}
use Rattle.model_store.specs.declared.parts.Object.{Object}
use Rattle.model_store.specs.Contents.{Contents, is_object_no, object_at}
use Rattle.model_store.specs.Order.{preorder}

-- a value, where objects have these numbers
abbrev pub renumbered_value : (ObjId → ObjId) → Cellv → Cellv
renumbered_value new (Obj o) = Obj (new o)
renumbered_value new value = value

abbrev pub renumbered_object : (ObjId → ObjId) → Object → Object
renumbered_object new object = record { class = object.class; slots = map (map (renumbered_value new)) object.slots }

-- One model is the other with these numbers, and its objects stand in the same order.
pub record IsRenumbering (new : ObjId → ObjId) (m n : Contents) : Type 0 where
  pub meta : n.meta ≡ m.meta
  pub roots : n.roots ≡ map new m.roots
  pub objects : (o : ObjId) → IsSome (object_at m.objects o) → object_at n.objects (new o) ≡ option_map (renumbered_object new) (object_at m.objects o)
  -- no two objects become one, and none is added
  pub apart : (o p : ObjId) → IsSome (object_at m.objects o) → IsSome (object_at m.objects p) → new o ≡ new p → o ≡ p
  pub no_others : (q : ObjId) → IsSome (object_at n.objects q) → (o : ObjId) × IsSome (object_at m.objects o) × (new o ≡ q)
  pub order : preorder n ≡ map new (preorder m)

-- an object's place in preorder
abbrev pub number : Contents → ObjId → ObjId
number m o = record { 0 = position_or_len (is_object_no o) (preorder m) }

-- the model numbered so
abbrev pub renumbered : Contents → Contents
renumbered m = record {
  meta = m.meta;
  objects = map (λ o. option_map (renumbered_object (number m)) (object_at m.objects o)) (preorder m);
  roots = map (number m) m.roots;
}
