-- What an object contains: it refers to each of its contents, to each once, and nothing else does.
use Rattle.std.proofs.Common.{◌≡◌, ℕ, ◌<◌, Bool, true, false, List, [], ◌∷◌, length, refl, sym, ap, subst, ◌∙◌, arith, Option, Some, None, ◌++◌}
use Rattle.std.specs.Prelude.{slice_index_or, map, Contains, IsSome, is_some, if◌then◌else◌, flat_map}
use Rattle.std.specs.Option.{option_map_or}
use Rattle.std.proofs.lemmas.List.{get_or-map, get_or_default, length-map, same_lists}
use Rattle.atl_base.specs.declared.numbers.FeatId.{FeatId}
use Rattle.atl_base.specs.declared.numbers.ObjId.{ObjId}
use Rattle.ecore_meta.specs.declared.parts.Parts.{Parts}
use Rattle.ecore_meta.specs.Inheritance.{features}
use Rattle.ecore_meta.specs.Valid.{AllDiffer, IsMetamodel}
use Rattle.model_store.specs.declared.parts.Cellv.{Cellv}
use Rattle.model_store.specs.declared.parts.Cellv.TheVariants.{Words, Int, Truth, Literal, Obj}
use Rattle.model_store.specs.declared.parts.Object.{Object}
use Rattle.model_store.specs.Contents.{Contents, contains, holder, object_at, objects_of, slot}
use Rattle.model_store.specs.Order.{contents, contents_in, contents_of}
use Rattle.model_store.specs.Valid.{IsModel, Refers}
use Rattle.model_store.proofs.Added.{contains_refers}
use Rattle.model_store.proofs.Created.{referred_to}
use Rattle.model_store.proofs.Holding.{uncontained}
use Rattle.model_store.proofs.Thinned.{Contains_none}
use Rattle.xmi_round_trip.proofs.Lists.{element}
use Rattle.xmi_round_trip.proofs.Differing.{differ_none, differ_cons, differ_tail, differ_head, joined_differ}
use Rattle.xmi_round_trip.proofs.Parts.{slot_there, object_among, part_is, seen_differ}
use Rattle.xmi_round_trip.proofs.Filed.{own_parts}
use Rattle.xmi_write.specs.Xmi.{Content, parts_of}
use Rattle.xmi_round_trip.proofs.Holders.{holder_is}
use Rattle.ecore_meta.proofs.Membership.{Contains-from_flat_map}

-- ## The contents in slots

-- the objects of a slot differ where its values do
objects_differ : (cells : List Cellv) → AllDiffer cells → AllDiffer (objects_of cells)
objects_differ [] h = differ_none
objects_differ (Obj q ∷ cells) h = differ_cons q (objects_of cells) (λ c. differ_head (Obj q) cells h (object_among q cells c)) (objects_differ cells (differ_tail (Obj q) cells h))
objects_differ (Words t ∷ cells) h = objects_differ cells (differ_tail (Words t) cells h)
objects_differ (Int n ∷ cells) h = objects_differ cells (differ_tail (Int n) cells h)
objects_differ (Truth b ∷ cells) h = objects_differ cells (differ_tail (Truth b) cells h)
objects_differ (Literal l ∷ cells) h = objects_differ cells (differ_tail (Literal l) cells h)

-- the contents in the slot of a feature
abbrev held_in : Contents → ObjId → FeatId → List ObjId
held_in m o f = if contains m.meta f then objects_of (slot m o f) else []

-- the object refers to them, by a containment
in_held : (m : Contents) (o : ObjId) (f : FeatId) (p : ObjId) → Contains (held_in m o f) p → (contains m.meta f ≡ true) × Refers m o f p
in_held m o f p h = on (contains m.meta f) refl h
  where
    on : (b : Bool) → contains m.meta f ≡ b → Contains (if b then objects_of (slot m o f) else []) p → (contains m.meta f ≡ true) × Refers m o f p
    on true e k = (e, object_among p (slot m o f) k)
    on false e k = absurd (Contains_none p k)

-- the contents in slots, feature by feature
contents_by : (meta : Parts) (s : FeatId → List Cellv) (fs : List FeatId) → contents_in meta fs (map s fs) ≡ flat_map (λ f. if contains meta f then objects_of (s f) else []) fs
contents_by meta s [] = refl
contents_by meta s (f ∷ fs) = ap (λ l. (if contains meta f then objects_of (s f) else []) ++ l) (contents_by meta s fs)

-- ## In a model

module _ (m : Contents) (valid : IsMetamodel m.meta) (model : IsModel m) where
  -- each slot by its feature
  pub slots_are : (o : ObjId) (object : Object) → object_at m.objects o ≡ Some object → object.slots ≡ map (slot m o) (features m.meta.classes object.class)
  slots_are o object there = same_lists object.slots (map (slot m o) (features m.meta.classes object.class)) sizes each
    where
      seen : List FeatId
      seen = features m.meta.classes object.class

      sizes : length object.slots ≡ length (map (slot m o) seen)
      sizes = (model.shaped o.0 object there).slots ∙ sym (length-map seen (slot m o))

      each : (k : ℕ) (d : List Cellv) → k < length object.slots → slice_index_or object.slots k d ≡ slice_index_or (map (slot m o) seen) k d
      each k d l =
          let low : k < length seen = omega (arith, l, (model.shaped o.0 object there).slots) in
          let f = element seen k low in
          get_or_default object.slots k d [] l
          ∙ sym (slot_there m valid model o object k f.0 there low f.1)
          ∙ sym (ap (slot m o) f.1)
          ∙ sym (get_or-map (slot m o) seen k f.0 d low)

  -- its contents are those in its slots
  contents_held : (o : ObjId) (object : Object) → object_at m.objects o ≡ Some object → contents m o ≡ flat_map (held_in m o) (features m.meta.classes object.class)
  contents_held o object there =
      ap (λ x. option_map_or (contents_of m.meta) x []) there
      ∙ ap (contents_in m.meta (features m.meta.classes object.class)) (slots_are o object there)
      ∙ contents_by m.meta (slot m o) (features m.meta.classes object.class)

  -- an object refers to each of its contents, by a containment
  pub content_refers : (o p : ObjId) → Contains (contents m o) p → (f : FeatId) × (contains m.meta f ≡ true) × Refers m o f p
  content_refers o p h = on (object_at m.objects o) refl
    where
      on : (x : Option Object) → object_at m.objects o ≡ x → (f : FeatId) × (contains m.meta f ≡ true) × Refers m o f p
      on None e = absurd (Contains_none p (subst (λ x. Contains (option_map_or (contents_of m.meta) x []) p) e h))
      on (Some object) e =
          let x = Contains-from_flat_map (held_in m o) (features m.meta.classes object.class) p (subst (λ l. Contains l p) (contents_held o object e) h) in
          let y = in_held m o x.0 p x.2 in
          (x.0, y.0, y.1)

  -- and they are there
  pub content_there : (o p : ObjId) → Contains (contents m o) p → IsSome (object_at m.objects p)
  content_there o p h = let x = content_refers o p h in let y = referred_to m model o x.0 p x.2 in ap is_some y.1

  -- an object stands in one other alone
  pub one_container : (o r p : ObjId) → Contains (contents m o) p → Contains (contents m r) p → o ≡ r
  one_container o r p h k =
      let x = content_refers o p h in
      let y = content_refers r p k in
      (model.contained_once o r p x.0 y.0 x.1 y.1 x.2 y.2).0

  -- none of the contents stands among them twice
  pub contents_differ : (o : ObjId) → AllDiffer (contents m o)
  contents_differ o = on (object_at m.objects o) refl
    where
      each : (f : FeatId) (b : Bool) → contains m.meta f ≡ b → AllDiffer (if b then objects_of (slot m o f) else [])
      each f true e = objects_differ (slot m o f) (model.differ o f (contains_refers m.meta f e))
      each f false e = differ_none

      once : (f g : FeatId) (p : ObjId) → Contains (held_in m o f) p → Contains (held_in m o g) p → f ≡ g
      once f g p h k =
          let x = in_held m o f p h in
          let y = in_held m o g p k in
          (model.contained_once o o p f g x.0 y.0 x.1 y.1).1

      on : (x : Option Object) → object_at m.objects o ≡ x → AllDiffer (contents m o)
      on None e = subst (λ x. AllDiffer (option_map_or (contents_of m.meta) x [])) (sym e) differ_none
      on (Some object) e = subst AllDiffer (sym (contents_held o object e)) (joined_differ (held_in m o) (features m.meta.classes object.class)
          (seen_differ m (record { metamodel = valid; model = model }) o object e)
          (λ f sees. each f (contains m.meta f) refl)
          (λ f g p a b h k. once f g p h k))

  -- a root is none of the contents
  pub root_apart : (o p : ObjId) → Contains m.roots p → Contains (contents m o) p → ⊥
  root_apart o p h k = let x = content_refers o p k in uncontained m p ((model.roots p).0 h).1 o x.0 x.1 x.2

  -- what stands as a content in an object's element is held by this object, in this feature
  pub part_held : (o q : ObjId) (f : FeatId) → Contains (own_parts m o) (Content f q) → holder m q ≡ Some (o, f)
  part_held o q f h = on (object_at m.objects o) refl h
    where
      on : (x : Option Object) → object_at m.objects o ≡ x → Contains (option_map_or (parts_of m.meta) x []) (Content f q) → holder m q ≡ Some (o, f)
      on None e k = absurd (Contains_none (Content f q) k)
      on (Some object) e k =
          let x = part_is m o object (slots_are o object e) (Content f q) k in
          holder_is m valid model o q f x.1 x.2
