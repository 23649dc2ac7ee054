-- The parts of an object: its contents are among them, and they stand slot by slot, for each feature that is seen in its class.
use Rattle.std.proofs.Common.{◌≡◌, ◌<◌, List, [], ◌∷◌, ◌++◌, length, map, refl, sym, ap, ◌∙◌, subst, ⊎_elim, Option, Some, None, ℕ}
use Rattle.std.specs.Prelude.{Bool, true, false, flat_map, Contains, IsSome, if◌then◌else◌, slice_index_or}
use Rattle.std.specs.Option.{option_map_or}
use Rattle.std.proofs.lemmas.Grind.{flat_map-append}
use Rattle.std.proofs.lemmas.List.Folds.{flat_map-map}
use Rattle.atl_base.specs.declared.numbers.FeatId.{FeatId}
use Rattle.atl_base.specs.declared.numbers.ObjId.{ObjId}
use Rattle.ecore_meta.specs.declared.parts.Parts.{Parts}
use Rattle.ecore_meta.specs.Inheritance.{features, name_of}
use Rattle.ecore_meta.specs.Valid.{AllDiffer, IsMetamodel}
use Rattle.ecore_meta.proofs.Membership.{Contains-flat_map, Contains-from_flat_map}
use Rattle.model_store.specs.declared.parts.Cellv.{Cellv}
use Rattle.model_store.specs.declared.parts.Object.{Object}
use Rattle.model_store.specs.Contents.{Contents, contains, is_many, object_at, objects_of, refers, slot, slot_in}
use Rattle.model_store.specs.Order.{contents, contents_in, contents_of}
use Rattle.model_store.specs.Valid.{Fits, HasSlot, IsValid, IsModel, IsOfType}
use Rattle.model_store.proofs.CreatedModel.{seen_once}
use Rattle.model_store.proofs.Holding.{place_is}
use Rattle.model_store.proofs.Slots.{has_slot, same_feature}
use Rattle.model_store.proofs.Thinned.{Contains_first, Contains_none, Contains_cases, Contains_later}
use Rattle.xmi_write.specs.Xmi.{Part, Content, Value, by_slot, parts_of, slot_parts}
use Rattle.xmi_round_trip.proofs.Filed.{IsOrdered, own_parts}
use Rattle.xmi_round_trip.proofs.Lists.{flat_map_twice, flat_map_none, only}
use Rattle.xmi_round_trip.proofs.Differing.{differ_before, flat_map_one}
use Rattle.xmi_names.specs.Names.{feature_named}
use Rattle.xmi_names.proofs.FeatureNames.{one_found}
use Rattle.model_store.proofs.Created.{all_contained, slot_of}
use Rattle.model_store.specs.declared.parts.Cellv.TheVariants.{Words, Int, Truth, Literal, Obj}
use Rattle.xmi_text.proofs.Lists.{in_map}

-- ## Contents

-- the object of a part
abbrev pub part_objects : Part → List ObjId
part_objects (Content f q) = q ∷ []
part_objects (Value f v) = []

-- parts that are contents
of_contents : (f : FeatId) (os : List ObjId) → os ≡ flat_map part_objects (map (Content f) os)
of_contents f [] = refl
of_contents f (o ∷ os) = ap (λ xs. o ∷ xs) (of_contents f os)

-- parts that are values
of_values : (f : FeatId) (cells : List Cellv) → [] ≡ flat_map part_objects (map (Value f) cells)
of_values f [] = refl
of_values f (v ∷ cells) = of_values f cells

-- the parts of one slot
slot_objects : (f : FeatId) (cells : List Cellv) (a b c : Bool)
    → (if a then objects_of cells else []) ≡ flat_map part_objects (if a then map (Content f) (objects_of cells) else if b then [] else if c then map (Value f) cells else [])
slot_objects f cells true b c = of_contents f (objects_of cells)
slot_objects f cells false true c = refl
slot_objects f cells false false true = of_values f cells
slot_objects f cells false false false = refl

-- those of all slots
contents_in_are : (meta : Parts) (fs : List FeatId) (slots : List (List Cellv)) → contents_in meta fs slots ≡ flat_map part_objects (by_slot (slot_parts meta) fs slots)
contents_in_are meta [] slots = refl
contents_in_are meta (f ∷ fs) [] = refl
contents_in_are meta (f ∷ fs) (cells ∷ slots) =
    ap (λ xs. xs ++ contents_in meta fs slots) (slot_objects f cells (contains meta f) (refers meta f) (is_many meta f))
    ∙ ap (λ xs. flat_map part_objects (slot_parts meta f cells) ++ xs) (contents_in_are meta fs slots)
    ∙ sym (flat_map-append part_objects (slot_parts meta f cells) (by_slot (slot_parts meta) fs slots))

-- the objects of its parts are the contents of an object
pub contents_are : (m : Contents) (o : ObjId) → contents m o ≡ flat_map part_objects (own_parts m o)
contents_are m o = on (object_at m.objects o)
  where
    on : (x : Option Object) → option_map_or (contents_of m.meta) x [] ≡ flat_map part_objects (option_map_or (parts_of m.meta) x [])
    on None = refl
    on (Some object) = contents_in_are m.meta (features m.meta.classes object.class) object.slots

-- each is a content
pub content_in : (m : Contents) (o q : ObjId) (f : FeatId) → Contains (own_parts m o) (Content f q) → Contains (contents m o) q
content_in m o q f h =
    subst (λ (l : List ObjId). Contains l q) (sym (contents_are m o)) (Contains-flat_map part_objects (own_parts m o) (Content f q) q h (Contains_first q []))

-- each content is a part by some feature
pub part_there : (m : Contents) (o q : ObjId) → Contains (contents m o) q → (f : FeatId) × Contains (own_parts m o) (Content f q)
part_there m o q h =
    let x = Contains-from_flat_map part_objects (own_parts m o) q (subst (λ (l : List ObjId). Contains l q) (contents_are m o) h) in
    by x.0 x.1 x.2
  where
    by : (p : Part) → Contains (own_parts m o) p → Contains (part_objects p) q → (f : FeatId) × Contains (own_parts m o) (Content f q)
    by (Content f s) c d = (f, subst (λ (z : ObjId). Contains (own_parts m o) (Content f z)) (only s q d) c)
    by (Value f v) c d = absurd (Contains_none q d)

-- what has parts is there
pub owner_there : (m : Contents) (o : ObjId) (p : Part) → Contains (own_parts m o) p → IsSome (object_at m.objects o)
owner_there m o p h = on (object_at m.objects o) h
  where
    on : (x : Option Object) → Contains (option_map_or (parts_of m.meta) x []) p → IsSome x
    on None h = absurd (Contains_none p h)
    on (Some object) h = refl

-- ## Its class

module _ (m : Contents) (valid : IsValid m) (o : ObjId) (object : Object) (there : object_at m.objects o ≡ Some object) where
  -- it is one
  pub class_within : object.class.0 < length m.meta.classes
  class_within = (valid.model.shaped o.0 object there).class_within

  -- a feature that is seen in it is found by its name
  pub feature_found : (f : FeatId) → Contains (features m.meta.classes object.class) f → feature_named m.meta object.class (name_of m.meta.features f) ≡ Some f
  feature_found f h = one_found (name_of m.meta.features) (name_of m.meta.features f) (features m.meta.classes object.class) f (valid.metamodel.seen_differ object.class class_within) h refl

  -- its features differ
  pub seen_differ : AllDiffer (features m.meta.classes object.class)
  seen_differ = differ_before (name_of m.meta.features) (features m.meta.classes object.class) (valid.metamodel.seen_differ object.class class_within)

  -- each has a slot
  pub has_it : (f : FeatId) → Contains (features m.meta.classes object.class) f → HasSlot m o f
  has_it f h = has_slot m o f (record { object = object; there = there; place = h.0; found = place_is m.meta object.class (seen_once m.meta valid.metamodel object.class class_within) h.0 f h.1 h.2 })

  -- which fits it
  pub slot_fits : (f : FeatId) → Contains (features m.meta.classes object.class) f → Fits m f (slot m o f)
  slot_fits f h = valid.model.fits o f (has_it f h)

-- the values of a slot are of its feature's type
pub slot_typed : (m : Contents) → IsModel m → (o : ObjId) (f : FeatId) (v : Cellv) → Contains (slot m o f) v → IsOfType m f v
slot_typed m model o f v h = all_contained (IsOfType m f) (slot m o f) v (model.fits o f (slot_of m o f v h)).typed h

-- ## Slot by slot

-- the slot of a feature stands at the feature's place
pub slot_there : (m : Contents) → IsMetamodel m.meta → IsModel m → (o : ObjId) (object : Object) (k : ℕ) (f : FeatId) → object_at m.objects o ≡ Some object → k < length (features m.meta.classes object.class)
    → slice_index_or (features m.meta.classes object.class) k f ≡ f → slot m o f ≡ slice_index_or object.slots k []
slot_there m valid model o object k f there l e =
    ap (λ x. option_map_or (slot_in m.meta f) x []) there
    ∙ ap (λ x. option_map_or (λ k. slice_index_or object.slots k []) x []) (place_is m.meta object.class (seen_once m.meta valid object.class (model.shaped o.0 object there).class_within) k f l e)

-- what is said of slots that are made feature by feature
pub by_slot_map : {X : Type 0} (say : FeatId → List Cellv → List X) (s : FeatId → List Cellv) (fs : List FeatId) → by_slot say fs (map s fs) ≡ flat_map (λ f. say f (s f)) fs
by_slot_map say s [] = refl
by_slot_map say s (f ∷ fs) = ap (λ xs. say f (s f) ++ xs) (by_slot_map say s fs)

-- what is said of one of them
pub in_slots : {X : Type 0} (say : FeatId → List Cellv → List X) (s : FeatId → List Cellv) (fs : List FeatId) (x : X) → Contains (by_slot say fs (map s fs)) x → (f : FeatId) × Contains fs f × Contains (say f (s f)) x
in_slots {X} say s fs x h = Contains-from_flat_map (λ f. say f (s f)) fs x (subst (λ (l : List X). Contains l x) (by_slot_map say s fs) h)

-- an object of a slot stands in it
pub object_among : (p : ObjId) (cells : List Cellv) → Contains (objects_of cells) p → Contains cells (Obj p)
object_among p [] h = absurd (Contains_none p h)
object_among p (Obj q ∷ cells) h = ⊎_elim
    (λ (e : q ≡ p). subst (λ r. Contains (Obj q ∷ cells) (Obj r)) e (Contains_first (Obj q) cells))
    (λ (g : Contains (objects_of cells) p). Contains_later (Obj q) (Obj p) cells (object_among p cells g))
    (Contains_cases q p (objects_of cells) h)
object_among p (Words t ∷ cells) h = Contains_later (Words t) (Obj p) cells (object_among p cells h)
object_among p (Int n ∷ cells) h = Contains_later (Int n) (Obj p) cells (object_among p cells h)
object_among p (Truth b ∷ cells) h = Contains_later (Truth b) (Obj p) cells (object_among p cells h)
object_among p (Literal l ∷ cells) h = Contains_later (Literal l) (Obj p) cells (object_among p cells h)

-- ## Each part

-- a part of an object: a content stands in the slot of a containment, a value in that of a many-valued attribute
abbrev pub IsPart : Contents → ObjId → List FeatId → Part → Type 0
IsPart m o fs (Content f q) = Contains fs f × (contains m.meta f ≡ true) × Contains (slot m o f) (Obj q)
IsPart m o fs (Value f v) = Contains fs f × (contains m.meta f ≡ false) × (refers m.meta f ≡ false) × (is_many m.meta f ≡ true) × Contains (slot m o f) v

-- the parts of one slot are such
slot_part : (m : Contents) (o : ObjId) (fs : List FeatId) (g : FeatId) → Contains fs g → (p : Part) → Contains (slot_parts m.meta g (slot m o g)) p → IsPart m o fs p
slot_part m o fs g sees p h = on (contains m.meta g) refl (refers m.meta g) refl (is_many m.meta g) refl h
  where
    on : (a : Bool) → contains m.meta g ≡ a → (b : Bool) → refers m.meta g ≡ b → (c : Bool) → is_many m.meta g ≡ c
        → Contains (if a then map (Content g) (objects_of (slot m o g)) else if b then [] else if c then map (Value g) (slot m o g) else []) p → IsPart m o fs p
    on true i b j c l k = let x = in_map (Content g) (objects_of (slot m o g)) p k in subst (IsPart m o fs) x.2 (sees, i, object_among x.0 (slot m o g) x.1)
    on false i true j c l k = absurd (Contains_none p k)
    on false i false j true l k = let x = in_map (Value g) (slot m o g) p k in subst (IsPart m o fs) x.2 (sees, i, j, l, x.1)
    on false i false j false l k = absurd (Contains_none p k)

-- and so are all of an object, of the features of its class
pub part_is : (m : Contents) (o : ObjId) (object : Object) → object.slots ≡ map (slot m o) (features m.meta.classes object.class) → (p : Part) → Contains (parts_of m.meta object) p
    → IsPart m o (features m.meta.classes object.class) p
part_is m o object slots p h =
    let fs : List FeatId = features m.meta.classes object.class in
    let r = in_slots (slot_parts m.meta) (slot m o) fs p (subst (λ (l : List (List Cellv)). Contains (by_slot (slot_parts m.meta) fs l) p) slots h) in
    slot_part m o fs r.0 r.1 p r.2

-- ## What parts say

module _ (m : Contents) (known : IsOrdered m) (o : ObjId) (object : Object) (there : object_at m.objects o ≡ Some object) where
  -- the features of its class
  abbrev seen : List FeatId
  seen = features m.meta.classes object.class

  -- what is said of all its slots
  pub by_slots : {X : Type 0} (say : FeatId → List Cellv → List X) → by_slot say seen object.slots ≡ flat_map (λ f. say f (slot m o f)) seen
  by_slots say = ap (by_slot say seen) (known.slots o object there) ∙ by_slot_map say (slot m o) seen

  -- its parts
  own_parts_are : own_parts m o ≡ flat_map (λ f. slot_parts m.meta f (slot m o f)) seen
  own_parts_are = ap (λ x. option_map_or (parts_of m.meta) x []) there ∙ by_slots (slot_parts m.meta)

  -- where only the parts of one slot say anything
  module _ (valid : IsValid m) {X : Type 0} (say : Part → List X) (f : FeatId) (contents_else : (g : FeatId) (q : ObjId) → (g.0 ≡ f.0 → ⊥) → say (Content g q) ≡ [])
      (values_else : (g : FeatId) (v : Cellv) → (g.0 ≡ f.0 → ⊥) → say (Value g v) ≡ []) where
    -- the parts of another slot say nothing
    slot_silent : (g : FeatId) (cells : List Cellv) → (g.0 ≡ f.0 → ⊥) → (a b c : Bool)
        → flat_map say (if a then map (Content g) (objects_of cells) else if b then [] else if c then map (Value g) cells else []) ≡ []
    slot_silent g cells n true b c = flat_map-map say (Content g) (objects_of cells) ∙ flat_map_none (λ q. say (Content g q)) (objects_of cells) (λ q h. contents_else g q n)
    slot_silent g cells n false true c = refl
    slot_silent g cells n false false true = flat_map-map say (Value g) cells ∙ flat_map_none (λ v. say (Value g v)) cells (λ v h. values_else g v n)
    slot_silent g cells n false false false = refl

    -- so what is said is said of that slot
    pub one_slot : Contains seen f → flat_map say (own_parts m o) ≡ flat_map say (slot_parts m.meta f (slot m o f))
    one_slot h =
        ap (flat_map say) own_parts_are
        ∙ flat_map_twice say (λ g. slot_parts m.meta g (slot m o g)) seen
        ∙ flat_map_one (λ g. flat_map say (slot_parts m.meta g (slot m o g))) seen f (seen_differ m valid o object there) h
        (λ g i n. slot_silent g (slot m o g) (λ e. n (same_feature g f e)) (contains m.meta g) (refers m.meta g) (is_many m.meta g))
