-- The slots of a file's objects, feature by feature: before and after ends are joined.
use Rattle.std.proofs.Common.{◌≡◌, ℕ, zero, suc, ◌+◌, ◌<◌, List, [], ◌∷◌, length, map, refl, sym, ap, ◌∙◌, subst, arith, Option, Some, None}
use Rattle.std.specs.Prelude.{◌==◌, slice_get, slice_index_or, option_map, Contains}
use Rattle.std.specs.Option.{option_map_or}
use Rattle.std.proofs.lemmas.Bool.{eqb-true}
use Rattle.std.proofs.lemmas.List.{get_or-map, length-map}
use Rattle.std.proofs.lemmas.List.Quantifiers.{position-Some}
use Rattle.std.proofs.lemmas.Option.{none-some, same_Some}
use Rattle.atl_base.specs.declared.numbers.ClassId.{ClassId}
use Rattle.atl_base.specs.declared.numbers.FeatId.{FeatId}
use Rattle.atl_base.specs.declared.numbers.ObjId.{ObjId}
use Rattle.ecore_meta.specs.declared.parts.Parts.{Parts}
use Rattle.ecore_meta.specs.Inheritance.{features}
use Rattle.ecore_meta.specs.Valid.{IsMetamodel}
use Rattle.model_store.specs.declared.parts.Cellv.{Cellv}
use Rattle.model_store.specs.declared.parts.Object.{Object}
use Rattle.model_store.specs.Contents.{Contents, AreShaped, IsShaped, object_at, slot, slot_in, place_in}
use Rattle.model_store.specs.Valid.{HasSlot}
use Rattle.model_store.proofs.CreatedModel.{seen_once}
use Rattle.model_store.proofs.Holding.{SeenOnce, place_is}
use Rattle.model_store.proofs.Slots.{same_feature, at_of}
use Rattle.model_store.proofs.Thinned.{Contains_none}
use Rattle.xmi_models.specs.Outline.{Entry}
use Rattle.xmi_models.specs.Faults.{objects, own_class}
use Rattle.xmi_links.specs.References.{object_by, objects_by}
use Rattle.xmi_links.proofs.FaultlessContents.{same_number}

-- ## Any contents whose slots are made by a function of the feature

module _ (m : Contents) (o : ObjId) (object : Object) (once : SeenOnce m.meta object.class) (there : object_at m.objects o ≡ Some object) (s : FeatId → List Cellv) (made : object.slots ≡ map s (features m.meta.classes object.class)) where
  slot_made : (f : FeatId) → Contains (features m.meta.classes object.class) f → slot m o f ≡ s f
  slot_made f h =
      ap (λ x. option_map_or (slot_in m.meta f) x []) there
      ∙ ap (λ k. option_map_or (λ k. slice_index_or object.slots k []) k []) (place_is m.meta object.class once h.0 f h.1 h.2)
      ∙ ap (λ slots. slice_index_or slots h.0 []) made
      ∙ get_or-map s (features m.meta.classes object.class) h.0 f [] h.1
      ∙ ap s h.2

-- a feature with a place is seen
seen_at : (meta : Parts) (class : ClassId) (f : FeatId) (k : ℕ) → place_in meta class f ≡ Some k → Contains (features meta.classes class) f
seen_at meta class f k e =
    let x = position-Some (λ g. g.0 == f.0) (features meta.classes class) k f e in
    (k, x.0, same_feature (slice_index_or (features meta.classes class) k f) f (eqb-true (slice_index_or (features meta.classes class) k f).0 f.0 x.1))

-- what is in a slot is in a slot of a feature that the object has
slot_seen : (m : Contents) (o : ObjId) (f : FeatId) (v : Cellv) → Contains (slot m o f) v → (object : Object) × (object_at m.objects o ≡ Some object) × Contains (features m.meta.classes object.class) f
slot_seen m o f v h = by_object (object_at m.objects o) refl h
  where
    by_place : (object : Object) → object_at m.objects o ≡ Some object → (k : Option ℕ) → place_in m.meta object.class f ≡ k → Contains (option_map_or (λ k. slice_index_or object.slots k []) k []) v → (object : Object) × (object_at m.objects o ≡ Some object) × Contains (features m.meta.classes object.class) f
    by_place object e None i h = absurd (Contains_none v h)
    by_place object e (Some k) i h = (object, e, seen_at m.meta object.class f k i)

    by_object : (x : Option Object) → object_at m.objects o ≡ x → Contains (option_map_or (slot_in m.meta f) x []) v → (object : Object) × (object_at m.objects o ≡ Some object) × Contains (features m.meta.classes object.class) f
    by_object None e h = absurd (Contains_none v h)
    by_object (Some object) e h = by_place object e (place_in m.meta object.class f) refl h

-- ## Objects of a file

module _ (meta : Parts) (file : List Entry) where
  -- an object of the file, with its class
  pub record IsThere (o : ObjId) (c : ClassId) : Type 0 where
    pub entry : Entry
    pub there : slice_get (objects file) o.0 ≡ Some entry
    pub class : own_class entry.part ≡ Some c

  module _ (slots : ObjId → Entry → FeatId → List Cellv) where
    abbrev filled : List ObjId → Contents
    filled tops = record { meta = meta; objects = objects_by meta slots 0 (objects file); roots = tops }

    abbrev made_of : ObjId → Entry → ClassId → Object
    made_of o e c = record { class = c; slots = map (slots o e) (features meta.classes c) }

    by_at : (n : ℕ) (es : List Entry) (k : ℕ) (e : Entry) → slice_get es k ≡ Some e → slice_index_or (objects_by meta slots n es) k None ≡ object_by meta (slots (record { 0 = n + k }) e) e
    by_at n [] k e h = absurd (none-some e h)
    by_at n (x ∷ es) zero e h = ap (λ y. object_by meta (slots (record { 0 = n }) y) y) (same_Some x e h) ∙ ap (λ p. object_by meta (slots p e) e) (same_number n (n + 0) (omega arith))
    by_at n (x ∷ es) (suc k) e h = by_at (suc n) es k e h ∙ ap (λ p. object_by meta (slots p e) e) (same_number (suc n + k) (n + suc k) (omega arith))

    by_back : (n : ℕ) (es : List Entry) (k : ℕ) (object : Object) → slice_index_or (objects_by meta slots n es) k None ≡ Some object → (e : Entry) × (slice_get es k ≡ Some e)
    by_back n [] k object h = absurd (none-some object h)
    by_back n (x ∷ es) zero object h = (x, refl)
    by_back n (x ∷ es) (suc k) object h = by_back (suc n) es k object h

    place_is_made : (o : ObjId) (e : Entry) → slice_get (objects file) o.0 ≡ Some e → object_at (objects_by meta slots 0 (objects file)) o ≡ object_by meta (slots o e) e
    place_is_made o e h = by_at 0 (objects file) o.0 e h ∙ ap (λ p. object_by meta (slots p e) e) (same_number (0 + o.0) o.0 (omega arith))

    pub object_there : (o : ObjId) (c : ClassId) (t : IsThere o c) → object_at (objects_by meta slots 0 (objects file)) o ≡ Some (made_of o t.entry c)
    object_there o c t = place_is_made o t.entry t.there ∙ ap (option_map (λ d. made_of o t.entry d)) t.class

    -- each object is one of the file
    pub there_of : (o : ObjId) (object : Object) → object_at (objects_by meta slots 0 (objects file)) o ≡ Some object → IsThere o object.class
    there_of o object h =
        let x = by_back 0 (objects file) o.0 object h in
        by x.0 x.1 (own_class x.0.part) refl (sym (place_is_made o x.0 x.1) ∙ h)
      where
        by : (e : Entry) → slice_get (objects file) o.0 ≡ Some e → (c : Option ClassId) → own_class e.part ≡ c → option_map (λ d. made_of o e d) c ≡ Some object → IsThere o object.class
        by e t None i g = absurd (none-some object g)
        by e t (Some c) i g = record { entry = e; there = t; class = i ∙ ap (λ (y : Object). Some y.class) (same_Some (made_of o e c) object g) }

    module _ (within : (o : ObjId) (c : ClassId) → IsThere o c → c.0 < length meta.classes) where
      pub shaped : AreShaped meta (objects_by meta slots 0 (objects file))
      shaped n object h =
          let o : ObjId = record { 0 = n } in
          let t = there_of o object h in
          subst (IsShaped meta) (same_Some (made_of o t.entry object.class) object (sym (object_there o object.class t) ∙ h))
          (record { class_within = within o object.class t; slots = length-map (features meta.classes object.class) (slots o t.entry) })

  -- an object that has a feature
  pub record Has (o : ObjId) (f : FeatId) : Type 0 where
    pub class : ClassId
    pub it : IsThere o class
    pub sees : Contains (features meta.classes class) f

  module _ (slots : ObjId → Entry → FeatId → List Cellv) (tops : List ObjId) where
    pub has_of_slot : (o : ObjId) (f : FeatId) → HasSlot (filled slots tops) o f → Has o f
    has_of_slot o f h =
        let a = at_of (filled slots tops) o f h in
        record { class = a.object.class; it = there_of slots o a.object a.there; sees = seen_at meta a.object.class f a.place a.found }

    pub has_of_value : (o : ObjId) (f : FeatId) (v : Cellv) → Contains (slot (filled slots tops) o f) v → Has o f
    has_of_value o f v h =
        let x = slot_seen (filled slots tops) o f v h in
        record { class = x.0.class; it = there_of slots o x.0 x.1; sees = x.2 }

    pub slot_is : IsMetamodel meta → ((o : ObjId) (c : ClassId) → IsThere o c → c.0 < length meta.classes) → (o : ObjId) (f : FeatId) (h : Has o f) → slot (filled slots tops) o f ≡ slots o h.it.entry f
    slot_is valid within o f h = slot_made (filled slots tops) o (made_of slots o h.it.entry h.class) (seen_once meta valid h.class (within o h.class h.it)) (object_there slots o h.class h.it) (slots o h.it.entry) refl f h.sees
