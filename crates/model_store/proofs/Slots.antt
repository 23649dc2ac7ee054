-- Slots after other values were put into one of them.
use Rattle.std.proofs.Common.{◌≡◌, ◌≢◌, ℕ, ◌<◌, List, [], length, refl, sym, ap, ◌∙◌, ⊎_elim, arith, Option, Some, None}
use Rattle.std.specs.Prelude.{◌==◌, slice_index_or, slice_set, is_some, if◌then◌else◌}
use Rattle.std.specs.Option.{option_map_or}
use Rattle.std.proofs.lemmas.Bool.{cases_eq, eqb-true}
use Rattle.std.proofs.lemmas.List.{get_or-set_same, get_or-set_other}
use Rattle.std.proofs.lemmas.List.Quantifiers.{position-Some}
use Rattle.std.proofs.lemmas.Option.{none-some}
use Rattle.atl_base.specs.declared.numbers.ClassId.{ClassId}
use Rattle.atl_base.specs.declared.numbers.FeatId.{FeatId}
use Rattle.atl_base.specs.declared.numbers.ObjId.{ObjId}
use Rattle.ecore_meta.specs.declared.parts.Parts.{Parts}
use Rattle.ecore_meta.specs.Inheritance.{features}
use Rattle.model_store.specs.declared.parts.Cellv.{Cellv}
use Rattle.model_store.specs.declared.parts.Object.{Object}
use Rattle.model_store.specs.declared.refusal.StoreRefusal.TheVariants.{NoObject, NoFeature}
use Rattle.model_store.specs.Contents.{Contents, object_at, place_in, slot_in, slot, with_slot, set_slot, refusal, AreShaped, HasPlace}
use Rattle.model_store.specs.Valid.{HasSlot}
use Rattle.model_store.proofs.Updates.{found_within, set_slot_is, shaped_change}

pub same_object : (o p : ObjId) → o.0 ≡ p.0 → o ≡ p
same_object o p e = ap (λ n. record { 0 = n }) e

pub same_feature : (f g : FeatId) → f.0 ≡ g.0 → f ≡ g
same_feature f g e = ap (λ n. record { 0 = n }) e

-- an object, and the place of a feature in it
pub record IsAt (m : Contents) (o : ObjId) (f : FeatId) : Type 0 where
  pub object : Object
  pub there : object_at m.objects o ≡ Some object
  pub place : ℕ
  pub found : place_in m.meta object.class f ≡ Some place

pub at_of : (m : Contents) (o : ObjId) (f : FeatId) → HasSlot m o f → IsAt m o f
at_of m o f h = by_object (object_at m.objects o) refl h
  where
    by_place : (object : Object) → object_at m.objects o ≡ Some object → (k : Option ℕ) → place_in m.meta object.class f ≡ k → (if is_some k then None else Some NoFeature) ≡ None → IsAt m o f
    by_place object e None x h = absurd (none-some NoFeature (sym h))
    by_place object e (Some k) x h = record { object = object; there = e; place = k; found = x }

    by_object : (x : Option Object) → object_at m.objects o ≡ x → option_map_or (λ object. if is_some (place_in m.meta object.class f) then None else Some NoFeature) x (Some NoObject) ≡ None → IsAt m o f
    by_object None e h = absurd (none-some NoObject (sym h))
    by_object (Some object) e h = by_place object e (place_in m.meta object.class f) refl h

pub has_slot : (m : Contents) (o : ObjId) (f : FeatId) → IsAt m o f → HasSlot m o f
has_slot m o f a =
    ap (λ x. option_map_or (λ object. if is_some (place_in m.meta object.class f) then None else Some NoFeature) x (Some NoObject)) a.there
    ∙ ap (λ k. if is_some k then None else Some NoFeature) a.found

pub slot_at : (m : Contents) (o : ObjId) (f : FeatId) (a : IsAt m o f) → slot m o f ≡ slice_index_or a.object.slots a.place []
slot_at m o f a = ap (λ x. option_map_or (slot_in m.meta f) x []) a.there ∙ ap (λ k. option_map_or (λ k. slice_index_or a.object.slots k []) k []) a.found

-- two features have two places
place_apart : (meta : Parts) (class : ClassId) (f g : FeatId) (k : ℕ) → place_in meta class f ≡ Some k → place_in meta class g ≡ Some k → f ≡ g
place_apart meta class f g k a b =
    let x = position-Some (λ h. h.0 == f.0) (features meta.classes class) k f a in
    let y = position-Some (λ h. h.0 == g.0) (features meta.classes class) k f b in
    same_feature f g (sym (eqb-true _ f.0 x.1) ∙ eqb-true _ g.0 y.1)

module _ (m : Contents) (shaped : AreShaped m.meta m.objects) (o : ObjId) (f : FeatId) (cells : List Cellv) (a : IsAt m o f) where
  within : a.place < length a.object.slots
  within = let x = position-Some (λ h. h.0 == f.0) (features m.meta.classes a.object.class) a.place f a.found in omega (arith, x.0, (shaped o.0 a.object a.there).slots)

  abbrev has_place : HasPlace m.meta m.objects o a.place
  has_place = record { object = a.object; there = a.there; within = within }

  found_is : Some a.place ≡ option_map_or (λ object. place_in m.meta object.class f) (object_at m.objects o) None
  found_is = sym (ap (λ x. option_map_or (λ object. place_in m.meta object.class f) x None) a.there ∙ a.found)

  abbrev pub after : Contents
  after = record m { objects = slice_set m.objects o.0 (Some (with_slot a.object a.place cells)) }

  pub after_is : set_slot m o f cells ≡ after
  after_is = set_slot_is m o f a.place cells has_place found_is

  bound : o.0 < length m.objects
  bound = found_within m.objects o.0 a.object a.there

  pub here : object_at after.objects o ≡ Some (with_slot a.object a.place cells)
  here = get_or-set_same m.objects o.0 (Some (with_slot a.object a.place cells)) None bound

  pub elsewhere : (p : ObjId) → p.0 ≢ o.0 → object_at after.objects p ≡ object_at m.objects p
  elsewhere p n = get_or-set_other m.objects o.0 p.0 (Some (with_slot a.object a.place cells)) None n

  -- what an object is apart from its slots stays
  pub kept : {X : Type 0} (view : Object → X) → view (with_slot a.object a.place cells) ≡ view a.object → (d : X) (p : ObjId) → option_map_or view (object_at after.objects p) d ≡ option_map_or view (object_at m.objects p) d
  kept view same d p = ⊎_elim
      (λ (e : p.0 ≡ o.0). ap (λ q. option_map_or view (object_at after.objects q) d) (same_object p o e) ∙ ap (λ x. option_map_or view x d) here ∙ same ∙ sym (ap (λ x. option_map_or view x d) a.there) ∙ ap (λ q. option_map_or view (object_at m.objects q) d) (sym (same_object p o e)))
      (λ (n : p.0 ≢ o.0). ap (λ x. option_map_or view x d) (elsewhere p n))
      (cases_eq p.0 o.0)

  pub refusal_kept : (p : ObjId) (g : FeatId) → refusal after p g ≡ refusal m p g
  refusal_kept p g = kept (λ object. if is_some (place_in m.meta object.class g) then None else Some NoFeature) refl (Some NoObject) p

  pub shaped_kept : AreShaped m.meta after.objects
  shaped_kept = shaped_change m o f a.place cells has_place found_is shaped

  pub slot_same : slot after o f ≡ cells
  slot_same = ap (λ x. option_map_or (slot_in m.meta f) x []) here
      ∙ ap (λ k. option_map_or (λ k. slice_index_or (slice_set a.object.slots a.place cells) k []) k []) a.found
      ∙ get_or-set_same a.object.slots a.place cells [] within

  pub slot_other : (p : ObjId) (g : FeatId) → (p ≡ o → g ≡ f → ⊥) → slot after p g ≡ slot m p g
  slot_other p g n = ⊎_elim
      (λ (e : p.0 ≡ o.0). let same = same_object p o e in
      ap (λ q. slot after q g) same ∙ of_object (place_in m.meta a.object.class g) refl (n same) ∙ ap (λ q. slot m q g) (sym same))
      (λ (k : p.0 ≢ o.0). ap (λ x. option_map_or (slot_in m.meta g) x []) (elsewhere p k))
      (cases_eq p.0 o.0)
    where
      of_object : (k : Option ℕ) → place_in m.meta a.object.class g ≡ k → (g ≡ f → ⊥) → slot after o g ≡ slot m o g
      of_object None e d =
          ap (λ x. option_map_or (slot_in m.meta g) x []) here ∙ ap (λ k. option_map_or (λ k. slice_index_or (slice_set a.object.slots a.place cells) k []) k []) e
          ∙ sym (ap (λ x. option_map_or (slot_in m.meta g) x []) a.there ∙ ap (λ k. option_map_or (λ k. slice_index_or a.object.slots k []) k []) e)
      of_object (Some k) e d =
          ap (λ x. option_map_or (slot_in m.meta g) x []) here ∙ ap (λ k. option_map_or (λ k. slice_index_or (slice_set a.object.slots a.place cells) k []) k []) e
          ∙ get_or-set_other a.object.slots a.place k cells [] (λ s. d (place_apart m.meta a.object.class g f k e (a.found ∙ ap Some (sym s))))
          ∙ sym (ap (λ x. option_map_or (slot_in m.meta g) x []) a.there ∙ ap (λ k. option_map_or (λ k. slice_index_or a.object.slots k []) k []) e)
