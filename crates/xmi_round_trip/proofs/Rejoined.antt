-- The model that a written file stands for is the model that was written, its objects numbered in preorder.
use Rattle.std.proofs.Common.{◌≡◌, List, [], map, refl, sym, ap, ◌∙◌, Some}
use Rattle.std.specs.Prelude.{◌&&◌, not, Bool, true, false, option_map, Contains, if◌then◌else◌}
use Rattle.atl_base.specs.declared.numbers.FeatId.{FeatId}
use Rattle.atl_base.specs.declared.numbers.ObjId.{ObjId}
use Rattle.ecore_meta.specs.Inheritance.{features}
use Rattle.model_store.specs.declared.parts.Cellv.{Cellv}
use Rattle.model_store.specs.declared.parts.Cellv.TheVariants.{Obj}
use Rattle.model_store.specs.declared.parts.Object.{Object}
use Rattle.model_store.specs.Contents.{Contents, contains, is_contained_by, object_at, refers, slot}
use Rattle.model_store.specs.Order.{preorder}
use Rattle.model_store.specs.Valid.{IsValid}
use Rattle.xmi_text.proofs.Lists.{map-map}
use Rattle.xmi_models.specs.Faults.{objects}
use Rattle.xmi_links.specs.References.{Link, drafted_slot, object_by, objects_by}
use Rattle.xmi_links.specs.ModelOf.{container_by, joined, joined_slot, referred}
use Rattle.xmi_write.proofs.ObjectElements.{map_agree}
use Rattle.xmi_round_trip.specs.Renumbered.{number, renumbered, renumbered_object, renumbered_value}
use Rattle.xmi_round_trip.proofs.Drafts.{IsDrafted}
use Rattle.xmi_round_trip.proofs.Filed.{IsOrdered, file, object_entry}
use Rattle.xmi_round_trip.proofs.Targets.{plain_slot, renumbered_slot}
use Rattle.xmi_round_trip.proofs.RejoinedContainers.{container_is, container_refers}
use Rattle.xmi_round_trip.proofs.RejoinedLinks.{all_links, referred_is}
use Rattle.xmi_round_trip.proofs.Lists.{some_there}
use Rattle.xmi_round_trip.proofs.Entries.{own_class_is}

module _ (m : Contents) (valid : IsValid m) (known : IsOrdered m) (drafts : IsDrafted m) where
  -- the links of the model's slots
  abbrev links : List Link
  links = all_links m valid known

  -- a value, with the new numbers
  abbrev new : Cellv → Cellv
  new = renumbered_value (number m)

  module _ (o : ObjId) (object : Object) (there : object_at m.objects o ≡ Some object) where
    -- what stands in the slots of the object that is read
    abbrev Slots : FeatId → List Cellv
    Slots = joined_slot m.meta (file m) links (number m o) (object_entry m o)

    -- ## Slots

    -- what stood there before references were followed
    abbrev drafted : FeatId → List Cellv
    drafted f = drafted_slot m.meta (file m) (number m o) (object_entry m o) f

    -- what stands there of a container reference, of another one that contains nothing, or else as drafted
    abbrev by_sort : Bool → Bool → Bool → FeatId → List Cellv
    by_sort a b c f =
        if a then map Obj (container_by m.meta f (object_entry m o).part)
        else if b && not c then map Obj (referred m.meta links (number m o) f)
        else drafted f

    -- what was drafted: contents with the new numbers, no other references, and the values of attributes
    abbrev as_drafted : Bool → Bool → FeatId → List Cellv
    as_drafted c b f = if c then map new (slot m o f) else if b then [] else slot m o f

    -- a slot that is read holds what it held, with the new numbers
    slot_is : (f : FeatId) → Contains (features m.meta.classes object.class) f → Slots f ≡ map new (slot m o f)
    slot_is f sees = on (is_contained_by m.meta f) refl (refers m.meta f) refl (contains m.meta f) refl
      where
        draft : drafted f ≡ as_drafted (contains m.meta f) (refers m.meta f) f
        draft = drafts.slots o object f there sees

        on : (a : Bool) → is_contained_by m.meta f ≡ a → (b : Bool) → refers m.meta f ≡ b → (c : Bool) → contains m.meta f ≡ c → by_sort a b c f ≡ map new (slot m o f)
        on true i b j c k = ap (map Obj) (container_is m valid o f i) ∙ sym (renumbered_slot m valid.model o f (container_refers m valid o f i) (number m))
        on false i true j false k = ap (map Obj) (referred_is m valid known o object there f sees (record { refers_it = j; contains_not = k; contained_not = i })) ∙ sym (renumbered_slot m valid.model o f j (number m))
        on false i true j true k = draft ∙ ap (λ c. as_drafted c (refers m.meta f) f) k
        on false i false j true k = draft ∙ ap (λ c. as_drafted c (refers m.meta f) f) k
        on false i false j false k = draft ∙ ap (λ c. as_drafted c (refers m.meta f) f) k ∙ ap (λ b. as_drafted false b f) j ∙ sym (plain_slot m valid.model (number m) o f j)

    -- ## Objects

    -- an object of its class with these slots
    abbrev made : List (List Cellv) → Object
    made slots = record { class = object.class; slots = slots }

    -- all its slots, in the order of their features
    slots_are : map Slots (features m.meta.classes object.class) ≡ map (map new) object.slots
    slots_are =
        map_agree Slots (λ f. map new (slot m o f)) (features m.meta.classes object.class) slot_is
        ∙ sym (map-map (map new) (slot m o) (features m.meta.classes object.class))
        ∙ ap (map (map new)) (sym (known.slots o object there))

    -- so the object is what it was, with the new numbers
    object_is : object_by m.meta Slots (object_entry m o) ≡ option_map (renumbered_object (number m)) (object_at m.objects o)
    object_is =
        ap (option_map (λ c. let x : Object = record { class = c; slots = map Slots (features m.meta.classes c) } in x)) (own_class_is m o object there)
        ∙ ap (λ slots. Some (made slots)) slots_are
        ∙ ap (option_map (renumbered_object (number m))) (sym there)

  -- and so are all objects, in preorder
  objects_are : objects_by m.meta (joined_slot m.meta (file m) links) 0 (objects (file m)) ≡ map (λ o. option_map (renumbered_object (number m)) (object_at m.objects o)) (preorder m)
  objects_are =
      drafts.objects (joined_slot m.meta (file m) links)
      ∙ map_agree (λ o. object_by m.meta (joined_slot m.meta (file m) links (number m o) (object_entry m o)) (object_entry m o)) (λ o. option_map (renumbered_object (number m)) (object_at m.objects o)) (preorder m)
      (λ o i. let x = some_there (object_at m.objects o) (known.there o i) in object_is o x.0 x.1)

  -- so the model that is read is the one that was written, numbered in preorder
  pub joined_is : joined m.meta (file m) links ≡ renumbered m
  joined_is = λ i. record { meta = m.meta; objects = objects_are i; roots = drafts.roots i }
