-- What an object's entry says: whether the object is a root or a content, and its class. How many objects there are among entries.
use Rattle.std.proofs.Common.{◌≡◌, ℕ, suc, List, [], ◌∷◌, length, refl, ap, ◌∙◌, append-nil, Option, Some, None}
use Rattle.std.specs.Prelude.{Bool, true, false, flat_map, option_map, if◌then◌else◌, Contains}
use Rattle.std.specs.Option.{option_map_or}
use Rattle.atl_base.specs.declared.numbers.FeatId.{FeatId}
use Rattle.atl_base.specs.declared.numbers.ObjId.{ObjId}
use Rattle.model_store.specs.declared.parts.Object.{Object}
use Rattle.model_store.specs.Contents.{Contents, class_of, holder, object_at, slot}
use Rattle.xmi_models.specs.Outline.{Entry, Part as EntryPart, Root as RootEntry, Content as ContentEntry, is_object, objects_in}
use Rattle.xmi_models.specs.Faults.{objects, own_class, attribute_feature}
use Rattle.xmi_round_trip.specs.Renumbered.{number}
use Rattle.xmi_round_trip.proofs.Filed.{lone, object_part}
use Rattle.ecore_meta.specs.Inheritance.{features, name_of}
use Rattle.model_store.specs.Valid.{IsValid}
use Rattle.xmi_text.specs.Options.{then_}
use Rattle.xmi_names.specs.Names.{feature_named}
use Rattle.xmi_write.specs.Xmi.{slot_attribute}
use Rattle.xmi_round_trip.proofs.Parts.{feature_found}

-- ## An object's

module _ (m : Contents) where
  -- an object without a container is a root
  pub part_of_root : (o : ObjId) → holder m o ≡ None → object_part m o ≡ RootEntry (class_of m o)
  part_of_root o h = ap (λ x. option_map_or (λ at. ContentEntry (number m at.0) at.1 (class_of m o)) x (RootEntry (class_of m o))) h

  -- another is a content
  pub part_of_content : (o p : ObjId) (f : FeatId) → holder m o ≡ Some (p, f) → object_part m o ≡ ContentEntry (number m p) f (class_of m o)
  part_of_content o p f h = ap (λ x. option_map_or (λ at. ContentEntry (number m at.0) at.1 (class_of m o)) x (RootEntry (class_of m o))) h

  -- so what is said of an object's part holds where it holds of both
  pub by_part : (P : EntryPart → Type 0) (o : ObjId) → (holder m o ≡ None → P (RootEntry (class_of m o))) → ((p : ObjId) (f : FeatId) → holder m o ≡ Some (p, f) → P (ContentEntry (number m p) f (class_of m o))) → P (object_part m o)
  by_part P o r c = on (holder m o) refl
    where
      on : (x : Option (ObjId × FeatId)) → holder m o ≡ x → P (option_map_or (λ at. ContentEntry (number m at.0) at.1 (class_of m o)) x (RootEntry (class_of m o)))
      on None h = r h
      on (Some at) h = c at.0 at.1 h

  -- it is an object's
  pub object_is : (o : ObjId) → is_object (object_part m o) ≡ true
  object_is o = by_part (λ p. is_object p ≡ true) o (λ h. refl) (λ p f h. refl)

  -- and says the object's class
  pub own_is : (o : ObjId) → own_class (object_part m o) ≡ class_of m o
  own_is o = by_part (λ p. own_class p ≡ class_of m o) o (λ h. refl) (λ p f h. refl)

  -- which is that of what is there
  pub class_is : (o : ObjId) (object : Object) → object_at m.objects o ≡ Some object → class_of m o ≡ Some object.class
  class_is o object there = ap (option_map (λ (x : Object). x.class)) there

  -- so its entry says the class of what is there
  pub own_class_is : (o : ObjId) (object : Object) → object_at m.objects o ≡ Some object → own_class (object_part m o) ≡ Some object.class
  own_class_is o object there = own_is o ∙ class_is o object there

-- the attribute of a slot is of the slot's feature, in an element that says the object's class
pub slot_feature : (m : Contents) → IsValid m → (o : ObjId) (object : Object) → object_at m.objects o ≡ Some object → (part : EntryPart) → own_class part ≡ Some object.class → (f : FeatId)
    → Contains (features m.meta.classes object.class) f → attribute_feature m.meta part (slot_attribute m f (slot m o f)) ≡ Some f
slot_feature m valid o object there part own f sees = ap (λ x. then_ x (λ c. feature_named m.meta c (name_of m.meta.features f))) own ∙ feature_found m valid o object there f sees

-- ## A value's

-- the text of a lone text
pub lone_text : (text : List ℕ) → flat_map (λ (x : List ℕ). x) (lone text) ≡ text
lone_text [] = refl
lone_text (c ∷ cs) = append-nil (c ∷ cs)

-- ## Of a file

-- counted one by one
pub objects_counted : (es : List Entry) → objects_in es ≡ length (objects es)
objects_counted [] = refl
objects_counted (e ∷ es) = by (is_object e.part) (objects_counted es)
  where
    by : (b : Bool) → objects_in es ≡ length (objects es) → (if b then suc (objects_in es) else objects_in es) ≡ length (if b then e ∷ objects es else objects es)
    by true h = ap suc h
    by false h = h
