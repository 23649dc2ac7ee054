-- Nothing is wrong in the elements of a model's file.
use Rattle.std.proofs.Common.{◌≡◌, ℕ, ◌+◌, ◌≤◌, List, [], ◌∷◌, ◌++◌, length, refl, sym, ap, ◌∙◌, subst, arith, Option, Some, None}
use Rattle.std.specs.Prelude.{Bool, true, false, ◌&&◌, ◌||◌, not, nat_le, filter_map, slice_get, Contains, IfSome, if◌then◌else◌}
use Rattle.std.specs.List.{list_any}
use Rattle.std.specs.Option.{option_map_or}
use Rattle.std.proofs.lemmas.Bool.{false_from_ne_true, leb-true}
use Rattle.std.proofs.lemmas.List.{length-append, length-map}
use Rattle.std.proofs.lemmas.List.Elements.{Contains-append_left}
use Rattle.atl_base.specs.declared.numbers.FeatId.{FeatId}
use Rattle.atl_base.specs.declared.numbers.ObjId.{ObjId}
use Rattle.doc_text.specs.declared.tree.Attribute.{Attribute}
use Rattle.ecore_meta.specs.declared.parts.Class.{Class}
use Rattle.model_store.specs.declared.parts.Cellv.{Cellv}
use Rattle.model_store.specs.declared.parts.Object.{Object}
use Rattle.model_store.specs.Contents.{Contents, class_of, object_at}
use Rattle.model_store.specs.Order.{HasNoCycle, preorder}
use Rattle.model_store.specs.Texts.{value_text}
use Rattle.model_store.specs.Valid.{IsConcrete, IsValid}
use Rattle.xmi_models.specs.Outline.{Entry, Content, is_object, objects_in}
use Rattle.xmi_models.specs.declared.fault.Kind.TheVariants.{Abstract}
use Rattle.xmi_models.specs.Faults.{asked_class, attribute_value, class_fault, class_faults, class_value, element_fault, fault_at, feature_values, gives, has_attribute, has_stray_text, bad_value, is_loud, is_misplaced, is_no_child, is_no_feature, is_too_many, is_value_of, is_without_text, second_object, text_in, when}
use Rattle.xmi_write.specs.Xmi.{Value}
use Rattle.xmi_round_trip.specs.Renumbered.{number}
use Rattle.xmi_round_trip.specs.RoundTrip.{IsInBounds}
use Rattle.xmi_round_trip.proofs.Filed.{IsFiled, IsOrdered, around_entry, file, first_attributes, object_entry, object_part, own_attributes, own_parts, value_entry}
use Rattle.xmi_round_trip.proofs.ElementFaultsAttributes.{IsRight, attribute_right}
use Rattle.xmi_round_trip.proofs.ElementFaultsContents.{not_second, object_of, well_placed}
use Rattle.xmi_round_trip.proofs.ElementFaultsEntries.{IsKnown, IsPlaced, a_value, an_object, the_around, it_in, known_in, placed_in, stands_in}
use Rattle.xmi_round_trip.proofs.ElementFaultsSlots.{value_good, value_of_part}
use Rattle.xmi_round_trip.proofs.ElementFaultsSplits.{IsClean, clean, none_foreign, none_from}
use Rattle.xmi_round_trip.proofs.Lists.{none_kept}
use Rattle.xmi_round_trip.proofs.Entries.{object_is, objects_counted, lone_text, class_is, by_part}

module _ (m : Contents) (valid : IsValid m) (bounds : IsInBounds m) (known : IsOrdered m) where
  -- ## `xmi:XMI`

  -- nothing is wrong at it
  around_clean : (before : List Entry) → fault_at m.meta before (around_entry m) ≡ None
  around_clean before = refl

  -- ## A value

  -- nothing is wrong at the element of a value
  value_clean : (before : List Entry) (o : ObjId) (f : FeatId) (v : Cellv) → Contains (own_parts m o) (Value f v) → IsClean m.meta before (value_entry m o f v)
  value_clean before o f v h = record {
    class = refl;
    named = refl;
    text = refl;
    second = refl;
    attributes = refl;
    value =
        let x = value_of_part m known o f v h in
        ap (λ b. if (not b && (list_any (gives (number m o) f) before || has_attribute m.meta before (number m o) f)) || not (is_value_of m.meta f text) then text ∷ [] else []) x.many
        ∙ ap (λ b. if not b then text ∷ [] else []) (ap (is_value_of m.meta f) (lone_text (value_text m f v)) ∙ value_good m valid bounds o f v x.it x.plain);
    foreign = refl;
    fits = refl;
    few = refl;
  }
    where
      text : List ℕ
      text = text_in (value_entry m o f v).tag

  -- ## An object

  module _ (before : List Entry) (e : Entry) (inside : (x : Entry) → Contains before x → Contains (file m) x) (p : IsPlaced m before e) where
    -- the object that the element is
    abbrev it : ObjId
    it = p.it

    -- its class and slots
    abbrev object : Object
    object = (object_of m valid bounds known it (it_in m before e p)).0

    -- it has them in the model
    abbrev there : object_at m.objects it ≡ Some object
    there = (object_of m valid bounds known it (it_in m before e p)).1

    -- nothing is wrong at its attributes
    right : (a : Attribute) → Contains (first_attributes m it ++ own_attributes m it) a → IsRight m.meta (object_part m it) a
    right a h = attribute_right m valid bounds it object there known a h

    -- its class is one, and not abstract
    class_good : class_faults m.meta (object_entry m it) ≡ None
    class_good =
        ap (λ x. option_map_or (class_fault m.meta (object_entry m it)) x None) (by_part m (λ q. asked_class q ≡ Some (class_of m it)) it (λ h. refl) (λ o f h. refl) ∙ ap Some (class_is m it object there))
        ∙ ap (λ b. when b Abstract (class_value (object_entry m it))) (concrete (slice_get m.meta.classes object.class.0) (subst (λ c. IfSome c (IsConcrete m.meta)) (class_is m it object there) (valid.model.concrete it)))
      where
        concrete : (x : Option Class) → IfSome x (λ class. class.is_abstract ≡ false) → option_map_or (λ class. class.is_abstract) x false ≡ false
        concrete None h = refl
        concrete (Some class) h = h

    -- nothing in its tag is told to be no feature
    names_good : feature_values m.meta (object_entry m it) ≡ []
    names_good =
        ap (λ b. (if b then (object_entry m it).tag.name ∷ [] else []) ++ filter_map (λ a. if is_no_feature m.meta (object_part m it) a then Some a.name else None) (first_attributes m it ++ own_attributes m it)) (by_part m (λ q. is_no_child m.meta (record { part = q; tag = (object_entry m it).tag }) ≡ false) it (λ h. refl) (λ o f h. refl))
        ∙ none_kept (λ a. if is_no_feature m.meta (object_part m it) a then Some a.name else None) (first_attributes m it ++ own_attributes m it)
        (λ a h. ap (λ b. if b then Some a.name else None) (right a h).known)

    -- it has no stray text
    text_good : has_stray_text (object_entry m it) ≡ false
    text_good = on (is_without_text (object_part m it) || (object_entry m it).tag.has_elements)
      where
        on : (b : Bool) → (b && list_any is_loud []) ≡ false
        on true = refl
        on false = refl

    -- it is no second object in a single-valued reference
    second_good : second_object m.meta before (object_part m it) ≡ []
    second_good = by_part m (λ q. second_object m.meta before q ≡ []) it (λ h. refl) (λ o f h. ap (λ b. if b then [] ∷ [] else []) (not_second m valid bounds known before e inside p o f h))

    -- it is no bad value of an attribute
    value_none : bad_value m.meta before (object_entry m it) ≡ []
    value_none = by_part m (λ q. bad_value m.meta before (record { part = q; tag = (object_entry m it).tag }) ≡ []) it (λ h. refl) (λ o f h. refl)

    -- its class fits where it stands
    place_good : is_misplaced m.meta (object_part m it) ≡ false
    place_good = by_part m (λ q. is_misplaced m.meta q ≡ false) it (λ h. refl) (λ o f h.
        ap (λ c. is_misplaced m.meta (Content (number m o) f c)) (class_is m it object there)
        ∙ well_placed m valid bounds known it o f h object there)

    -- it is not one object too many
    few_good : is_too_many m.meta before (object_part m it) ≡ false
    few_good =
        ap (λ b. b && nat_le 1000000 (objects_in before)) (object_is m it)
        ∙ false_from_ne_true (nat_le 1000000 (objects_in before)) (λ h.
        let many : 1000000 ≤ objects_in before = leb-true 1000000 (objects_in before) h in
        let count : objects_in before ≡ length p.before = objects_counted before ∙ ap length p.made ∙ length-map p.before (object_entry m) in
        let whole : length (preorder m) ≡ length p.before + length (it ∷ p.later) = ap length (sym p.is) ∙ length-append p.before (it ∷ p.later) in
        absurd (omega (arith, many, count, whole, known.few, bounds.few)))

    -- so nothing is wrong at it
    object_clean : IsClean m.meta before (object_entry m it)
    object_clean = record {
      class = class_good;
      named = names_good;
      text = text_good;
      second = second_good;
      attributes = none_kept (attribute_value m.meta (object_part m it)) (first_attributes m it ++ own_attributes m it) (λ a h. (right a h).value);
      value = value_none;
      foreign = none_foreign m.meta (object_part m it) (first_attributes m it ++ own_attributes m it) (λ a h. (right a h).local);
      fits = place_good;
      few = few_good;
    }

  -- ## The file

  module _ (filed : IsFiled m) where
    -- nothing is wrong at an element of the file, behind those before it
    clean_at : (before : List Entry) (e : Entry) (after : List Entry) → before ++ (e ∷ after) ≡ file m → fault_at m.meta before e ≡ None
    clean_at before e after h = by (known_in m e (stands_in (file m) before after e h))
      where
        earlier : (x : Entry) → Contains before x → Contains (file m) x
        earlier x k = subst (λ l. Contains l x) h (Contains-append_left before (e ∷ after) x k)

        by : IsKnown m e → fault_at m.meta before e ≡ None
        by (the_around i) = ap (fault_at m.meta before) i ∙ around_clean before
        by (a_value o f v i c) = ap (fault_at m.meta before) i ∙ clean m.meta before (value_entry m o f v) (value_clean before o f v c)
        by (an_object o i) =
            let p = placed_in m filed before e after h (ap (λ (y : Entry). is_object y.part) i ∙ object_is m o) in
            ap (fault_at m.meta before) p.last ∙ clean m.meta before (object_entry m p.it) (object_clean before e earlier p)

-- nothing is wrong in the elements of a written file
pub no_element_fault : (m : Contents) → IsValid m → HasNoCycle m → IsInBounds m → IsOrdered m → IsFiled m → element_fault m.meta (file m) ≡ None
no_element_fault m valid acyclic bounds known filed = none_from m.meta (file m) [] (file m) refl (clean_at m valid bounds known filed)
