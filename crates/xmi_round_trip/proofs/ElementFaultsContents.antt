-- A content's element is the only one in a single-valued containment, no attribute gives that feature a value, and its class fits.
use Rattle.std.proofs.Common.{◌≡◌, List, ◌++◌, refl, sym, ap, ◌∙◌, subst, Option, Some, None}
use Rattle.std.specs.Prelude.{Bool, true, false, ◌==◌, ◌&&◌, ◌||◌, not, option_map, slice_get, Contains, is_some, IsSome}
use Rattle.std.specs.List.{list_any}
use Rattle.std.specs.Option.{option_map_or}
use Rattle.std.proofs.lemmas.Bool.{and_parts, eqb-true, false_from_ne_true, or_from, true≢false}
use Rattle.atl_base.specs.declared.numbers.FeatId.{FeatId}
use Rattle.atl_base.specs.declared.numbers.ObjId.{ObjId}
use Rattle.doc_text.specs.declared.tree.Attribute.{Attribute}
use Rattle.ecore_meta.specs.Valid.{AllDiffer}
use Rattle.model_store.specs.declared.parts.Cellv.TheVariants.{Obj}
use Rattle.model_store.specs.declared.parts.Object.{Object}
use Rattle.model_store.specs.Contents.{Contents, contains, holder, is_many, object_at}
use Rattle.model_store.specs.Order.{preorder}
use Rattle.model_store.specs.Valid.{IsValid, Refers}
use Rattle.model_store.proofs.Slots.{same_feature, same_object}
use Rattle.model_store.proofs.PathSteps.{holder_there}
use Rattle.xmi_text.proofs.Lists.{get_of_map, in_map}
use Rattle.xmi_models.specs.Outline.{Entry, class_said, is_object, is_sub}
use Rattle.xmi_models.specs.Faults.{attribute_feature, gives, has_attribute, is_second}
use Rattle.xmi_round_trip.specs.Renumbered.{number}
use Rattle.xmi_round_trip.specs.RoundTrip.{IsInBounds}
use Rattle.xmi_round_trip.proofs.Filed.{IsOrdered, file, first_attributes, object_entry, object_part, own_attributes}
use Rattle.xmi_round_trip.proofs.ElementFaultsAttributes.{attribute_right}
use Rattle.xmi_round_trip.proofs.ElementFaultsEntries.{IsKnown, IsPlaced, an_object, a_value, the_around, before_in, known_in, entry_among}
use Rattle.xmi_round_trip.proofs.ElementFaultsSlots.{value_of_part}
use Rattle.xmi_round_trip.proofs.Lists.{none_passes, found_in, some_there}
use Rattle.xmi_round_trip.proofs.Differing.{apart_from_later}
use Rattle.xmi_round_trip.proofs.Parts.{slot_typed}
use Rattle.xmi_round_trip.proofs.Entries.{object_is, by_part}
use Rattle.xmi_round_trip.proofs.Holders.{held_by}
use Rattle.xmi_round_trip.proofs.Targets.{one_target, fits_class}
use Rattle.model_store.proofs.Added.{contains_refers}

module _ (m : Contents) (valid : IsValid m) (bounds : IsInBounds m) (known : IsOrdered m) where
  -- what stands in preorder is an object of the model
  pub object_of : (o : ObjId) → Contains (preorder m) o → (object : Object) × (object_at m.objects o ≡ Some object)
  object_of o h = some_there (object_at m.objects o) (known.there o h)

  -- what holds an object is there
  holder_is_there : (o p : ObjId) (f : FeatId) → holder m o ≡ Some (p, f) → IsSome (object_at m.objects p)
  holder_is_there o p f h = ap is_some (holder_there m valid.metamodel valid.model bounds.numbers o p f h)

  -- ## Before it

  module _ (before : List Entry) (e : Entry) (inside : (x : Entry) → Contains before x → Contains (file m) x) (placed : IsPlaced m before e) (p : ObjId) (f : FeatId) (held : holder m placed.it ≡ Some (p, f)) where
    -- no attribute of an object before it is of a containment
    no_attribute : has_attribute m.meta before (number m p) f ≡ false
    no_attribute =
        ap (λ l. given (slice_get l (number m p).0)) placed.made
        ∙ ap given (get_of_map (object_entry m) placed.before (number m p).0)
        ∙ on (slice_get placed.before (number m p).0) refl
      where
        test : Entry → Attribute → Bool
        test x a = option_map_or (λ g. g.0 == f.0) (attribute_feature m.meta x.part a) false

        given : Option Entry → Bool
        given y = option_map_or (λ x. list_any (test x) x.tag.attributes) y false

        plain : (q : ObjId) (object : Object) → object_at m.objects q ≡ Some object → (a : Attribute) → Contains (first_attributes m q ++ own_attributes m q) a → test (object_entry m q) a ≡ false
        plain q object there a h = by (attribute_feature m.meta (object_part m q) a) refl
          where
            by : (x : Option FeatId) → attribute_feature m.meta (object_part m q) a ≡ x → option_map_or (λ g. g.0 == f.0) x false ≡ false
            by None i = refl
            by (Some g) i = false_from_ne_true (g.0 == f.0) (λ s.
                true≢false (sym (held_by m valid.metamodel valid.model placed.it p f held).0 ∙ ap (contains m.meta) (sym (same_feature g f (eqb-true g.0 f.0 s))) ∙ (attribute_right m valid bounds q object there known a h).plain g i))

        on : (x : Option ObjId) → slice_get placed.before (number m p).0 ≡ x → given (option_map (object_entry m) x) ≡ false
        on None i = refl
        on (Some q) i =
            let x = object_of q (before_in m before e placed q (found_in placed.before (number m p).0 q i)) in
            none_passes (test (object_entry m q)) (first_attributes m q ++ own_attributes m q) (plain q x.0 x.1)

    -- two objects in a single-valued slot are one
    one_held : is_many m.meta f ≡ false → (q : ObjId) → Refers m p f q → q ≡ placed.it
    one_held single q r =
        let it = held_by m valid.metamodel valid.model placed.it p f held in
        one_target m valid.model p f (contains_refers m.meta f it.0) single q placed.it r it.1

    -- the object itself is not among those before it
    not_again : Contains placed.before placed.it → ⊥
    not_again h = apart_from_later placed.before placed.it placed.later (subst AllDiffer (sym placed.is) known.differ) h

    -- an object before it is of another place
    other_place : is_many m.meta f ≡ false → (q : ObjId) → Contains placed.before q → (r : ObjId) (g : FeatId) → holder m q ≡ Some (r, g) → ((number m r).0 == (number m p).0 && g.0 == f.0) ≡ false
    other_place single q h r g i = false_from_ne_true ((number m r).0 == (number m p).0 && g.0 == f.0) (λ s.
        let parts = and_parts ((number m r).0 == (number m p).0) (g.0 == f.0) s in
        let one : r ≡ p = known.apart r p (holder_is_there q r g i) (holder_is_there placed.it p f held) (same_object (number m r) (number m p) (eqb-true (number m r).0 (number m p).0 parts.0)) in
        let two : g ≡ f = same_feature g f (eqb-true g.0 f.0 parts.1) in
        let refers : Refers m p f q = subst (λ k. Refers m p k q) two (subst (λ k. Refers m k g q) one (held_by m valid.metamodel valid.model q r g i).1) in
        not_again (subst (Contains placed.before) (one_held single q refers) h))

    -- no element before it stands in its slot, where that takes one object
    gives_none : is_many m.meta f ≡ false → (x : Entry) → Contains before x → gives (number m p) f x ≡ false
    gives_none single x h = by (known_in m x (inside x h))
      where
        of_object : (q : ObjId) → Contains placed.before q → gives (number m p) f (object_entry m q) ≡ false
        of_object q k = by_part m (λ y. gives (number m p) f (record { part = y; tag = (object_entry m q).tag }) ≡ false) q (λ h. refl) (λ r g h. other_place single q k r g h)

        of_value : (q : ObjId) (g : FeatId) → contains m.meta g ≡ false → ((number m q).0 == (number m p).0 && g.0 == f.0) ≡ false
        of_value q g plain = false_from_ne_true ((number m q).0 == (number m p).0 && g.0 == f.0) (λ s.
            let parts = and_parts ((number m q).0 == (number m p).0) (g.0 == f.0) s in
            true≢false (sym (held_by m valid.metamodel valid.model placed.it p f held).0 ∙ ap (contains m.meta) (sym (same_feature g f (eqb-true g.0 f.0 parts.1))) ∙ plain))

        by : IsKnown m x → gives (number m p) f x ≡ false
        by (the_around i) = ap (gives (number m p) f) i
        by (a_value q g v i c) = ap (gives (number m p) f) i ∙ of_value q g (value_of_part m known q g v c).inside
        by (an_object q i) =
            let among = entry_among before x h (ap (λ (y : Entry). is_object y.part) i ∙ object_is m q) in
            let r = in_map (object_entry m) placed.before x (subst (λ l. Contains l x) placed.made among) in
            ap (gives (number m p) f) (sym r.2) ∙ of_object r.0 r.1

    -- so it is no second object there
    pub not_second : is_second m.meta before (number m p) f ≡ false
    not_second = on (is_many m.meta f) refl
      where
        on : (b : Bool) → is_many m.meta f ≡ b → (not b && (list_any (gives (number m p) f) before || has_attribute m.meta before (number m p) f)) ≡ false
        on true i = refl
        on false i = or_from (list_any (gives (number m p) f) before) (has_attribute m.meta before (number m p) f) (none_passes (gives (number m p) f) before (gives_none i)) no_attribute

  -- ## Its class

  -- it fits the feature that holds the object
  pub well_placed : (o p : ObjId) (f : FeatId) → holder m o ≡ Some (p, f) → (object : Object) → object_at m.objects o ≡ Some object → option_map_or (λ d. not (is_sub m.meta object.class d)) (class_said m.meta f) false ≡ false
  well_placed o p f h object there = fits_class m valid o object there f (slot_typed m valid.model p f (Obj o) (held_by m valid.metamodel valid.model o p f h).1)
