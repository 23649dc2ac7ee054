-- An object's element has at most one attribute that gives a feature: that of the feature's slot.
use Rattle.std.proofs.Common.{◌≡◌, List, [], ◌∷◌, ◌++◌, length, map, refl, ap, ◌∙◌, subst, ⊎_elim, cond, Option, Some, None}
use Rattle.std.specs.Prelude.{◌==◌, Bool, true, false, find, flat_map, Contains, if◌then◌else◌}
use Rattle.std.specs.Option.{option_map_or}
use Rattle.std.proofs.lemmas.Bool.{cases_eq, eq-eqb, ne_eqb}
use Rattle.atl_base.specs.declared.numbers.ClassId.{ClassId}
use Rattle.atl_base.specs.declared.numbers.FeatId.{FeatId}
use Rattle.atl_base.specs.declared.numbers.ObjId.{ObjId}
use Rattle.doc_text.specs.declared.tree.Attribute.{Attribute}
use Rattle.ecore_meta.specs.Inheritance.{features}
use Rattle.model_store.specs.declared.parts.Object.{Object}
use Rattle.model_store.specs.Contents.{Contents, holder, object_at, slot}
use Rattle.model_store.specs.Texts.{value_text}
use Rattle.model_store.specs.Valid.{IsValid}
use Rattle.model_store.proofs.Slots.{same_feature}
use Rattle.model_store.proofs.Thinned.{Contains_first, Contains_later, Contains_none, Contains_cases}
use Rattle.xmi_write.specs.declared.named.Named.{Named}
use Rattle.xmi_write.specs.declared.named.Named.TheVariants.{Around, Root, Inside}
use Rattle.xmi_write.specs.Values.{is_attribute, joined}
use Rattle.xmi_write.specs.Xmi.{attributes_of, by_slot, said_class, slot_attribute, slot_attributes, type_attribute, type_attributes, version}
use Rattle.xmi_models.specs.Outline.{Entry}
use Rattle.xmi_models.specs.Faults.{attribute_feature}
use Rattle.xmi_links.specs.References.{attribute_of, attribute_values, value_of}
use Rattle.xmi_round_trip.proofs.Filed.{IsOrdered, first_attributes, named, object_entry, object_part, own_attributes}
use Rattle.xmi_round_trip.proofs.Parts.{by_slots}
use Rattle.xmi_round_trip.proofs.Entries.{own_class_is, slot_feature}

module _ (m : Contents) (valid : IsValid m) (known : IsOrdered m) (o : ObjId) (object : Object) (is : object_at m.objects o ≡ Some object) (all : List Entry) (f : FeatId) where
  -- the features of its class
  abbrev seen : List FeatId
  seen = features m.meta.classes object.class

  -- whether an attribute gives the feature
  abbrev test : Attribute → Bool
  test a = option_map_or (λ g. g.0 == f.0) (attribute_feature m.meta (object_part m o) a) false

  -- the attribute of a slot gives the feature of that slot
  test_slot : (g : FeatId) → Contains seen g → test (slot_attribute m g (slot m o g)) ≡ (g.0 == f.0)
  test_slot g h = ap (λ x. option_map_or (λ (k : FeatId). k.0 == f.0) x false) (slot_feature m valid o object is (object_part m o) (own_class_is m o object is) g h)

  -- ## What is none

  -- XMI's version is no feature
  past_first : (rest : List Attribute) → find test (first_attributes m o ++ rest) ≡ find test rest
  past_first rest = on (holder m o) (length m.roots == 1)
    where
      on : (x : Option (ObjId × FeatId)) (b : Bool) → find test (option_map_or (λ at. []) x (if b then version ∷ [] else []) ++ rest) ≡ find test rest
      on (Some at) b = refl
      on None true = refl
      on None false = refl

  -- the type is none
  past_types : (n : Named) (rest : List Attribute) → find test (type_attributes m.meta n object.class ++ rest) ≡ find test rest
  past_types (Inside g) rest = on (option_map_or (λ (said : ClassId). said.0 == object.class.0) (said_class m.meta g) false)
    where
      on : (b : Bool) → find test ((if b then [] else type_attribute m.meta object.class ∷ []) ++ rest) ≡ find test rest
      on true = refl
      on false = refl
  past_types (Root c) rest = refl
  past_types Around rest = refl

  -- ## Slot by slot

  -- the attribute of a slot, where there is one
  abbrev of_slot : FeatId → List Attribute
  of_slot g = slot_attributes m g (slot m o g)

  -- the attributes of other features are passed
  find_passed : (g : FeatId) (rest : List Attribute) → Contains seen g → (g.0 ≡ f.0 → ⊥) → find test (of_slot g ++ rest) ≡ find test rest
  find_passed g rest h n = on (is_attribute m.meta g (slot m o g))
    where
      on : (b : Bool) → find test ((if b then slot_attribute m g (slot m o g) ∷ [] else []) ++ rest) ≡ find test rest
      on true = ap (λ b. cond b (Some (slot_attribute m g (slot m o g))) (find test rest)) (test_slot g h ∙ ne_eqb g.0 f.0 n)
      on false = refl

  -- where the slot has none, so are all
  none_more : is_attribute m.meta f (slot m o f) ≡ false → (g : FeatId) (rest : List Attribute) → Contains seen g → find test (of_slot g ++ rest) ≡ find test rest
  none_more none g rest h = ⊎_elim
      (λ (e : g.0 ≡ f.0). ap (λ b. find test ((if b then slot_attribute m g (slot m o g) ∷ [] else []) ++ rest)) (ap (λ z. is_attribute m.meta z (slot m o z)) (same_feature g f e) ∙ none))
      (λ (n : g.0 ≡ f.0 → ⊥). find_passed g rest h n)
      (cases_eq g.0 f.0)

  -- then none is found
  find_none : is_attribute m.meta f (slot m o f) ≡ false → (gs : List FeatId) → ((g : FeatId) → Contains gs g → Contains seen g) → find test (flat_map of_slot gs) ≡ None
  find_none none [] s = refl
  find_none none (g ∷ gs) s = none_more none g (flat_map of_slot gs) (s g (Contains_first g gs)) ∙ find_none none gs (λ x h. s x (Contains_later g x gs h))

  -- where it has one, that is found
  find_here : is_attribute m.meta f (slot m o f) ≡ true → Contains seen f → (rest : List Attribute) → find test (of_slot f ++ rest) ≡ Some (slot_attribute m f (slot m o f))
  find_here given h rest =
      ap (λ b. find test ((if b then slot_attribute m f (slot m o f) ∷ [] else []) ++ rest)) given
      ∙ ap (λ b. cond b (Some (slot_attribute m f (slot m o f))) (find test rest)) (test_slot f h ∙ eq-eqb f.0 f.0 refl)

  -- behind those of features before it
  find_it : is_attribute m.meta f (slot m o f) ≡ true → (gs : List FeatId) → ((g : FeatId) → Contains gs g → Contains seen g) → Contains gs f → find test (flat_map of_slot gs) ≡ Some (slot_attribute m f (slot m o f))
  find_it given [] s h = absurd (Contains_none f h)
  find_it given (g ∷ gs) s h = ⊎_elim
      (λ (e : g.0 ≡ f.0). let same : g ≡ f = same_feature g f e in
      ap (λ z. find test (of_slot z ++ flat_map of_slot gs)) same ∙ find_here given (subst (λ (z : FeatId). Contains seen z) same (s g (Contains_first g gs))) (flat_map of_slot gs))
      (λ (n : g.0 ≡ f.0 → ⊥). find_passed g (flat_map of_slot gs) (s g (Contains_first g gs)) n ∙ find_it given gs (λ x k. s x (Contains_later g x gs k)) (later n))
      (cases_eq g.0 f.0)
    where
      later : (g.0 ≡ f.0 → ⊥) → Contains gs f
      later n = ⊎_elim (λ (e : g ≡ f). absurd (n (ap (λ (z : FeatId). z.0) e))) (λ (k : Contains gs f). k) (Contains_cases g f gs h)

  -- ## The whole element

  -- among the attributes of an element, those of slots alone count
  attribute_is : attribute_of m.meta all (object_entry m o) f ≡ find test (flat_map of_slot seen)
  attribute_is =
      past_first (own_attributes m o)
      ∙ ap (λ x. find test (option_map_or (attributes_of m (named m o)) x [])) is
      ∙ past_types (named m o) (by_slot (slot_attributes m) seen object.slots)
      ∙ ap (find test) (by_slots m known o object is (slot_attributes m))

  -- a slot that is not written in an attribute has none
  pub no_attribute : is_attribute m.meta f (slot m o f) ≡ false → attribute_values m.meta all (object_entry m o) f ≡ []
  no_attribute none = ap (λ x. option_map_or (λ a. value_of m.meta all f a.value) x []) (attribute_is ∙ find_none none seen (λ g h. h))

  -- one that is has the texts of its values
  pub its_attribute : is_attribute m.meta f (slot m o f) ≡ true → Contains seen f → attribute_values m.meta all (object_entry m o) f ≡ value_of m.meta all f (joined (map (value_text m f) (slot m o f)))
  its_attribute given h = ap (λ x. option_map_or (λ (a : Attribute). value_of m.meta all f a.value) x []) (attribute_is ∙ find_it given seen (λ g k. k) h)
