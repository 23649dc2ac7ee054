-- All that stands in an object is walked to its entries: by induction on how much stands in it.
use Rattle.std.proofs.Common.{◌≡◌, ℕ, zero, suc, ◌<◌, ◌≤◌, [], ◌∷◌, length, refl, sym, ap, subst, ◌∙◌, arith, Option, Some}
use Rattle.std.specs.Prelude.{◌==◌, ◌^◌, true, false, flat_map, is_some, option_map, Contains, if◌then◌else◌}
use Rattle.std.specs.Option.{option_map_or}
use Rattle.atl_base.specs.declared.numbers.ClassId.{ClassId}
use Rattle.atl_base.specs.declared.numbers.FeatId.{FeatId}
use Rattle.atl_base.specs.declared.numbers.ObjId.{ObjId}
use Rattle.doc_text.specs.declared.tree.Element.{Element}
use Rattle.ecore_meta.specs.Inheritance.{features}
use Rattle.model_store.specs.declared.parts.Object.{Object}
use Rattle.model_store.specs.Contents.{Contents, contains, holder, object_at, refers}
use Rattle.model_store.specs.Order.{contents, HasNoCycle, tree}
use Rattle.model_store.specs.Valid.{IsValid}
use Rattle.xmi_models.specs.Entries.{tag_of}
use Rattle.xmi_models.specs.Outline.{Content as ContentEntry, Unknown, Cross, Value as ValueEntry, Tag, Where, InObject, child_class, class_of_text, class_said, is_passed, part_of, type_text, walk}
use Rattle.xmi_write.specs.declared.named.Named.TheVariants.{Inside}
use Rattle.xmi_write.specs.Xmi.{Part, Content, Value, declared, element, object_element, parts_of, root_name, version}
use Rattle.xmi_round_trip.specs.Renumbered.{number}
use Rattle.xmi_round_trip.specs.RoundTrip.{IsInBounds}
use Rattle.xmi_round_trip.proofs.Filed.{IsFiled, IsOrdered, entries, object_part, object_tag, own_parts}
use Rattle.xmi_round_trip.proofs.OutlinedNames.{not_skipped}
use Rattle.xmi_round_trip.proofs.OutlinedTypes.{child_said}
use Rattle.xmi_round_trip.proofs.Numbers.{IsFrom, next_from}
use Rattle.xmi_round_trip.proofs.OutlinedTags.{element_is, tag_is, value_walk}
use Rattle.xmi_round_trip.proofs.OutlinedWalks.{IsPartWalked, IsWalked, object_walk, parts_walk}
use Rattle.xmi_round_trip.proofs.Lists.{some_there}
use Rattle.xmi_round_trip.proofs.Parts.{feature_found, class_within, part_objects, contents_are, content_in, part_is}
use Rattle.xmi_round_trip.proofs.Entries.{part_of_content}

module _ (m : Contents) (valid : IsValid m) (acyclic : HasNoCycle m) (bounds : IsInBounds m) (ordered : IsOrdered m) (filed : IsFiled m) where
  -- an object's class has a number of 32 bits
  pub class_few : (o : ObjId) (object : Object) → object_at m.objects o ≡ Some object → object.class.0 < 2 ^ 32
  class_few o object there = bounds.classes o object.class (ap (option_map (λ object. object.class)) there)

  -- ## A content in its container

  module _ (o q : ObjId) (f : FeatId) (object held : Object) (there : object_at m.objects o ≡ Some object) (held_there : object_at m.objects q ≡ Some held)
      (seen : Contains (features m.meta.classes object.class) f) (holds : contains m.meta f ≡ true) (holder_is : holder m q ≡ Some (o, f)) where
    -- the content's element
    abbrev e : Element
    e = object_element (element m) m (Inside f) held

    -- it is that of the content's entry
    content_tag : tag_of e ≡ object_tag m q
    content_tag = tag_is m q held (Inside f) [] held_there
        (sym (ap (λ x. option_map_or (λ at. Inside at.1) x (root_name m q)) holder_is))
        (sym (first_none (holder m q) holder_is))
      where
        first_none : (x : Option (ObjId × FeatId)) → x ≡ Some (o, f) → option_map_or (λ at. []) x (if length m.roots == 1 then version ∷ [] else []) ≡ []
        first_none x h = ap (λ x. option_map_or (λ at. []) x (if length m.roots == 1 then version ∷ [] else [])) h

    -- it stands for the content, by its feature's name and its type
    content_part : part_of m.meta (InObject object.class (number m o)) (declared m.meta) (tag_of e) ≡ object_part m q
    content_part =
        let t : Tag = tag_of e in
        let scope = declared m.meta in
        let said : Option ClassId = child_class m.meta scope t (class_said m.meta f) in
        ap (λ x. option_map_or (λ f. if contains m.meta f then ContentEntry (number m o) f (child_class m.meta scope t (class_said m.meta f)) else if refers m.meta f then Cross f (child_class m.meta scope t (class_said m.meta f)) else ValueEntry (number m o) f) x (Unknown (option_map (class_of_text m.meta scope) (type_text t))))
        (feature_found m valid o object there f seen)
        ∙ ap (λ b. if b then ContentEntry (number m o) f said else if refers m.meta f then Cross f said else ValueEntry (number m o) f) holds
        ∙ ap (ContentEntry (number m o) f) (child_said m valid.metamodel f held.class (class_within m valid q held held_there) (class_few q held held_there) (features m.meta.classes held.class) held.slots)
        ∙ sym (part_of_content m q o f holder_is
        ∙ ap (λ y. ContentEntry (number m o) f (option_map (λ object. object.class) y)) held_there)

    -- so it is walked to the content's entries, if what stands in it is
    content_walk : IsWalked m ordered filed q held
        → (is_passed m.meta (InObject object.class (number m o)) (element m (Inside f) q).name ≡ false)
        × ((walk m.meta (element m (Inside f) q)).1 (InObject object.class (number m o)) (declared m.meta) (number m q).0 ≡ entries m q)
    content_walk walked =
        let is : element m (Inside f) q ≡ e = element_is m acyclic (Inside f) q held held_there in
        let w : Where = InObject object.class (number m o) in (
          ap (λ (e : Element). is_passed m.meta w e.name) is ∙ not_skipped m.meta valid.metamodel object.class f (class_within m valid o object there) seen,
          ap (λ e. (walk m.meta e).1 w (declared m.meta) (number m q).0) is
              ∙ object_walk m ordered filed q held e w (declared m.meta) (number m q).0 held_there refl refl content_tag content_part refl walked,
        )

  -- ## Down from an object

  -- each part is walked, if all that stands in contents is
  part_walked : (o : ObjId) (object : Object) → object_at m.objects o ≡ Some object
      → ((q : ObjId) (held : Object) → Contains (contents m o) q → object_at m.objects q ≡ Some held → IsWalked m ordered filed q held)
      → (p : Part) → Contains (parts_of m.meta object) p → IsPartWalked m ordered filed o object p
  part_walked o object there again (Value f v) h =
      let is = part_is m o object (ordered.slots o object there) (Value f v) h in
      let found = feature_found m valid o object there f is.0 in
      (not_skipped m.meta valid.metamodel object.class f (class_within m valid o object there) is.0, λ n. value_walk m o object.class (declared m.meta) f v found is.1 is.2 n)
  part_walked o object there again (Content f q) h =
      let is = part_is m o object (ordered.slots o object there) (Content f q) h in
      let part : Contains (own_parts m o) (Content f q) = subst (λ x. Contains (option_map_or (parts_of m.meta) x []) (Content f q)) (sym there) h in
      let inside : Contains (contents m o) q = content_in m o q f part in
      let held = some_there (object_at m.objects q) (ordered.contents_there o q inside) in
      content_walk o q f object held.0 there held.1 is.0 is.1 (ordered.held o q f part) (again q held.0 inside held.1)

  -- what stands in an object has the numbers that follow its own
  numbers_within : (o : ObjId) (object : Object) → object_at m.objects o ≡ Some object → IsFrom m (suc (number m o).0) (flat_map (tree m) (flat_map part_objects (parts_of m.meta object)))
  numbers_within o object there =
      let all : IsFrom m (number m o).0 (o ∷ flat_map (tree m) (contents m o)) = subst (IsFrom m (number m o).0) (ordered.tree_is o) (ordered.numbers o (ap is_some there)) in
      let rest : IsFrom m (suc (number m o).0) (flat_map (tree m) (contents m o)) = next_from m (number m o).0 o (flat_map (tree m) (contents m o)) all in
      let parts : IsFrom m (suc (number m o).0) (flat_map (tree m) (flat_map part_objects (own_parts m o))) = subst (λ os. IsFrom m (suc (number m o).0) (flat_map (tree m) os)) (contents_are m o) rest in
      subst (λ x. IsFrom m (suc (number m o).0) (flat_map (tree m) (flat_map part_objects (option_map_or (parts_of m.meta) x [])))) there parts

  -- of objects with so many in their trees
  walked_within : (n : ℕ) (o : ObjId) (object : Object) → length (tree m o) ≤ n → object_at m.objects o ≡ Some object → IsWalked m ordered filed o object
  walked_within zero o object l there = absurd (omega (arith, l, ap length (ordered.tree_is o)))
  walked_within (suc n) o object l there =
      parts_walk m ordered filed o object (parts_of m.meta object)
      (part_walked o object there (λ q held inside held_there. walked_within n q held (omega (arith, l, ordered.shorter o q inside)) held_there))
      (suc (number m o).0)
      (numbers_within o object there)

  -- of all objects
  pub walked : (o : ObjId) (object : Object) → object_at m.objects o ≡ Some object → IsWalked m ordered filed o object
  walked o object there = walked_within (length (tree m o)) o object (omega arith) there
