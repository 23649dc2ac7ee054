-- Nothing is wrong at the attributes of an object's element: XMI's version, its type, and features of its class.
use Rattle.std.proofs.Common.{◌≡◌, List, [], ◌∷◌, ◌++◌, length, refl, sym, ap, ◌∙◌, subst, ⊎_elim, Option, Some, None}
use Rattle.std.specs.Prelude.{Bool, true, false, ◌==◌, ◌&&◌, ◌||◌, not, find, Contains, is_some, if◌then◌else◌}
use Rattle.std.specs.Option.{option_map_or}
use Rattle.std.proofs.lemmas.Bool.{and_parts, true≢false}
use Rattle.std.proofs.lemmas.List.Elements.{Contains-append_cases}
use Rattle.std.proofs.lemmas.Option.{none-some, same_Some}
use Rattle.atl_base.specs.declared.numbers.ClassId.{ClassId}
use Rattle.atl_base.specs.declared.numbers.FeatId.{FeatId}
use Rattle.atl_base.specs.declared.numbers.ObjId.{ObjId}
use Rattle.doc_text.specs.declared.tree.Attribute.{Attribute}
use Rattle.ecore_meta.specs.declared.parts.Parts.{Parts}
use Rattle.ecore_meta.specs.Inheritance.{features}
use Rattle.model_store.specs.declared.parts.Object.{Object}
use Rattle.model_store.specs.Contents.{Contents, class_of, contains, holder, object_at, refers, slot}
use Rattle.model_store.specs.Valid.{IsValid}
use Rattle.model_store.proofs.Thinned.{Contains_none}
use Rattle.xmi_text.specs.Markup.{words_of}
use Rattle.xmi_text.specs.Fragments.{names_file}
use Rattle.xmi_text.specs.Options.{then_}
use Rattle.xmi_models.specs.Outline.{Part as EntryPart, Around, Root, Content, Value, Cross, Unknown, Inner}
use Rattle.xmi_models.specs.Faults.{attribute_feature, attribute_value, bad_text, foreign_in, is_href, is_nil, is_no_feature, is_passed, is_skipped_attribute, is_type, may_have_type, own_class}
use Rattle.xmi_write.specs.declared.named.Named.TheVariants.{Inside, Root as NamedRoot, Around as NamedAround}
use Rattle.xmi_write.specs.Values.{is_attribute, is_untouched, may_be_attribute}
use Rattle.xmi_write.specs.Xmi.{attributes_of, by_slot, root_name, said_class, slot_attribute, slot_attributes, type_attribute, type_attributes, version}
use Rattle.xmi_round_trip.specs.Renumbered.{number}
use Rattle.xmi_round_trip.specs.RoundTrip.{IsInBounds}
use Rattle.xmi_round_trip.proofs.Filed.{IsOrdered, first_attributes, named, object_part, own_attributes}
use Rattle.xmi_round_trip.proofs.ElementFaultsSlots.{attribute_good, attribute_plain, no_file}
use Rattle.xmi_round_trip.proofs.Parts.{has_it, in_slots}
use Rattle.xmi_round_trip.proofs.Entries.{own_class_is, slot_feature}
use Rattle.xmi_round_trip.proofs.Lists.{only}

-- an attribute that is none of the faults of attributes
pub record IsRight (meta : Parts) (p : EntryPart) (a : Attribute) : Type 0 where
  pub known : is_no_feature meta p a ≡ false
  pub value : attribute_value meta p a ≡ None
  pub local : foreign_in meta p a ≡ []
  -- no containment stands in an attribute
  pub plain : (g : FeatId) → attribute_feature meta p a ≡ Some g → contains meta g ≡ false

-- XMI's version is right at any element
version_right : (meta : Parts) (p : EntryPart) → IsRight meta p version
version_right meta p = record { known = refl; value = refl; local = refl; plain = λ g h. absurd (none-some g h) }

-- so is a type, where an element may have one
type_right : (meta : Parts) (p : EntryPart) (c : ClassId) → may_have_type p ≡ true → IsRight meta p (type_attribute meta c)
type_right meta p c h = record { known = known p h; value = refl; local = refl; plain = λ g e. absurd (none-some g e) }
  where
    known : (q : EntryPart) → may_have_type q ≡ true → is_no_feature meta q (type_attribute meta c) ≡ false
    known (Content o f d) e = refl
    known (Cross f d) e = refl
    known (Unknown d) e = refl
    known Around e = absurd (true≢false (sym e))
    known (Root d) e = absurd (true≢false (sym e))
    known (Value o f) e = absurd (true≢false (sym e))
    known Inner e = absurd (true≢false (sym e))

-- ## Of an object

module _ (m : Contents) (valid : IsValid m) (bounds : IsInBounds m) (o : ObjId) (object : Object) (there : object_at m.objects o ≡ Some object) where
  -- the features that are seen in its class
  abbrev seen : List FeatId
  seen = features m.meta.classes object.class

  -- a feature of its class
  module _ (p : EntryPart) (own : own_class p ≡ Some object.class) (f : FeatId) (sees : Contains (features m.meta.classes object.class) f) (stands : is_attribute m.meta f (slot m o f) ≡ true) where
    -- the attribute of its slot
    abbrev a : Attribute
    a = slot_attribute m f (slot m o f)

    -- it gives that feature
    feature : attribute_feature m.meta p a ≡ Some f
    feature = slot_feature m valid o object there p own f sees

    -- it is one of the element's class
    slot_known : is_no_feature m.meta p a ≡ false
    slot_known =
        ap (λ x. not (is_passed a || is_nil a || is_href a || (is_type a && may_have_type p) || is_some x || is_skipped_attribute m.meta p a)) feature
        ∙ by (is_href a)
      where
        by : (b : Bool) → not (is_passed a || is_nil a || b || (is_type a && may_have_type p) || true || is_skipped_attribute m.meta p a) ≡ false
        by true = refl
        by false = refl

    -- its text is right for the feature
    slot_value : attribute_value m.meta p a ≡ None
    slot_value =
        ap (λ x. then_ x (λ g. bad_text m.meta g a.value)) feature ∙ attribute_good m valid bounds o f stands (has_it m valid o object there f sees)

    -- it names no other file
    slot_local : foreign_in m.meta p a ≡ []
    slot_local =
        ap (λ x. if is_href a && not (is_some x || is_skipped_attribute m.meta p a) then a.value ∷ []
        else option_map_or (λ g. if refers m.meta g && not (contains m.meta g) then option_map_or (λ w. w ∷ []) (find names_file (words_of a.value)) [] else []) x []) feature
        ∙ by (is_href a)
      where
        words : (r : Bool) → refers m.meta f ≡ r → (if r && not (contains m.meta f) then option_map_or (λ w. w ∷ []) (find names_file (words_of a.value)) [] else []) ≡ []
        words true e = no_file m valid bounds o f e (not (contains m.meta f))
        words false e = refl

        by : (b : Bool) → (if b && not (true || is_skipped_attribute m.meta p a) then a.value ∷ []
            else (if refers m.meta f && not (contains m.meta f) then option_map_or (λ w. w ∷ []) (find names_file (words_of a.value)) [] else [])) ≡ []
        by true = words (refers m.meta f) refl
        by false = words (refers m.meta f) refl

    -- so it is right
    slot_right : IsRight m.meta p a
    slot_right = record {
      known = slot_known;
      value = slot_value;
      local = slot_local;
      plain = λ g h. ap (contains m.meta) (same_Some g f (sym h ∙ feature)) ∙ attribute_plain m.meta f (and_parts (may_be_attribute m.meta f) (not (is_untouched m.meta f (slot m o f))) stands).0;
    }

  -- ## All of them

  -- each that stands first is right
  first_right : (b : Attribute) → Contains (first_attributes m o) b → IsRight m.meta (object_part m o) b
  first_right b h = on (holder m o) (length m.roots == 1) h
    where
      is_version : Contains (version ∷ []) b → IsRight m.meta (object_part m o) b
      is_version k = subst (IsRight m.meta (object_part m o)) (only version b k) (version_right m.meta (object_part m o))

      on : (x : Option (ObjId × FeatId)) (single : Bool) → Contains (option_map_or (λ at. []) x (if single then version ∷ [] else [])) b → IsRight m.meta (object_part m o) b
      on (Some at) single k = absurd (Contains_none b k)
      on None true k = is_version k
      on None false k = absurd (Contains_none b k)

  -- so is its type
  its_type_right : (b : Attribute) → Contains (type_attributes m.meta (named m o) object.class) b → IsRight m.meta (object_part m o) b
  its_type_right b h = on (holder m o) refl h
    where
      is_it : (at : ObjId × FeatId) (same : Bool) → Contains (if same then [] else type_attribute m.meta object.class ∷ []) b → IsRight m.meta (Content (number m at.0) at.1 (class_of m o)) b
      is_it at true k = absurd (Contains_none b k)
      is_it at false k = subst (IsRight m.meta (Content (number m at.0) at.1 (class_of m o))) (only (type_attribute m.meta object.class) b k) (type_right m.meta (Content (number m at.0) at.1 (class_of m o)) object.class refl)

      no_root : (x : Option Object) → Contains (type_attributes m.meta (option_map_or (λ y. NamedRoot y.class) x NamedAround) object.class) b → ⊥
      no_root None k = Contains_none b k
      no_root (Some y) k = Contains_none b k

      on : (x : Option (ObjId × FeatId)) → holder m o ≡ x → Contains (type_attributes m.meta (option_map_or (λ at. Inside at.1) x (root_name m o)) object.class) b → IsRight m.meta (option_map_or (λ at. Content (number m at.0) at.1 (class_of m o)) x (Root (class_of m o))) b
      on (Some at) e k = is_it at (option_map_or (λ said. said.0 == object.class.0) (said_class m.meta at.1) false) k
      on None e k = absurd (no_root (object_at m.objects o) k)

  module _ (known : IsOrdered m) where
    -- so is each of a slot
    slots_right : (b : Attribute) → Contains (by_slot (slot_attributes m) (features m.meta.classes object.class) object.slots) b → IsRight m.meta (object_part m o) b
    slots_right b h =
        let r = in_slots (slot_attributes m) (slot m o) seen b (subst (λ slots. Contains (by_slot (slot_attributes m) seen slots) b) (known.slots o object there) h) in
        by r.0 r.1 (is_attribute m.meta r.0 (slot m o r.0)) refl r.2
      where
        by : (f : FeatId) → Contains (features m.meta.classes object.class) f → (x : Bool) → is_attribute m.meta f (slot m o f) ≡ x → Contains (if x then slot_attribute m f (slot m o f) ∷ [] else []) b → IsRight m.meta (object_part m o) b
        by f sees false e k = absurd (Contains_none b k)
        by f sees true e k = subst (IsRight m.meta (object_part m o)) (only (slot_attribute m f (slot m o f)) b k) (slot_right (object_part m o) (own_class_is m o object there) f sees e)

    -- each attribute of an object's element is right
    pub attribute_right : (b : Attribute) → Contains (first_attributes m o ++ own_attributes m o) b → IsRight m.meta (object_part m o) b
    attribute_right b h = ⊎_elim
        (λ (k : Contains (first_attributes m o) b). first_right b k)
        (λ (k : Contains (own_attributes m o) b).
        let full : Contains (attributes_of m (named m o) object) b = subst (λ x. Contains (option_map_or (attributes_of m (named m o)) x []) b) there k in
        ⊎_elim (λ (t : Contains (type_attributes m.meta (named m o) object.class) b). its_type_right b t)
        (λ (s : Contains (by_slot (slot_attributes m) seen object.slots) b). slots_right b s)
        (Contains-append_cases (type_attributes m.meta (named m o) object.class) (by_slot (slot_attributes m) seen object.slots) b full))
        (Contains-append_cases (first_attributes m o) (own_attributes m o) b h)
