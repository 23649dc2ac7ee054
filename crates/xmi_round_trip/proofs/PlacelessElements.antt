-- What is wrong in the elements of a file does not depend on their places.
use Rattle.std.proofs.Common.{◌≡◌, ℕ, List, [], ◌∷◌, ◌++◌, map, refl, sym, ap, ◌∙◌}
use Rattle.std.specs.Prelude.{Bool, false, ◌&&◌, ◌||◌, ◌==◌, not, Option, Some, None, option_map, filter_map, slice_get, nat_le, if◌then◌else◌}
use Rattle.std.specs.Option.{option_map_or}
use Rattle.std.specs.List.{list_any}
use Rattle.std.proofs.lemmas.List.{map-append}
use Rattle.std.proofs.lemmas.Option.{slice_get-map}
use Rattle.atl_base.specs.declared.numbers.FeatId.{FeatId}
use Rattle.atl_base.specs.declared.numbers.ObjId.{ObjId}
use Rattle.doc_text.specs.Characters.{place}
use Rattle.ecore_meta.specs.declared.parts.Parts.{Parts}
use Rattle.model_store.specs.Contents.{is_many}
use Rattle.xmi_models.specs.declared.fault.Kind.TheVariants.{NoFeature, StrayText, BadValue, Href, BadType, Full}
use Rattle.xmi_models.specs.Outline.{Entry, Tag, Part, Around, Root, Content, Value, Cross, Unknown, Inner, is_object, objects_in}
use Rattle.xmi_models.specs.Faults.{Fault, all_foreign, attribute_feature, attribute_value, bad_value, bad_values, class_faults, element_fault, fault_at, fault_from, feature_values, first_of, gives, has_attribute, has_stray_text, is_misplaced, is_second, is_value_of, objects, of_kind, second_object, text_in, when}
use Rattle.xmi_round_trip.proofs.PlacelessEntries.{bare, bare_tag, count_bare, first_told, gives_bare, objects_bare, what, entry}

module _ (meta : Parts) where
  -- whether an attribute of an object's element gives a feature
  abbrev gives_attribute : FeatId → Entry → Bool
  gives_attribute f e = list_any (λ a. option_map_or (λ g. g.0 == f.0) (attribute_feature meta e.part a) false) e.tag.attributes

  -- whether an attribute of an object before gives a feature
  has_attribute_bare : (before : List Entry) (o : ObjId) (f : FeatId) → has_attribute meta (map bare before) o f ≡ has_attribute meta before o f
  has_attribute_bare before o f =
      ap (λ l. option_map_or (gives_attribute f) (slice_get l o.0) false) (objects_bare before)
      ∙ ap (λ x. option_map_or (gives_attribute f) x false) (slice_get-map bare (objects before) o.0)
      ∙ by (slice_get (objects before) o.0)
    where
      by : (x : Option Entry) → option_map_or (gives_attribute f) (option_map bare x) false ≡ option_map_or (gives_attribute f) x false
      by None = refl
      by (Some e) = refl

  -- whether a single-valued feature has a value before
  second_bare : (before : List Entry) (o : ObjId) (f : FeatId) → is_second meta (map bare before) o f ≡ is_second meta before o f
  second_bare before o f =
      ap (λ b. not (is_many meta f) && (b || has_attribute meta (map bare before) o f)) (gives_bare o f before)
      ∙ ap (λ b. not (is_many meta f) && (list_any (gives o f) before || b)) (has_attribute_bare before o f)

  -- a second object in a single-valued reference
  second_object_bare : (before : List Entry) (p : Part) → second_object meta (map bare before) p ≡ second_object meta before p
  second_object_bare before (Content o f c) = ap (λ b. if b then [] ∷ [] else []) (second_bare before o f)
  second_object_bare before Around = refl
  second_object_bare before (Root c) = refl
  second_object_bare before (Value o f) = refl
  second_object_bare before (Cross f c) = refl
  second_object_bare before (Unknown c) = refl
  second_object_bare before Inner = refl

  -- a bad value that stands in an element
  bad_value_bare : (before : List Entry) (p : Part) (t : Tag) → bad_value meta (map bare before) (entry p (bare_tag t)) ≡ bad_value meta before (entry p t)
  bad_value_bare before (Value o f) t = ap (λ b. if b || not (is_value_of meta f (text_in t)) then text_in t ∷ [] else []) (second_bare before o f)
  bad_value_bare before Around t = refl
  bad_value_bare before (Root c) t = refl
  bad_value_bare before (Content o f c) t = refl
  bad_value_bare before (Cross f c) t = refl
  bad_value_bare before (Unknown c) t = refl
  bad_value_bare before Inner t = refl

  -- all bad values at an element
  bad_values_bare : (before : List Entry) (e : Entry) → bad_values meta (map bare before) (bare e) ≡ bad_values meta before e
  bad_values_bare before e =
      ap (λ l. l ++ (filter_map (attribute_value meta e.part) e.tag.attributes ++ bad_value meta (map bare before) (bare e))) (second_object_bare before e.part)
      ∙ ap (λ l. second_object meta before e.part ++ (filter_map (attribute_value meta e.part) e.tag.attributes ++ l)) (bad_value_bare before e.part e.tag)

  -- what is wrong at an element, where these are bad values, and it may be one too many
  abbrev fault_with : Entry → List (List ℕ) → Bool → Option Fault
  fault_with e bad many = first_of (
      class_faults meta e
      ∷ of_kind NoFeature (feature_values meta e)
      ∷ when (has_stray_text e) StrayText e.tag.name
      ∷ of_kind BadValue bad
      ∷ of_kind Href (all_foreign meta e.part e.tag.attributes)
      ∷ when (is_misplaced meta e.part) BadType e.tag.name
      ∷ when many Full []
      ∷ [])

  -- that is the same without the element's place
  fault_with_bare : (p : Part) (t : Tag) (bad : List (List ℕ)) (many : Bool) → fault_with (entry p (bare_tag t)) bad many ≡ fault_with (entry p t) bad many
  fault_with_bare Around t bad many = refl
  fault_with_bare (Root c) t bad many = refl
  fault_with_bare (Content o f c) t bad many = refl
  fault_with_bare (Value o f) t bad many = refl
  fault_with_bare (Cross f c) t bad many = refl
  fault_with_bare (Unknown c) t bad many = refl
  fault_with_bare Inner t bad many = refl

  -- what is wrong at an element behind those
  fault_at_bare : (before : List Entry) (e : Entry) → fault_at meta (map bare before) (bare e) ≡ fault_at meta before e
  fault_at_bare before e =
      ap (λ bad. fault_with (bare e) bad (is_object e.part && nat_le 1000000 (objects_in (map bare before)))) (bad_values_bare before e)
      ∙ ap (λ n. fault_with (bare e) (bad_values meta before e) (is_object e.part && nat_le 1000000 n)) (count_bare before)
      ∙ fault_with_bare e.part e.tag (bad_values meta before e) (is_object e.part && nat_le 1000000 (objects_in before))

  -- the first thing wrong from an element on, but for its place
  fault_from_bare : (before es : List Entry) → what (fault_from meta (map bare before) (map bare es)) ≡ what (fault_from meta before es)
  fault_from_bare before [] = refl
  fault_from_bare before (e ∷ es) =
      first_told (fault_at meta (map bare before) (bare e)) (fault_at meta before e) (place 1 1) e.tag.place
      (fault_from meta (map bare before ++ (bare e ∷ [])) (map bare es)) (fault_from meta (before ++ (e ∷ [])) es)
      (fault_at_bare before e)
      (ap (λ l. what (fault_from meta l (map bare es))) (sym (map-append bare before (e ∷ []))) ∙ fault_from_bare (before ++ (e ∷ [])) es)

-- the first thing wrong in the elements of a file, but for its place
pub element_fault_bare : (meta : Parts) (file : List Entry) → what (element_fault meta (map bare file)) ≡ what (element_fault meta file)
element_fault_bare meta file = fault_from_bare meta [] file
