-- A file has no fault where none of its elements has one behind those before it, and an element has none where of no kind there is
-- one.
use Rattle.std.proofs.Common.{◌≡◌, List, [], ◌∷◌, ◌++◌, refl, ap, ◌∙◌, append_assoc, Option, Some, None}
use Rattle.std.specs.Prelude.{false, Contains, filter_map}
use Rattle.std.specs.Option.{option_map_or}
use Rattle.atl_base.specs.declared.place.Place.{Place}
use Rattle.doc_text.specs.declared.tree.Attribute.{Attribute}
use Rattle.ecore_meta.specs.declared.parts.Parts.{Parts}
use Rattle.model_store.proofs.Thinned.{Contains_first, Contains_later}
use Rattle.xmi_models.specs.Outline.{Entry, Part}
use Rattle.xmi_models.specs.declared.fault.Kind.TheVariants.{BadType, BadValue, Full, NoFeature, StrayText, Href}
use Rattle.xmi_models.specs.Faults.{Fault, when, of_kind, fault_at, fault_from, class_faults, second_object, attribute_value, bad_value, bad_values, is_misplaced, feature_values, has_stray_text, all_foreign, foreign_in, is_too_many}
use Rattle.xmi_round_trip.proofs.Faults.{one_past}

-- ## One element

module _ (meta : Parts) where
  -- attributes none of which leads to another file
  pub none_foreign : (part : Part) (attributes : List Attribute) → ((a : Attribute) → Contains attributes a → foreign_in meta part a ≡ []) → all_foreign meta part attributes ≡ []
  none_foreign part [] n = refl
  none_foreign part (a ∷ attributes) n =
      ap (λ l. l ++ all_foreign meta part attributes) (n a (Contains_first a attributes)) ∙ none_foreign part attributes (λ b m. n b (Contains_later a b attributes m))

  -- nothing is wrong at an element behind those
  pub record IsClean (before : List Entry) (e : Entry) : Type 0 where
    pub class : class_faults meta e ≡ None
    pub named : feature_values meta e ≡ []
    pub text : has_stray_text e ≡ false
    pub second : second_object meta before e.part ≡ []
    pub attributes : filter_map (attribute_value meta e.part) e.tag.attributes ≡ []
    pub value : bad_value meta before e ≡ []
    pub foreign : all_foreign meta e.part e.tag.attributes ≡ []
    pub fits : is_misplaced meta e.part ≡ false
    pub few : is_too_many meta before e.part ≡ false

  -- so it has no fault there
  pub clean : (before : List Entry) (e : Entry) → IsClean before e → fault_at meta before e ≡ None
  clean before e c =
      let values : bad_values meta before e ≡ [] =
      ap (λ l. l ++ (filter_map (attribute_value meta e.part) e.tag.attributes ++ bad_value meta before e)) c.second
      ∙ ap (λ l. l ++ bad_value meta before e) c.attributes
      ∙ c.value in
      one_past (class_faults meta e) _ c.class
      (one_past (of_kind NoFeature (feature_values meta e)) _ (ap (of_kind NoFeature) c.named)
      (one_past (when (has_stray_text e) StrayText e.tag.name) _ (ap (λ b. when b StrayText e.tag.name) c.text)
      (one_past (of_kind BadValue (bad_values meta before e)) _ (ap (of_kind BadValue) values)
      (one_past (of_kind Href (all_foreign meta e.part e.tag.attributes)) _ (ap (of_kind Href) c.foreign)
      (one_past (when (is_misplaced meta e.part) BadType e.tag.name) _ (ap (λ b. when b BadType e.tag.name) c.fits)
      (one_past (when (is_too_many meta before e.part) Full []) [] (ap (λ b. when b Full []) c.few) refl))))))

  -- ## All of them

  -- from an element on there is no fault, where no element of the file has one
  pub none_from : (file before es : List Entry) → before ++ es ≡ file → ((pre : List Entry) (e : Entry) (post : List Entry) → pre ++ (e ∷ post) ≡ file → fault_at meta pre e ≡ None) → fault_from meta before es ≡ None
  none_from file before [] h good = refl
  none_from file before (e ∷ es) h good =
      ap (λ o. option_map_or {U = Option (Fault × Place)} (λ f. Some (f, e.tag.place)) o (fault_from meta (before ++ (e ∷ [])) es)) (good before e es h)
      ∙ none_from file (before ++ (e ∷ [])) es (append_assoc before (e ∷ []) es ∙ h) good
