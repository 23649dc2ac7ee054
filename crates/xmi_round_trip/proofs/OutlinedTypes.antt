-- The class that an element's type names, or the feature that it stands for: it is the class of the object that is written so.
use Rattle.std.proofs.Common.{◌≡◌, ℕ, List, [], ◌∷◌, ◌++◌, refl, sym, ap, ◌∙◌, Option, Some, None}
use Rattle.std.specs.Prelude.{◌==◌, ◌&&◌, ◌^◌, ◌<◌, Bool, true, false, bytes_eq, codes, find, length, option_map, slice_get, if◌then◌else◌}
use Rattle.std.specs.List.{list_all}
use Rattle.std.specs.Option.{option_map_or, option_or}
use Rattle.std.proofs.lemmas.Bool.{and_parts, eqb-true, false≢true}
use Rattle.std.proofs.lemmas.List.Folds.{find-append}
use Rattle.atl_base.specs.declared.numbers.ClassId.{ClassId}
use Rattle.atl_base.specs.declared.numbers.FeatId.{FeatId}
use Rattle.doc_text.specs.Names.{xmi_space, xsi_space}
use Rattle.doc_text.specs.declared.tree.Attribute.{Attribute}
use Rattle.ecore_meta.specs.declared.parts.Parts.{Parts}
use Rattle.ecore_meta.specs.Names.{IsName, IsPrefix, IsUri, continues_name}
use Rattle.ecore_meta.specs.Order.{class_no}
use Rattle.ecore_meta.specs.Valid.{IsMetamodel}
use Rattle.model_store.specs.declared.parts.Cellv.{Cellv}
use Rattle.model_store.specs.Contents.{Contents}
use Rattle.xmi_text.specs.Markup.{before_colon, behind_colon, is_called}
use Rattle.xmi_text.specs.Options.{then_}
use Rattle.xmi_names.specs.Names.{class_named, class_said}
use Rattle.xmi_models.specs.Outline.{class_behind, class_of_text}
use Rattle.xmi_write.specs.Values.{is_attribute}
use Rattle.xmi_write.specs.Xmi.{by_slot, class_name, declared, package_of, said_class, slot_attribute, slot_attributes, type_attribute, type_attributes, type_text}
use Rattle.xmi_write.specs.declared.named.Named.TheVariants.{Inside}
use Rattle.xmi_round_trip.proofs.OutlinedNames.{HasPackage, class_found, has_package, prefix_found}
use Rattle.xmi_round_trip.proofs.Lists.{at_place}
use Rattle.xmi_round_trip.proofs.Names.{all_go_on}

-- ## Before and behind the colon

-- no character of a plain name is a colon
no_colon : (c : ℕ) → continues_name c ≡ true → (c == 58) ≡ false
no_colon c h = on (c == 58) refl
  where
    on : (b : Bool) → (c == 58) ≡ b → b ≡ false
    on false e = refl
    on true e = absurd (false≢true (ap continues_name (sym (eqb-true c 58 e)) ∙ h))

-- what stands before the colon behind a plain name
before_plain : (name rest : List ℕ) → list_all continues_name name ≡ true → before_colon (name ++ (58 ∷ rest)) ≡ Some name
before_plain [] rest h = refl
before_plain (c ∷ cs) rest h =
    let parts = and_parts (continues_name c) (list_all continues_name cs) h in
    ap (λ b. if b then Some [] else option_map (λ r. c ∷ r) (before_colon (cs ++ (58 ∷ rest)))) (no_colon c parts.0)
    ∙ ap (option_map (λ r. c ∷ r)) (before_plain cs rest parts.1)

-- and what stands behind it
behind_plain : (name rest : List ℕ) → list_all continues_name name ≡ true → behind_colon (name ++ (58 ∷ rest)) ≡ rest
behind_plain [] rest h = refl
behind_plain (c ∷ cs) rest h =
    let parts = and_parts (continues_name c) (list_all continues_name cs) h in
    ap (λ b. if b then cs ++ (58 ∷ rest) else behind_colon (cs ++ (58 ∷ rest))) (no_colon c parts.0) ∙ behind_plain cs rest parts.1

-- ## Types

module _ (meta : Parts) (valid : IsMetamodel meta) where
  -- a class's type, where the declarations of a file are in force
  pub typed : (c : ClassId) → c.0 < length meta.classes → c.0 < 2 ^ 32 → class_of_text meta (declared meta) (type_text meta c) ≡ Some c
  typed c h few =
      let has : HasPackage meta valid c = has_package meta valid c h in
      let prefix : List ℕ = has.group.prefix in
      let name : List ℕ = has.class.name in
      let facts = at_place (λ p. IsName p.name × IsPrefix p.prefix × IsUri p.uri) meta.packages has.class.«package» has.group valid.names.packages has.inside in
      let plain : list_all continues_name prefix ≡ true = all_go_on prefix facts.1.name.plain in
      let package_is : package_of meta c ≡ Some has.group = ap (λ o. option_map_or (λ class. slice_get meta.packages class.«package») o None) has.there ∙ has.inside in
      let text_is : type_text meta c ≡ prefix ++ (58 ∷ name) =
      ap (λ o. option_map_or (λ p. p.prefix) o [] ++ (58 ∷ class_name meta c)) package_is ∙ ap (λ o. prefix ++ (58 ∷ option_map_or (λ class. class.name) o [])) has.there in
      ap (class_of_text meta (declared meta)) text_is
      ∙ ap (λ o. option_map_or (λ p. class_behind meta (declared meta) p (behind_colon (prefix ++ (58 ∷ name)))) o (class_behind meta (declared meta) [] (prefix ++ (58 ∷ name)))) (before_plain prefix name plain)
      ∙ ap (class_behind meta (declared meta) prefix) (behind_plain prefix name plain)
      ∙ ap (λ o. then_ o (λ space. class_named meta space name)) (prefix_found meta valid has.class.«package» has.group has.inside)
      ∙ class_found meta valid c has few

-- ## Types of elements

-- the type among an element's attributes
abbrev pub type_among : List Attribute → Option (List ℕ)
type_among attributes = option_map_or (λ text. Some text) (option_map (λ a. a.value) (find (is_called xsi_space (codes "type")) attributes)) (option_map (λ a. a.value) (find (is_called xmi_space (codes "type")) attributes))

module _ (m : Contents) where
  -- attributes of features are in no namespace
  none_called : (space name : List ℕ) → bytes_eq [] space ≡ false → (fs : List FeatId) (slots : List (List Cellv)) → find (is_called space name) (by_slot (slot_attributes m) fs slots) ≡ None
  none_called space name h [] slots = refl
  none_called space name h (f ∷ fs) [] = refl
  none_called space name h (f ∷ fs) (cells ∷ slots) =
      find-append (is_called space name) (slot_attributes m f cells) (by_slot (slot_attributes m) fs slots)
      ∙ ap (λ o. option_or o (find (is_called space name) (by_slot (slot_attributes m) fs slots))) (on (is_attribute m.meta f cells))
      ∙ none_called space name h fs slots
    where
      on : (b : Bool) → find (is_called space name) (if b then slot_attribute m f cells ∷ [] else []) ≡ None
      on false = refl
      on true = ap (λ b. if b && bytes_eq (slot_attribute m f cells).name name then Some (slot_attribute m f cells) else None) h

  -- so they say no type
  untyped : (fs : List FeatId) (slots : List (List Cellv)) → type_among (by_slot (slot_attributes m) fs slots) ≡ None
  untyped fs slots =
      ap (λ o. option_map_or (λ text. Some text) (option_map (λ a. a.value) o) (option_map (λ a. a.value) (find (is_called xmi_space (codes "type")) (by_slot (slot_attributes m) fs slots))))
      (none_called xsi_space (codes "type") refl fs slots)
      ∙ ap (option_map (λ a. a.value)) (none_called xmi_space (codes "type") refl fs slots)

  -- the class that a child's type says, else its feature
  pub child_said : IsMetamodel m.meta → (f : FeatId) (c : ClassId) → c.0 < length m.meta.classes → c.0 < 2 ^ 32 → (fs : List FeatId) (slots : List (List Cellv))
      → option_map_or (class_of_text m.meta (declared m.meta)) (type_among (type_attributes m.meta (Inside f) c ++ by_slot (slot_attributes m) fs slots)) (class_said m.meta f) ≡ Some c
  child_said valid f c h few fs slots = on (option_map_or (λ said. said.0 == c.0) (said_class m.meta f) false) refl
    where
      same : (x : Option ClassId) → option_map_or (λ said. said.0 == c.0) x false ≡ true → x ≡ Some c
      same None e = absurd (false≢true e)
      same (Some said) e = ap (λ n. Some (class_no n)) (eqb-true said.0 c.0 e)

      on : (b : Bool) → option_map_or (λ said. said.0 == c.0) (said_class m.meta f) false ≡ b
          → option_map_or (class_of_text m.meta (declared m.meta)) (type_among ((if b then [] else type_attribute m.meta c ∷ []) ++ by_slot (slot_attributes m) fs slots)) (class_said m.meta f) ≡ Some c
      on true e = ap (λ o. option_map_or (class_of_text m.meta (declared m.meta)) o (class_said m.meta f)) (untyped fs slots) ∙ same (said_class m.meta f) e
      on false e = typed m.meta valid c h few
