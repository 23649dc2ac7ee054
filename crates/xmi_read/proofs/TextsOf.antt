-- What is given at an element is text: values of attributes, names, texts of literals; and so is each default of a type.
use Rattle.std.proofs.Common.{◌≡◌, ℕ, suc, List, [], ◌∷◌, refl, subst}
use Rattle.std.specs.Prelude.{Bool, true, false, cond, ◌&&◌, ◌==◌, bytes_eq, codes, Option, Some, None, option_map, find, if◌then◌else◌}
use Rattle.std.specs.Option.{option_map_or}
use Rattle.std.proofs.lemmas.Option.{none-some, same_Some}
use Rattle.atl_base.specs.XmlText.{IsXmlText}
use Rattle.atl_base.proofs.XmlTexts.{IsXmlText-nil, IsXmlText-ascii}
use Rattle.doc_text.specs.declared.tree.Attribute.{Attribute}
use Rattle.doc_text.specs.declared.tree.Element.{Element}
use Rattle.doc_text.specs.declared.tree.Prefix.{Prefix}
use Rattle.ecore_meta.specs.declared.parts.FeatKind.TheVariants.{Opaque}
use Rattle.xmi_text.specs.Markup.{given, or_empty, is_called, words_of, ecore_space}
use Rattle.ecore_outline.specs.declared.outline.Role.{Role}
use Rattle.ecore_outline.specs.declared.outline.Role.TheVariants.{Attribute as AttributeRole}
use Rattle.ecore_outline.specs.Outline.{Entry, is_enum_role, name_of}
use Rattle.xmi_text.specs.Fragments.{names_file, file_of, behind_hash, behind_slashes}
use Rattle.ecore_names.specs.References.{Target, OfClass, OfEnum, OfData, local_target, class_named}
use Rattle.ecore_outline.specs.Enumerations.{is_literal_role, literal_text, literals_from, first_text}
use Rattle.ecore_names.specs.Types.{DataType, plain, typed_by, ecore_types, instance_types, named_types, own_type, foreign_type, type_of_target, local_type}
use Rattle.ecore_rows.specs.Rows.{ByData, Foreign, Untyped, or_foreign, foreign_word, by_data, by_class, is_foreign_data, attribute_typed, reference_typed, attribute_child_typed, reference_child_typed, text_typed, child_typed, type_behind, typed}
use Rattle.ecore_outline.specs.Texts.{AreAttributeTexts, IsElementText, AreTexts}
use Rattle.xmi_read.specs.TypeTexts.{HasTextDefault}
use Rattle.ecore_names.proofs.Targets.{then_some}

-- ## Attributes

pub value_is_text : (p : Attribute → Bool) (list : List Attribute) → AreAttributeTexts list → IsXmlText (or_empty (option_map (λ a. a.value) (find p list)))
value_is_text p [] h = IsXmlText-nil
value_is_text p (a ∷ list) h = by (p a) (value_is_text p list h.1)
  where
    by : (b : Bool) → IsXmlText (or_empty (option_map (λ a. a.value) (find p list))) → IsXmlText (or_empty (option_map (λ a. a.value) (cond b (Some a) (find p list))))
    by true k = h.0.1
    by false k = k

pub given_is_text : (name : List ℕ) (e : Element) → IsElementText e → IsXmlText (or_empty (given name e))
given_is_text name e h = value_is_text (is_called [] name) e.attributes h.attributes

pub name_is_text : (e : Entry) → IsElementText e.site.element → IsXmlText (name_of e)
name_is_text e h = given_is_text (codes "name") e.site.element h

pub literal_is_text : (e : Entry) → IsElementText e.site.element → IsXmlText (literal_text e)
literal_is_text e h = by (given (codes "literal") e.site.element) (given_is_text (codes "literal") e.site.element h)
  where
    by : (o : Option (List ℕ)) → IsXmlText (or_empty o) → IsXmlText (option_map_or (λ text. text) o (name_of e))
    by (Some text) k = k
    by None k = name_is_text e h

-- ## The first literal of an enumeration

first_is_text : (enum n : ℕ) (es : List Entry) → AreTexts es → IsXmlText (or_empty (first_text (literals_from enum n es)))
first_is_text enum n [] h = IsXmlText-nil
first_is_text enum n (e ∷ es) h =
    by (is_enum_role e.role) (is_literal_role e.role && n == suc enum) (first_is_text enum (suc n) es h.1) (first_is_text enum n es h.1)
  where
    by : (a b : Bool) → IsXmlText (or_empty (first_text (literals_from enum (suc n) es))) → IsXmlText (or_empty (first_text (literals_from enum n es)))
        → IsXmlText (or_empty (first_text (if a then literals_from enum (suc n) es else if b then e ∷ literals_from enum n es else literals_from enum n es)))
    by true b k m = k
    by false true k m = literal_is_text e h.0
    by false false k m = m

-- ## Defaults of types

abbrev IsTextType : DataType → Type 0
IsTextType t = IsXmlText (or_empty t.default)

abbrev AreTextTypes : List (List ℕ × DataType) → Type 0
AreTextTypes [] = Unit {0}
AreTextTypes (row ∷ rows) = IsTextType row.1 × AreTextTypes rows

none_is : IsXmlText []
none_is = IsXmlText-nil

zero_is : IsXmlText (codes "0")
zero_is = IsXmlText-ascii (codes "0") refl

wrong_is : IsXmlText (codes "false")
wrong_is = IsXmlText-ascii (codes "false") refl

by_rows : (rows : List (List ℕ × DataType)) (name : List ℕ) → AreTextTypes rows → IsTextType (typed_by rows name)
by_rows [] name h = none_is
by_rows (row ∷ rows) name h = by (bytes_eq row.0 name) h.0 (by_rows rows name h.1)
  where
    by : (b : Bool) → IsTextType row.1 → IsTextType (typed_by rows name) → IsTextType (option_map_or (λ row. row.1) (cond b (Some row) (find (λ row. bytes_eq row.0 name) rows)) (plain Opaque))
    by true h k = h
    by false h k = k

ecore_rows : AreTextTypes ecore_types
unfolding ecore_types
ecore_rows = (none_is, (zero_is, (zero_is, (zero_is, (zero_is, (none_is, (none_is, (none_is, (none_is, (none_is, (wrong_is, (none_is, tt))))))))))))

instance_rows : AreTextTypes instance_types
unfolding instance_types
instance_rows = (none_is, (zero_is, (zero_is, (zero_is, (zero_is, (none_is, (none_is, (none_is, (none_is, (wrong_is, (none_is, tt)))))))))))

named_rows : AreTextTypes named_types
unfolding named_types
named_rows = (none_is, (none_is, (none_is, tt)))

foreign_default : (word : List ℕ) → IsTextType (foreign_type word)
foreign_default word = by (bytes_eq (file_of word) ecore_space)
  where
    by : (b : Bool) → IsTextType (if b then typed_by ecore_types (behind_slashes (behind_hash word)) else plain Opaque)
    by true = by_rows ecore_types (behind_slashes (behind_hash word)) ecore_rows
    by false = none_is

own_default : (e : Element) → IsTextType (own_type e)
own_default e = by (given (codes "instanceClassName") e)
  where
    by : (o : Option (List ℕ)) → IsTextType (option_map_or (typed_by instance_types) o (typed_by named_types (or_empty (given (codes "name") e))))
    by (Some name) = by_rows instance_types name instance_rows
    by None = by_rows named_types (or_empty (given (codes "name") e)) named_rows

module _ (file : List Entry) (texts : AreTexts file) where
  local_default : (word : List ℕ) (t : DataType) → local_type file word ≡ Some t → IsTextType t
  local_default word t h =
      let r = then_some (local_target file word) (type_of_target file) t h in
      by r.0 r.2
    where
      by : (x : Target) → type_of_target file x ≡ Some t → IsTextType t
      by (OfClass c) k = absurd (none-some t k)
      by (OfEnum n) k = subst IsTextType (same_Some _ t k) (first_is_text n 0 file texts)
      by (OfData d) k = subst IsTextType (same_Some (own_type d) t k) (own_default d)

  foreign_or : (o : Option (List ℕ)) (text : List ℕ) → HasTextDefault (option_map_or Foreign o (Untyped text))
  foreign_or (Some w) text = tt
  foreign_or None text = tt

  by_data_default : (text word : List ℕ) (o : Option DataType) → local_type file word ≡ o → HasTextDefault (by_data text o)
  by_data_default text word (Some t) h = local_default word t h
  by_data_default text word None h = tt

  by_class_default : (text : List ℕ) (o : Option ℕ) → HasTextDefault (by_class text o)
  by_class_default text (Some c) = tt
  by_class_default text None = tt

  attribute_default : (scope : List Prefix) (text : List ℕ) (words : List (List ℕ)) → HasTextDefault (attribute_typed file scope text words)
  attribute_default scope text [] = foreign_or (foreign_word []) text
  attribute_default scope text (w ∷ []) = by (names_file w) (by_data_default text w (local_type file w) refl)
    where
      by : (b : Bool) → HasTextDefault (by_data text (local_type file w)) → HasTextDefault (if b then Foreign w else by_data text (local_type file w))
      by true h = tt
      by false h = h
  attribute_default scope text (a ∷ (b ∷ [])) = by (is_foreign_data scope a b)
    where
      by : (t : Bool) → HasTextDefault (if t then ByData (foreign_type b) else or_foreign (a ∷ (b ∷ [])) text)
      by true = foreign_default b
      by false = foreign_or (foreign_word (a ∷ (b ∷ []))) text
  attribute_default scope text (a ∷ (b ∷ (c ∷ words))) = foreign_or (foreign_word (a ∷ (b ∷ (c ∷ words)))) text

  reference_default : (scope : List Prefix) (text : List ℕ) (words : List (List ℕ)) → HasTextDefault (reference_typed file scope text words)
  reference_default scope text [] = foreign_or (foreign_word []) text
  reference_default scope text (w ∷ []) = by (names_file w)
    where
      by : (b : Bool) → HasTextDefault (if b then Foreign w else by_class text (class_named file w))
      by true = tt
      by false = by_class_default text (class_named file w)
  reference_default scope text (a ∷ (b ∷ [])) = by (is_foreign_data scope a b)
    where
      by : (t : Bool) → HasTextDefault (if t then Untyped text else or_foreign (a ∷ (b ∷ [])) text)
      by true = tt
      by false = foreign_or (foreign_word (a ∷ (b ∷ []))) text
  reference_default scope text (a ∷ (b ∷ (c ∷ words))) = foreign_or (foreign_word (a ∷ (b ∷ (c ∷ words)))) text

  attribute_child : (word : List ℕ) → HasTextDefault (attribute_child_typed file word)
  attribute_child word = by (names_file word) (by_data_default word word (local_type file word) refl)
    where
      by : (b : Bool) → HasTextDefault (by_data word (local_type file word)) → HasTextDefault (if b then ByData (foreign_type word) else by_data word (local_type file word))
      by true h = foreign_default word
      by false h = h

  reference_child : (word : List ℕ) → HasTextDefault (reference_child_typed file word)
  reference_child word = by (names_file word)
    where
      by : (b : Bool) → HasTextDefault (if b then Foreign word else by_class word (class_named file word))
      by true = tt
      by false = by_class_default word (class_named file word)

  text_default : (r : Role) (scope : List Prefix) (text : List ℕ) → HasTextDefault (text_typed r file scope text)
  text_default AttributeRole scope text = attribute_default scope text (words_of text)
  text_default r scope text = reference_default scope text (words_of text)

  child_default : (r : Role) (word : List ℕ) → HasTextDefault (child_typed r file word)
  child_default AttributeRole word = attribute_child word
  child_default r word = reference_child word

  -- the default of a feature's type
  pub typed_default : (e : Entry) (behind : List Entry) → HasTextDefault (typed file e behind)
  typed_default e behind = by (given (codes "eType") e.site.element) (type_behind behind)
    where
      by : (o p : Option (List ℕ)) → HasTextDefault (option_map_or (text_typed e.role file e.site.scope) o (option_map_or (child_typed e.role file) p (Untyped [])))
      by (Some text) p = text_default e.role e.site.scope text
      by None (Some word) = child_default e.role word
      by None None = tt
