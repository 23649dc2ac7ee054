-- What a fault tells is text: what is given in the file, or a word of it.
use Rattle.std.proofs.Common.{◌≡◌, ℕ, suc, ◌-◌, List, [], ◌∷◌, ◌++◌, subst}
use Rattle.std.specs.Prelude.{Bool, true, false, cond, ◌&&◌, not, bytes_eq, codes, Option, Some, None, option_map, is_some, is_none, find, slice_get, if◌then◌else◌}
use Rattle.std.specs.Option.{option_map_or}
use Rattle.std.specs.List.{list_any}
use Rattle.atl_base.specs.XmlText.{IsXmlText}
use Rattle.atl_base.specs.declared.place.Place.{Place}
use Rattle.atl_base.proofs.XmlTexts.{IsXmlText-nil}
use Rattle.doc_text.specs.declared.tree.Attribute.{Attribute}
use Rattle.doc_text.specs.declared.tree.Element.{Element}
use Rattle.doc_text.specs.declared.tree.Prefix.{Prefix}
use Rattle.xmi_text.specs.Markup.{Site, given, or_empty, words_of, sub_elements}
use Rattle.ecore_outline.specs.declared.outline.Role.{Role}
use Rattle.ecore_outline.specs.declared.outline.Role.TheVariants.{Package, Class, Enum, Data, Literal, Attribute as AttributeRole, Reference, Super, TypeOf, Stray}
use Rattle.ecore_outline.specs.Outline.{Entry, entry, is_class_role, is_feature_role, name_of, count}
use Rattle.xmi_text.specs.Fragments.{names_file}
use Rattle.ecore_names.specs.References.{class_named}
use Rattle.ecore_names.specs.Types.{DataType, local_type, foreign_type}
use Rattle.xmi_text.specs.Inheriting.{is_own_super, conforms}
use Rattle.ecore_rows.specs.Rows.{Typed, ByData, ByClass, Foreign, Untyped, FeatureRow, or_foreign, foreign_word, by_data, by_class, is_foreign_data, attribute_typed, reference_typed, attribute_child_typed, reference_child_typed, text_typed, child_typed, type_behind, is_type_role, ends_feature, href, typed, super_words, super_numbers, feature_rows_from, feature_rows, is_unnamed, twice_from}
use Rattle.ecore_faults.specs.declared.fault.Kind.{Kind}
use Rattle.ecore_faults.specs.declared.fault.Kind.TheVariants.{NotEcore, SubPackage as IsSubPackage, Generic, NoName, TwiceName, OtherFile, NoType, SuperCycle, BadOpposite, BadNumber}
use Rattle.ecore_faults.specs.Faults.{Fault, when, or_else, first_of, is_not_ecore, is_sub_role, is_named_role, generic_in, is_bad_number, number_fault, typed_fault, feature_type_fault, last_feature, supers_fault, type_fault, is_bad_opposite, is_reference_role, opposite_fault, twice_fault, cycle_fault, fault_at, fault_from, first_fault}
use Rattle.ecore_outline.specs.Texts.{AreAttributeTexts, AreNameTexts, IsElementText, AreTexts}
use Rattle.xmi_text.proofs.TextWords.{AreWordTexts, words_are_texts}
use Rattle.xmi_read.proofs.TextsOf.{given_is_text, name_is_text}

abbrev pub IsTextFault : Option Fault → Type 0
IsTextFault (Some f) = IsXmlText f.1
IsTextFault None = Unit {0}

text_when : (b : Bool) (kind : Kind) (value : List ℕ) → IsXmlText value → IsTextFault (when b kind value)
text_when true kind value h = h
text_when false kind value h = tt

text_else : (f g : Option Fault) → IsTextFault f → IsTextFault g → IsTextFault (or_else f g)
text_else (Some f) g h k = h
text_else None g h k = k

-- ## Generics and numbers

attribute_name : (p : Attribute → Bool) (list : List Attribute) → AreAttributeTexts list → IsTextFault (option_map (λ n. (Generic, n)) (option_map (λ a. a.name) (find p list)))
attribute_name p [] h = tt
attribute_name p (a ∷ list) h = by (p a) (attribute_name p list h.1)
  where
    by : (b : Bool) → IsTextFault (option_map (λ n. (Generic, n)) (option_map (λ a. a.name) (find p list)))
        → IsTextFault (option_map (λ n. (Generic, n)) (option_map (λ a. a.name) (cond b (Some a) (find p list))))
    by true k = h.0.0
    by false k = k

child_name : (p : Element → Bool) (list : List Element) → AreNameTexts list → IsTextFault (option_map (λ n. (Generic, n)) (option_map (λ c. c.name) (find p list)))
child_name p [] h = tt
child_name p (e ∷ list) h = by (p e) (child_name p list h.1)
  where
    by : (b : Bool) → IsTextFault (option_map (λ n. (Generic, n)) (option_map (λ c. c.name) (find p list)))
        → IsTextFault (option_map (λ n. (Generic, n)) (option_map (λ c. c.name) (cond b (Some e) (find p list))))
    by true k = h.0
    by false k = k

generics : (e : Element) → IsElementText e → IsTextFault (generic_in e)
generics e h = text_else _ _ (attribute_name _ e.attributes h.attributes) (child_name _ (sub_elements e.children) h.children)

numbers : (p : Attribute → Bool) (list : List Attribute) → AreAttributeTexts list → IsTextFault (option_map (λ a. (BadNumber, a.value)) (find p list))
numbers p [] h = tt
numbers p (a ∷ list) h = by (p a) (numbers p list h.1)
  where
    by : (b : Bool) → IsTextFault (option_map (λ a. (BadNumber, a.value)) (find p list)) → IsTextFault (option_map (λ a. (BadNumber, a.value)) (cond b (Some a) (find p list)))
    by true k = h.0.1
    by false k = k

-- ## Words

found_word : (kind : Kind) (p : List ℕ → Bool) (words : List (List ℕ)) → AreWordTexts words → IsTextFault (option_map (λ w. (kind, w)) (find p words))
found_word kind p [] h = tt
found_word kind p (w ∷ words) h = by (p w) (found_word kind p words h.1)
  where
    by : (b : Bool) → IsTextFault (option_map (λ w. (kind, w)) (find p words)) → IsTextFault (option_map (λ w. (kind, w)) (cond b (Some w) (find p words)))
    by true k = h.0
    by false k = k

-- ## Names that are seen twice

abbrev AreRowTexts : List FeatureRow → Type 0
AreRowTexts [] = Unit {0}
AreRowTexts (row ∷ rows) = IsElementText row.entry.site.element × AreRowTexts rows

module _ (file : List Entry) where
  row_texts : (classes : ℕ) (es : List Entry) → AreTexts es → AreRowTexts (feature_rows_from file classes es)
  row_texts classes [] h = tt
  row_texts classes (e ∷ es) h = by (is_feature_role e.role) (row_texts classes es h.1) (row_texts (if is_class_role e.role then suc classes else classes) es h.1)
    where
      by : (b : Bool) → AreRowTexts (feature_rows_from file classes es) → AreRowTexts (feature_rows_from file (if is_class_role e.role then suc classes else classes) es)
          → AreRowTexts (if b then record { entry = e; owner = classes - 1; type = typed file e es } ∷ feature_rows_from file classes es else feature_rows_from file (if is_class_role e.role then suc classes else classes) es)
      by true k m = (h.0, k)
      by false k m = m

  twice : (supers : List (List ℕ)) (class : ℕ) (seen : List (List ℕ)) (rows : List FeatureRow) → AreRowTexts rows → IsTextFault (option_map (λ n. (TwiceName, n)) (twice_from supers class seen rows))
  twice supers class seen [] h = tt
  twice supers class seen (row ∷ rows) h =
      by (conforms supers class row.owner && not (is_unnamed (name_of row.entry))) (list_any (bytes_eq (name_of row.entry)) seen)
      (twice supers class (name_of row.entry ∷ seen) rows h.1) (twice supers class seen rows h.1)
    where
      by : (a b : Bool) → IsTextFault (option_map (λ n. (TwiceName, n)) (twice_from supers class (name_of row.entry ∷ seen) rows)) → IsTextFault (option_map (λ n. (TwiceName, n)) (twice_from supers class seen rows))
          → IsTextFault (option_map (λ n. (TwiceName, n)) (if a then (if b then Some (name_of row.entry) else twice_from supers class (name_of row.entry ∷ seen) rows) else twice_from supers class seen rows))
      by true true k m = name_is_text row.entry h.0
      by true false k m = k
      by false b k m = m

  -- ## Types

  abbrev IsTextTyped : Typed → Type 0
  IsTextTyped (Foreign word) = IsXmlText word
  IsTextTyped (Untyped text) = IsXmlText text
  IsTextTyped t = Unit {0}

  typed_text : (t : Typed) → IsTextTyped t → IsTextFault (typed_fault file t)
  typed_text (Foreign word) h = h
  typed_text (Untyped text) h = h
  typed_text (ByData t) h = tt
  typed_text (ByClass c) h = tt

  foreign_or : (words : List (List ℕ)) (text : List ℕ) → IsXmlText text → AreWordTexts words → IsTextTyped (or_foreign words text)
  foreign_or [] text h k = h
  foreign_or (w ∷ words) text h k = by (names_file w) (foreign_or words text h k.1)
    where
      by : (b : Bool) → IsTextTyped (option_map_or Foreign (foreign_word words) (Untyped text)) → IsTextTyped (option_map_or Foreign (cond b (Some w) (foreign_word words)) (Untyped text))
      by true m = k.0
      by false m = m

  by_data_text : (text : List ℕ) (o : Option DataType) → IsXmlText text → IsTextTyped (by_data text o)
  by_data_text text (Some t) h = tt
  by_data_text text None h = h

  by_class_text : (text : List ℕ) (o : Option ℕ) → IsXmlText text → IsTextTyped (by_class text o)
  by_class_text text (Some c) h = tt
  by_class_text text None h = h

  attribute_words : (scope : List Prefix) (text : List ℕ) (words : List (List ℕ)) → IsXmlText text → AreWordTexts words → IsTextTyped (attribute_typed file scope text words)
  attribute_words scope text [] h k = foreign_or [] text h k
  attribute_words scope text (w ∷ []) h k = by (names_file w) (by_data_text text (local_type file w) h)
    where
      by : (b : Bool) → IsTextTyped (by_data text (local_type file w)) → IsTextTyped (if b then Foreign w else by_data text (local_type file w))
      by true m = k.0
      by false m = m
  attribute_words scope text (a ∷ (b ∷ [])) h k = by (is_foreign_data scope a b) (foreign_or (a ∷ (b ∷ [])) text h k)
    where
      by : (t : Bool) → IsTextTyped (or_foreign (a ∷ (b ∷ [])) text) → IsTextTyped (if t then ByData (foreign_type b) else or_foreign (a ∷ (b ∷ [])) text)
      by true m = tt
      by false m = m
  attribute_words scope text (a ∷ (b ∷ (c ∷ words))) h k = foreign_or (a ∷ (b ∷ (c ∷ words))) text h k

  reference_words : (scope : List Prefix) (text : List ℕ) (words : List (List ℕ)) → IsXmlText text → AreWordTexts words → IsTextTyped (reference_typed file scope text words)
  reference_words scope text [] h k = foreign_or [] text h k
  reference_words scope text (w ∷ []) h k = by (names_file w) (by_class_text text (class_named file w) h)
    where
      by : (b : Bool) → IsTextTyped (by_class text (class_named file w)) → IsTextTyped (if b then Foreign w else by_class text (class_named file w))
      by true m = k.0
      by false m = m
  reference_words scope text (a ∷ (b ∷ [])) h k = by (is_foreign_data scope a b) (foreign_or (a ∷ (b ∷ [])) text h k)
    where
      by : (t : Bool) → IsTextTyped (or_foreign (a ∷ (b ∷ [])) text) → IsTextTyped (if t then Untyped text else or_foreign (a ∷ (b ∷ [])) text)
      by true m = h
      by false m = m
  reference_words scope text (a ∷ (b ∷ (c ∷ words))) h k = foreign_or (a ∷ (b ∷ (c ∷ words))) text h k

  text_typed_text : (r : Role) (scope : List Prefix) (text : List ℕ) → IsXmlText text → IsTextTyped (text_typed r file scope text)
  text_typed_text AttributeRole scope text h = attribute_words scope text (words_of text) h (words_are_texts text h)
  text_typed_text r scope text h = reference_words scope text (words_of text) h (words_are_texts text h)

  attribute_child : (word : List ℕ) → IsXmlText word → IsTextTyped (attribute_child_typed file word)
  attribute_child word h = by (names_file word) (by_data_text word (local_type file word) h)
    where
      by : (b : Bool) → IsTextTyped (by_data word (local_type file word)) → IsTextTyped (if b then ByData (foreign_type word) else by_data word (local_type file word))
      by true m = tt
      by false m = m

  reference_child : (word : List ℕ) → IsXmlText word → IsTextTyped (reference_child_typed file word)
  reference_child word h = by (names_file word) (by_class_text word (class_named file word) h)
    where
      by : (b : Bool) → IsTextTyped (by_class word (class_named file word)) → IsTextTyped (if b then Foreign word else by_class word (class_named file word))
      by true m = h
      by false m = m

  child_typed_text : (r : Role) (word : List ℕ) → IsXmlText word → IsTextTyped (child_typed r file word)
  child_typed_text AttributeRole word h = attribute_child word h
  child_typed_text r word h = reference_child word h

  href_is_text : (e : Entry) → IsElementText e.site.element → IsXmlText (href e)
  href_is_text e h = given_is_text (codes "href") e.site.element h

  behind_text : (behind : List Entry) → AreTexts behind → IsXmlText (or_empty (type_behind behind))
  behind_text [] h = IsXmlText-nil
  behind_text (e ∷ es) h = by (is_type_role e.role) (ends_feature e.role) (behind_text es h.1)
    where
      by : (t u : Bool) → IsXmlText (or_empty (type_behind es)) → IsXmlText (or_empty (if t then Some (href e) else if u then None else type_behind es))
      by true u k = href_is_text e h.0
      by false true k = IsXmlText-nil
      by false false k = k

  feature_text : (e : Entry) (behind : List Entry) → IsElementText e.site.element → AreTexts behind → IsTextTyped (typed file e behind)
  feature_text e behind h k = by (given (codes "eType") e.site.element) (type_behind behind) (given_is_text (codes "eType") e.site.element h) (behind_text behind k)
    where
      by : (o p : Option (List ℕ)) → IsXmlText (or_empty o) → IsXmlText (or_empty p) → IsTextTyped (option_map_or (text_typed e.role file e.site.scope) o (option_map_or (child_typed e.role file) p (Untyped [])))
      by (Some text) p m n = text_typed_text e.role e.site.scope text m
      by None (Some word) m n = child_typed_text e.role word n
      by None None m n = IsXmlText-nil

  of_feature : (e : Entry) (behind : List Entry) → IsElementText e.site.element → AreTexts behind → IsTextFault (feature_type_fault file e behind)
  of_feature e behind h k = by (is_none (given (codes "eType") e.site.element) && is_some (type_behind behind)) (typed_text (typed file e behind) (feature_text e behind h k))
    where
      by : (b : Bool) → IsTextFault (typed_fault file (typed file e behind)) → IsTextFault (if b then None else typed_fault file (typed file e behind))
      by true m = tt
      by false m = m

  of_supers : (words : List (List ℕ)) → AreWordTexts words → IsTextFault (supers_fault file words)
  of_supers words h = text_else _ _ (found_word OtherFile names_file words h) (found_word NoType _ words h)

  types : (before : List Entry) (r : Role) (s : Site) (behind : List Entry) → IsElementText s.element → AreTexts behind → IsTextFault (type_fault file before (entry r s) behind)
  types before Class s behind h k = of_supers (super_words (entry Class s)) (words_are_texts (or_empty (given (codes "eSuperTypes") s.element)) (given_is_text (codes "eSuperTypes") s.element h))
  types before Super s behind h k = of_supers (href (entry Super s) ∷ []) (href_is_text (entry Super s) h, tt)
  types before TypeOf s behind h k = typed_text _ (child_typed_text (last_feature file Stray before) (href (entry TypeOf s)) (href_is_text (entry TypeOf s) h))
  types before AttributeRole s behind h k = of_feature (entry AttributeRole s) behind h k
  types before Reference s behind h k = of_feature (entry Reference s) behind h k
  types before r s behind h k = tt

  -- ## The others

  twice_text : (texts : AreTexts file) (before : List Entry) (r : Role) (s : Site) → IsElementText s.element → IsTextFault (twice_fault file before (entry r s))
  twice_text texts before Package s h = text_when _ TwiceName _ (name_is_text (entry Package s) h)
  twice_text texts before Class s h =
      text_else _ _ (text_when _ TwiceName _ (name_is_text (entry Class s) h))
      (twice (super_numbers file) (count is_class_role before) [] (feature_rows file) (row_texts 0 file texts))
  twice_text texts before Enum s h = text_when _ TwiceName _ (name_is_text (entry Enum s) h)
  twice_text texts before Data s h = text_when _ TwiceName _ (name_is_text (entry Data s) h)
  twice_text texts before Literal s h = text_when _ TwiceName _ (name_is_text (entry Literal s) h)
  twice_text texts before r s h = tt

  opposite : (before : List Entry) (e : Entry) → IsElementText e.site.element → IsTextFault (opposite_fault file before e)
  opposite before e h = by (is_reference_role e.role) (slice_get (feature_rows file) (count is_feature_role before))
    where
      by : (b : Bool) (o : Option FeatureRow) → IsTextFault (if b then option_map_or (λ row. when (is_bad_opposite file (count is_feature_role before) row) BadOpposite (name_of e)) o None else None)
      by true (Some row) = text_when _ BadOpposite _ (name_is_text e h)
      by true None = tt
      by false o = tt

  abbrev AreTextFaults : List (Option Fault) → Type 0
  AreTextFaults [] = Unit {0}
  AreTextFaults (f ∷ fs) = IsTextFault f × AreTextFaults fs

  first_is : (fs : List (Option Fault)) → AreTextFaults fs → IsTextFault (first_of fs)
  first_is [] h = tt
  first_is (f ∷ fs) h = text_else f (first_of fs) h.0 (first_is fs h.1)

  abbrev faults : List Entry → Entry → List Entry → List (Option Fault)
  faults before e behind =
      when (is_not_ecore e behind) NotEcore e.site.element.name
      ∷ when (is_sub_role e.role) IsSubPackage e.site.element.name
      ∷ generic_in e.site.element
      ∷ when (is_named_role e.role && bytes_eq (name_of e) []) NoName e.site.element.name
      ∷ twice_fault file before e
      ∷ type_fault file before e behind
      ∷ cycle_fault file before e
      ∷ opposite_fault file before e
      ∷ number_fault file e.role (typed file e behind) e.site.element
      ∷ []

  at : (texts : AreTexts file) (before : List Entry) (e : Entry) (behind : List Entry) → IsElementText e.site.element → AreTexts behind → IsTextFault (fault_at file before e behind)
  at texts before e behind h k = first_is (faults before e behind) (
    text_when (is_not_ecore e behind) NotEcore e.site.element.name h.name,
    (
      text_when (is_sub_role e.role) IsSubPackage e.site.element.name h.name,
      (
        generics e.site.element h,
        (
          text_when (is_named_role e.role && bytes_eq (name_of e) []) NoName e.site.element.name h.name,
          (
            twice_text texts before e.role e.site h,
            (
              types before e.role e.site behind h k,
              (
                text_when (is_class_role e.role && is_own_super (super_numbers file) (count is_class_role before)) SuperCycle (name_of e) (name_is_text e h),
                (
                  opposite before e h,
                  (
                    numbers (is_bad_number file e.role (typed file e behind)) e.site.element.attributes h.attributes,
                    tt,
                  ),
                ),
              ),
            ),
          ),
        ),
      ),
    ),
  )

  abbrev IsTextFound : Option (Fault × Place) → Type 0
  IsTextFound (Some f) = IsXmlText f.0.1
  IsTextFound None = Unit {0}

  from : (texts : AreTexts file) (before behind : List Entry) → AreTexts behind → IsTextFound (fault_from file before behind)
  from texts before [] h = tt
  from texts before (e ∷ behind) h = by (fault_at file before e behind) (at texts before e behind h.0 h.1) (from texts (before ++ (e ∷ [])) behind h.1)
    where
      by : (o : Option Fault) → IsTextFault o → IsTextFound (fault_from file (before ++ (e ∷ [])) behind) → IsTextFound (option_map_or (λ f. Some (f, e.site.element.place)) o (fault_from file (before ++ (e ∷ [])) behind))
      by (Some f) k m = k
      by None k m = m

  pub value_is_xml : AreTexts file → (f : Fault × Place) → first_fault file ≡ Some f → IsXmlText f.0.1
  value_is_xml texts f h = subst IsTextFound h (from texts [] file texts)
