-- The types of features are in the lists, and each default of a type is a text of it.
use Rattle.std.proofs.Common.{◌≡◌, ℕ, ◌<◌, ◌≤◌, List, [], ◌∷◌, length, get_or, map, refl, sym, ap, ◌∙◌, subst, inl, inr, ⊎_elim, arith}
use Rattle.std.specs.Prelude.{Bool, true, false, cond, ◌&&◌, ◌==◌, nat_lt, nat_le, bytes_eq, codes, Option, Some, None, IfSome, find, slice_get, Contains, if◌then◌else◌}
use Rattle.std.specs.Option.{option_map_or}
use Rattle.std.proofs.lemmas.Bool.{and_parts, or_cases, eqb-true, leb-true, ltb-true}
use Rattle.std.proofs.lemmas.List.Folds.{Any-from_list_any}
use Rattle.std.proofs.lemmas.Option.{none-some, same_Some, slice_get_cases}
use Rattle.std.proofs.lemmas.Slice.Eq.{bytes_eq-Decides}
use Rattle.doc_text.specs.declared.tree.Element.{Element}
use Rattle.doc_text.specs.declared.tree.Prefix.{Prefix}
use Rattle.ecore_meta.specs.declared.parts.EnumDef.{EnumDef}
use Rattle.ecore_meta.specs.declared.parts.FeatKind.{FeatKind}
use Rattle.ecore_meta.specs.declared.parts.FeatKind.TheVariants.{Str, Int, Truth, Enum, Opaque, Refer}
use Rattle.ecore_meta.specs.Valid.{IsDigits, IsIntText, IsTextOf, IsKindWithin, is_reference, number_of}
use Rattle.xmi_text.specs.Markup.{Site, given, or_empty, words_of, ecore_space}
use Rattle.ecore_outline.specs.declared.outline.Role.TheVariants.{Attribute, Reference}
use Rattle.ecore_outline.specs.Outline.{Entry, entry, is_enum_role, count}
use Rattle.xmi_text.specs.Fragments.{names_file, file_of, behind_hash, behind_slashes}
use Rattle.ecore_names.specs.References.{Target, OfClass, OfEnum, OfData, local_target, class_named}
use Rattle.ecore_outline.specs.Enumerations.{literal_text, literals_of, first_text}
use Rattle.ecore_names.specs.Types.{DataType, plain, with_default, typed_by, ecore_types, instance_types, named_types, own_type, foreign_type, type_of_target, local_type}
use Rattle.ecore_rows.specs.Rows.{Typed, ByData, ByClass, Foreign, Untyped, or_foreign, foreign_word, by_data, by_class, is_foreign_data, attribute_typed, reference_typed, attribute_child_typed, reference_child_typed, text_typed, child_typed, type_behind, typed}
use Rattle.xmi_read.specs.Parts.{literal_of}
use Rattle.xmi_text.specs.Numbers.{is_digits, is_int_text}
use Rattle.ecore_faults.specs.Faults.{is_text_of}
use Rattle.xmi_text.proofs.Lists.{map-map, to_map}
use Rattle.xmi_read.proofs.Naming.{differ}
use Rattle.ecore_outline.proofs.Splits.{rows, row_at}
use Rattle.xmi_read.proofs.Tables.{tables, enum_made, class_count, enum_count}
use Rattle.ecore_names.proofs.Targets.{then_some, local_within, class_named_within}
use Rattle.xmi_text.proofs.Tests.{true-false, false-true}

-- ## Texts of numbers

digits_are : (text : List ℕ) → is_digits text ≡ true → IsDigits text
digits_are [] h = absurd (false-true h)
digits_are (c ∷ cs) h = record { some = differ (c ∷ cs) [] refl; digits = h }

int_is : (text : List ℕ) → is_int_text text ≡ true → IsIntText text
int_is [] h = absurd (false-true h)
int_is (c ∷ cs) h = by (c == 45) refl h
  where
    by : (t : Bool) → (c == 45) ≡ t → (if t then is_digits cs && nat_le (number_of cs) 9223372036854775808 else is_digits (c ∷ cs) && nat_lt (number_of (c ∷ cs)) 9223372036854775808) ≡ true → IsIntText (c ∷ cs)
    by true e h =
        let p = and_parts (is_digits cs) (nat_le (number_of cs) 9223372036854775808) h in
        inr (cs, ap (λ b. b ∷ cs) (eqb-true c 45 e), digits_are cs p.0, leb-true (number_of cs) 9223372036854775808 p.1)
    by false e h =
        let p = and_parts (is_digits (c ∷ cs)) (nat_lt (number_of (c ∷ cs)) 9223372036854775808) h in
        inl (digits_are (c ∷ cs) p.0, ltb-true (number_of (c ∷ cs)) 9223372036854775808 p.1)

module _ (file : List Entry) where
  -- ## Enumerations

  abbrev texts : ℕ → List (List ℕ)
  texts n = map (λ l. l.text) (option_map_or (λ d. d.literals) (slice_get (tables file).enums n) [])

  texts_are : (n : ℕ) → n < length (tables file).enums → texts n ≡ map literal_text (literals_of file n)
  texts_are n h = ⊎_elim
      (λ (r : (x : EnumDef) × (n < length (tables file).enums) × (slice_get (tables file).enums n ≡ Some x) × (get_or (tables file).enums n x ≡ x)).
      let w = row_at is_enum_role (enum_made file) [] file n r.0 r.2 in
      ap (λ o. map (λ l. l.text) (option_map_or (λ d. d.literals) o [])) r.2
      ∙ ap (λ (d : EnumDef). map (λ l. l.text) d.literals) w.made
      ∙ map-map (λ l. l.text) (literal_of file) (literals_of file (count is_enum_role w.before))
      ∙ ap (λ k. map literal_text (literals_of file k)) w.number)
      (λ (r : (length (tables file).enums ≤ n) × (slice_get (tables file).enums n ≡ None)). absurd (omega (arith, r.0)))
      (slice_get_cases (tables file).enums n).1

  -- ## Texts of a type

  pub text_is : (k : FeatKind) (text : List ℕ) → is_reference k ≡ false → IsKindWithin (tables file) k → is_text_of file k text ≡ true → IsTextOf (tables file) k text
  text_is Str text d w h = tt
  text_is Int text d w h = int_is text h
  text_is Truth text d w h = ⊎_elim
      (λ (e : bytes_eq text (codes "true") ≡ true). inl ((bytes_eq-Decides text (codes "true")).0 e))
      (λ (e : bytes_eq text (codes "false") ≡ true). inr ((bytes_eq-Decides text (codes "false")).0 e))
      (or_cases (bytes_eq text (codes "true")) (bytes_eq text (codes "false")) h)
  text_is (Enum n) text d w h =
      let found = Any-from_list_any (λ l. bytes_eq (literal_text l) text) (literals_of file n) h in
      let same : literal_text found.1 ≡ text = (bytes_eq-Decides (literal_text found.1) text).0 found.4 in
      subst (λ l. Contains l text) (sym (texts_are n w))
      (subst (Contains (map literal_text (literals_of file n))) same (to_map literal_text (literals_of file n) found.1 (found.0, found.2, found.3)))
  text_is Opaque text d w h = tt
  text_is (Refer class contains opposite) text d w h = absurd (true-false d)

  -- ## Data types

  pub record IsSound (t : DataType) : Type 0 where
    pub within : IsKindWithin (tables file) t.kind
    pub default : IfSome t.default (IsTextOf (tables file) t.kind)
    pub data_type : is_reference t.kind ≡ false

  abbrev AreSound : List (List ℕ × DataType) → Type 0
  AreSound [] = Unit {0}
  AreSound (row ∷ rows) = IsSound row.1 × AreSound rows

  opaque_sound : IsSound (plain Opaque)
  opaque_sound = record { within = tt; default = tt; data_type = refl }

  text_sound : IsSound (plain Str)
  text_sound = record { within = tt; default = tt; data_type = refl }

  int_sound : IsSound (plain Int)
  int_sound = record { within = tt; default = tt; data_type = refl }

  truth_sound : IsSound (plain Truth)
  truth_sound = record { within = tt; default = tt; data_type = refl }

  zeros_sound : IsSound (with_default Int (codes "0"))
  zeros_sound = record { within = tt; default = int_is (codes "0") refl; data_type = refl }

  wrong_sound : IsSound (with_default Truth (codes "false"))
  wrong_sound = record { within = tt; default = inr refl; data_type = refl }

  typed_by_sound : (rows : List (List ℕ × DataType)) (name : List ℕ) → AreSound rows → IsSound (typed_by rows name)
  typed_by_sound [] name h = opaque_sound
  typed_by_sound (row ∷ rows) name h = by (bytes_eq row.0 name) h.0 (typed_by_sound rows name h.1)
    where
      by : (b : Bool) → IsSound row.1 → IsSound (typed_by rows name) → IsSound (option_map_or (λ row. row.1) (cond b (Some row) (find (λ row. bytes_eq row.0 name) rows)) (plain Opaque))
      by true h k = h
      by false h k = k

  ecore_sound : AreSound ecore_types
  unfolding ecore_types
  ecore_sound = (text_sound, (zeros_sound, (zeros_sound, (zeros_sound, (zeros_sound, (int_sound, (int_sound, (int_sound, (int_sound, (int_sound, (wrong_sound, (truth_sound, tt))))))))))))

  instance_sound : AreSound instance_types
  unfolding instance_types
  instance_sound = (text_sound, (zeros_sound, (zeros_sound, (zeros_sound, (zeros_sound, (int_sound, (int_sound, (int_sound, (int_sound, (wrong_sound, (truth_sound, tt)))))))))))

  named_sound : AreSound named_types
  unfolding named_types
  named_sound = (text_sound, (int_sound, (truth_sound, tt)))

  foreign_sound : (word : List ℕ) → IsSound (foreign_type word)
  foreign_sound word = by (bytes_eq (file_of word) ecore_space)
    where
      by : (b : Bool) → IsSound (if b then typed_by ecore_types (behind_slashes (behind_hash word)) else plain Opaque)
      by true = typed_by_sound ecore_types (behind_slashes (behind_hash word)) ecore_sound
      by false = opaque_sound

  own_sound : (e : Element) → IsSound (own_type e)
  own_sound e = by (given (codes "instanceClassName") e)
    where
      by : (o : Option (List ℕ)) → IsSound (option_map_or (typed_by instance_types) o (typed_by named_types (or_empty (given (codes "name") e))))
      by (Some name) = typed_by_sound instance_types name instance_sound
      by None = typed_by_sound named_types (or_empty (given (codes "name") e)) named_sound

  enum_sound : (n : ℕ) → n < count is_enum_role file → IsSound (record { kind = Enum n; default = first_text (literals_of file n) })
  enum_sound n h =
      let here : n < length (tables file).enums = subst (λ k. n < k) (sym (enum_count file)) h in
      record {
        within = here;
        default = subst (λ l. IfSome (first_text (literals_of file n)) (Contains l)) (sym (texts_are n here)) (first (literals_of file n));
        data_type = refl;
      }
    where
      first : (list : List Entry) → IfSome (first_text list) (Contains (map literal_text list))
      first [] = tt
      first (l ∷ list) = (0, omega arith, refl)

  local_sound : (word : List ℕ) (t : DataType) → local_type file word ≡ Some t → IsSound t
  local_sound word t h =
      let r = then_some (local_target file word) (type_of_target file) t h in
      by r.0 r.1 r.2
    where
      by : (x : Target) → local_target file word ≡ Some x → type_of_target file x ≡ Some t → IsSound t
      by (OfClass c) e k = absurd (none-some t k)
      by (OfEnum n) e k = subst IsSound (same_Some _ t k) (enum_sound n (local_within file word (OfEnum n) e))
      by (OfData d) e k = subst IsSound (same_Some (own_type d) t k) (own_sound d)

  -- ## What a feature's type is

  abbrev pub AttributeFits : Typed → Type 0
  AttributeFits (ByData t) = IsSound t
  AttributeFits (ByClass c) = ⊥
  AttributeFits t = Unit {0}

  abbrev pub ReferenceFits : Typed → Type 0
  ReferenceFits (ByData t) = ⊥
  ReferenceFits (ByClass c) = c < length (tables file).classes
  ReferenceFits t = Unit {0}

  foreign_attribute : (o : Option (List ℕ)) (text : List ℕ) → AttributeFits (option_map_or Foreign o (Untyped text))
  foreign_attribute (Some w) text = tt
  foreign_attribute None text = tt

  foreign_reference : (o : Option (List ℕ)) (text : List ℕ) → ReferenceFits (option_map_or Foreign o (Untyped text))
  foreign_reference (Some w) text = tt
  foreign_reference None text = tt

  data_fits : (text word : List ℕ) (o : Option DataType) → local_type file word ≡ o → AttributeFits (by_data text o)
  data_fits text word (Some t) h = local_sound word t h
  data_fits text word None h = tt

  class_fits : (text word : List ℕ) (o : Option ℕ) → class_named file word ≡ o → ReferenceFits (by_class text o)
  class_fits text word (Some c) h = subst (λ n. c < n) (sym (class_count file)) (class_named_within file word c h)
  class_fits text word None h = tt

  attribute_text : (scope : List Prefix) (text : List ℕ) (words : List (List ℕ)) → AttributeFits (attribute_typed file scope text words)
  attribute_text scope text [] = foreign_attribute (foreign_word []) text
  attribute_text scope text (w ∷ []) = by (names_file w) (data_fits text w (local_type file w) refl)
    where
      by : (b : Bool) → AttributeFits (by_data text (local_type file w)) → AttributeFits (if b then Foreign w else by_data text (local_type file w))
      by true h = tt
      by false h = h
  attribute_text scope text (a ∷ (b ∷ [])) = by (is_foreign_data scope a b)
    where
      by : (t : Bool) → AttributeFits (if t then ByData (foreign_type b) else or_foreign (a ∷ (b ∷ [])) text)
      by true = foreign_sound b
      by false = foreign_attribute (foreign_word (a ∷ (b ∷ []))) text
  attribute_text scope text (a ∷ (b ∷ (c ∷ words))) = foreign_attribute (foreign_word (a ∷ (b ∷ (c ∷ words)))) text

  reference_text : (scope : List Prefix) (text : List ℕ) (words : List (List ℕ)) → ReferenceFits (reference_typed file scope text words)
  reference_text scope text [] = foreign_reference (foreign_word []) text
  reference_text scope text (w ∷ []) = by (names_file w) (class_fits text w (class_named file w) refl)
    where
      by : (b : Bool) → ReferenceFits (by_class text (class_named file w)) → ReferenceFits (if b then Foreign w else by_class text (class_named file w))
      by true h = tt
      by false h = h
  reference_text scope text (a ∷ (b ∷ [])) = by (is_foreign_data scope a b)
    where
      by : (t : Bool) → ReferenceFits (if t then Untyped text else or_foreign (a ∷ (b ∷ [])) text)
      by true = tt
      by false = foreign_reference (foreign_word (a ∷ (b ∷ []))) text
  reference_text scope text (a ∷ (b ∷ (c ∷ words))) = foreign_reference (foreign_word (a ∷ (b ∷ (c ∷ words)))) text

  attribute_child : (word : List ℕ) → AttributeFits (attribute_child_typed file word)
  attribute_child word = by (names_file word) (data_fits word word (local_type file word) refl)
    where
      by : (b : Bool) → AttributeFits (by_data word (local_type file word)) → AttributeFits (if b then ByData (foreign_type word) else by_data word (local_type file word))
      by true h = foreign_sound word
      by false h = h

  reference_child : (word : List ℕ) → ReferenceFits (reference_child_typed file word)
  reference_child word = by (names_file word) (class_fits word word (class_named file word) refl)
    where
      by : (b : Bool) → ReferenceFits (by_class word (class_named file word)) → ReferenceFits (if b then Foreign word else by_class word (class_named file word))
      by true h = tt
      by false h = h

  pub attribute_fits : (s : Site) (behind : List Entry) → AttributeFits (typed file (entry Attribute s) behind)
  attribute_fits s behind = by (given (codes "eType") s.element) (type_behind behind)
    where
      by : (o p : Option (List ℕ)) → AttributeFits (option_map_or (text_typed Attribute file s.scope) o (option_map_or (child_typed Attribute file) p (Untyped [])))
      by (Some text) p = attribute_text s.scope text (words_of text)
      by None (Some word) = attribute_child word
      by None None = tt

  pub reference_fits : (s : Site) (behind : List Entry) → ReferenceFits (typed file (entry Reference s) behind)
  reference_fits s behind = by (given (codes "eType") s.element) (type_behind behind)
    where
      by : (o p : Option (List ℕ)) → ReferenceFits (option_map_or (text_typed Reference file s.scope) o (option_map_or (child_typed Reference file) p (Untyped [])))
      by (Some text) p = reference_text s.scope text (words_of text)
      by None (Some word) = reference_child word
      by None None = tt
