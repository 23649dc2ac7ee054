-- The classes and features of a file in their order, each with what belongs to it; the types of features; and names that a class
-- sees twice.
use Rattle.std.specs.Prelude.{ℕ, suc, ◌-◌, ◌&&◌, ◌||◌, not, Bool, true, false, List, [], ◌∷◌, ◌++◌, map, filter_map, find, codes, bytes_eq, Option, Some, None, if◌then◌else◌}
use Rattle.std.specs.Option.{option_map_or}
use Rattle.std.specs.List.{list_any}
use Rattle.doc_text.specs.declared.tree.Prefix.{Prefix}
use Rattle.xmi_text.specs.Markup.{given, or_empty, names, words_of}
use Rattle.ecore_outline.specs.declared.outline.Role.{Role}
use Rattle.ecore_outline.specs.declared.outline.Role.TheVariants.{Super, TypeOf, Attribute, Stray}
use Rattle.ecore_outline.specs.Outline.{Entry, is_package_role, is_class_role, is_classifier_role, is_feature_role, name_of}
use Rattle.xmi_text.specs.Fragments.{names_file}
use Rattle.ecore_names.specs.References.{class_named}
use Rattle.ecore_names.specs.Types.{DataType, foreign_type, local_type}
use Rattle.xmi_text.specs.Inheriting.{conforms}

abbrev pub is_super_role : Role → Bool
is_super_role Super = true
is_super_role r = false

-- what belongs to no class before it
abbrev pub ends_class : Role → Bool
ends_class r = is_package_role r || is_classifier_role r

abbrev pub href : Entry → List ℕ
href e = or_empty (given (codes "href") e.site.element)

-- the supertypes that the children of a class name
abbrev pub supers_behind : List Entry → List (List ℕ)
supers_behind [] = []
supers_behind (e ∷ es) = if ends_class e.role then [] else if is_super_role e.role then href e ∷ supers_behind es else supers_behind es

abbrev pub super_words : Entry → List (List ℕ)
super_words e = words_of (or_empty (given (codes "eSuperTypes") e.site.element))

-- ## Classes

pub record ClassRow : Type 0 where
  pub entry : Entry
  pub holder : ℕ
  pub supers : List (List ℕ)

abbrev pub class_rows_from : ℕ → List Entry → List ClassRow
class_rows_from packages [] = []
class_rows_from packages (e ∷ es) =
    if is_class_role e.role then record { entry = e; holder = packages - 1; supers = super_words e ++ supers_behind es } ∷ class_rows_from packages es
    else class_rows_from (if is_package_role e.role then suc packages else packages) es

abbrev pub class_rows : List Entry → List ClassRow
class_rows = class_rows_from 0

-- the supertypes of each class by their numbers
abbrev pub super_numbers : List Entry → List (List ℕ)
super_numbers file = map (λ row. filter_map (class_named file) row.supers) (class_rows file)

-- ## Features

abbrev pub is_type_role : Role → Bool
is_type_role TypeOf = true
is_type_role r = false

-- what belongs to no feature before it
abbrev pub ends_feature : Role → Bool
ends_feature Stray = false
ends_feature r = true

-- the child that names a feature's type
abbrev pub type_behind : List Entry → Option (List ℕ)
type_behind [] = None
type_behind (e ∷ es) = if is_type_role e.role then Some (href e) else if ends_feature e.role then None else type_behind es

-- ## What a type is

pub data Typed : Type 0 where
  -- of an attribute
  ByData : DataType → Typed
  -- of a reference, the number of its class
  ByClass : ℕ → Typed
  -- a class of another file
  Foreign : List ℕ → Typed
  -- it names no classifier of the sort that is needed
  Untyped : List ℕ → Typed

-- the first word that names a file
abbrev pub foreign_word : List (List ℕ) → Option (List ℕ)
foreign_word = find names_file

abbrev pub or_foreign : List (List ℕ) → List ℕ → Typed
or_foreign words text = option_map_or Foreign (foreign_word words) (Untyped text)

abbrev pub by_data : List ℕ → Option DataType → Typed
by_data text found = option_map_or ByData found (Untyped text)

abbrev pub by_class : List ℕ → Option ℕ → Typed
by_class text found = option_map_or ByClass found (Untyped text)

-- two words are a data type where the first is `EDataType` of Ecore and the second names a file
abbrev pub is_foreign_data : List Prefix → List ℕ → List ℕ → Bool
is_foreign_data scope sort reference = names scope sort (codes "EDataType") && names_file reference

-- the type that an attribute `eType` names
abbrev pub attribute_typed : List Entry → List Prefix → List ℕ → List (List ℕ) → Typed
attribute_typed file scope text (w ∷ []) = if names_file w then Foreign w else by_data text (local_type file w)
attribute_typed file scope text (a ∷ (b ∷ [])) = if is_foreign_data scope a b then ByData (foreign_type b) else or_foreign (a ∷ (b ∷ [])) text
attribute_typed file scope text words = or_foreign words text

abbrev pub reference_typed : List Entry → List Prefix → List ℕ → List (List ℕ) → Typed
reference_typed file scope text (w ∷ []) = if names_file w then Foreign w else by_class text (class_named file w)
reference_typed file scope text (a ∷ (b ∷ [])) = if is_foreign_data scope a b then Untyped text else or_foreign (a ∷ (b ∷ [])) text
reference_typed file scope text words = or_foreign words text

-- the type that a child names
abbrev pub attribute_child_typed : List Entry → List ℕ → Typed
attribute_child_typed file word = if names_file word then ByData (foreign_type word) else by_data word (local_type file word)

abbrev pub reference_child_typed : List Entry → List ℕ → Typed
reference_child_typed file word = if names_file word then Foreign word else by_class word (class_named file word)

abbrev pub child_typed : Role → List Entry → List ℕ → Typed
child_typed Attribute = attribute_child_typed
child_typed r = reference_child_typed

abbrev pub text_typed : Role → List Entry → List Prefix → List ℕ → Typed
text_typed Attribute file scope text = attribute_typed file scope text (words_of text)
text_typed r file scope text = reference_typed file scope text (words_of text)

-- the type of a feature with these children; of none it has no text
abbrev pub typed : List Entry → Entry → List Entry → Typed
typed file e behind =
    option_map_or (text_typed e.role file e.site.scope) (given (codes "eType") e.site.element)
    (option_map_or (child_typed e.role file) (type_behind behind) (Untyped []))

pub record FeatureRow : Type 0 where
  pub entry : Entry
  pub owner : ℕ
  pub type : Typed

abbrev pub feature_rows_from : List Entry → ℕ → List Entry → List FeatureRow
feature_rows_from file classes [] = []
feature_rows_from file classes (e ∷ es) =
    if is_feature_role e.role then record { entry = e; owner = classes - 1; type = typed file e es } ∷ feature_rows_from file classes es
    else feature_rows_from file (if is_class_role e.role then suc classes else classes) es

abbrev pub feature_rows : List Entry → List FeatureRow
feature_rows file = feature_rows_from file 0 file

-- ## Names that stand twice

-- The first feature that is seen in a class and bears a name that one before it bears there; no name is not twice.
abbrev pub is_unnamed : List ℕ → Bool
is_unnamed name = bytes_eq name []

abbrev pub twice_from : List (List ℕ) → ℕ → List (List ℕ) → List FeatureRow → Option (List ℕ)
twice_from supers class seen [] = None
twice_from supers class seen (row ∷ rows) =
    if conforms supers class row.owner && not (is_unnamed (name_of row.entry))
    then (if list_any (bytes_eq (name_of row.entry)) seen then Some (name_of row.entry) else twice_from supers class (name_of row.entry ∷ seen) rows)
    else twice_from supers class seen rows

abbrev pub twice_seen : List Entry → ℕ → Option (List ℕ)
twice_seen file class = twice_from (super_numbers file) class [] (feature_rows file)
