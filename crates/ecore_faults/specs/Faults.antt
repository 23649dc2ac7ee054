-- What is wrong at an element, of each kind at most one thing; and the first thing that is wrong in a file.
use Rattle.std.specs.Prelude.{ℕ, ◌-◌, ◌==◌, ◌&&◌, ◌||◌, not, Bool, true, false, List, [], ◌∷◌, ◌++◌, find, codes, bytes_eq, Option, Some, None, option_map, is_some, is_none, slice_get, if◌then◌else◌}
use Rattle.std.specs.Option.{option_map_or}
use Rattle.std.specs.List.{list_any}
use Rattle.atl_base.specs.declared.place.Place.{Place}
use Rattle.doc_text.specs.declared.tree.Attribute.{Attribute}
use Rattle.doc_text.specs.declared.tree.Element.{Element}
use Rattle.ecore_meta.specs.declared.parts.FeatKind.{FeatKind}
use Rattle.ecore_meta.specs.declared.parts.FeatKind.TheVariants.{Int, Truth, Enum}
pub use Rattle.ecore_faults.specs.declared.fault.Kind.{Kind}
pub use Rattle.ecore_faults.specs.declared.fault.Kind.TheVariants.{NotEcore, SubPackage as IsSubPackage, Generic, NoName, TwiceName, OtherFile, NoType, SuperCycle, BadOpposite, BadNumber}
use Rattle.xmi_text.specs.Markup.{given, flag, is_bad_flag, has_text, sub_elements}
use Rattle.ecore_outline.specs.declared.outline.Role.{Role}
use Rattle.ecore_outline.specs.declared.outline.Role.TheVariants.{Around, Package, Class, Enum as EnumRole, Data, Literal, Attribute as AttributeRole, Reference, SkippedAttribute, SkippedReference, Super, TypeOf, SkippedType, SubPackage, Stray}
use Rattle.ecore_outline.specs.Outline.{Entry, is_generic, is_package_role, is_class_role, is_enum_role, is_classifier_role, is_feature_role, count, name_of}
use Rattle.ecore_names.specs.References.{class_named, feature_named, Own, Kept, Skips}
use Rattle.ecore_outline.specs.Enumerations.{literals_of, literal_text}
use Rattle.xmi_text.specs.Inheriting.{is_own_super}
use Rattle.ecore_rows.specs.Rows.{Typed, ByData, ByClass, Foreign, Untyped, typed, href, super_words, child_typed, super_numbers, twice_seen, type_behind, feature_rows, FeatureRow, foreign_word}
use Rattle.xmi_text.specs.Numbers.{is_upper, is_int_text}
use Rattle.ecore_outline.specs.Forms.{is_bad_name, has_point, is_kept_uri, uri_of, prefix_of, is_bad_prefix}

-- a kind and its value
abbrev pub Fault : Type 0
Fault = Kind × List ℕ

abbrev pub when : Bool → Kind → List ℕ → Option Fault
when true kind value = Some (kind, value)
when false kind value = None

abbrev pub or_else : Option Fault → Option Fault → Option Fault
or_else (Some f) rest = Some f
or_else None rest = rest

abbrev pub first_of : List (Option Fault) → Option Fault
first_of [] = None
first_of (f ∷ fs) = or_else f (first_of fs)

-- ## Forms

abbrev pub feature_flags : List (List ℕ)
feature_flags = codes "derived" ∷ codes "volatile" ∷ codes "transient" ∷ []

-- the flags that mean something at an element
abbrev pub flags_of : Role → List (List ℕ)
flags_of Class = codes "abstract" ∷ codes "interface" ∷ []
flags_of AttributeRole = codes "iD" ∷ codes "unique" ∷ feature_flags
flags_of SkippedAttribute = codes "iD" ∷ codes "unique" ∷ feature_flags
flags_of Reference = codes "containment" ∷ feature_flags
flags_of SkippedReference = codes "containment" ∷ feature_flags
flags_of r = []

-- a name that is there and is not of the form
abbrev pub is_misnamed : Entry → Bool
is_misnamed e = by e.role
  where
    by : Role → Bool
    by Package = is_bad_name (name_of e) || is_bad_prefix (prefix_of e) || is_kept_uri (uri_of e)
    by Class = is_bad_name (name_of e)
    by EnumRole = is_bad_name (name_of e)
    by Literal = is_bad_name (name_of e)
    by AttributeRole = is_bad_name (name_of e) || has_point (name_of e)
    by Reference = is_bad_name (name_of e) || has_point (name_of e)
    by r = false

abbrev pub is_child_type : Role → Bool
is_child_type TypeOf = true
is_child_type SkippedType = true
is_child_type r = false

-- an element that is not of the form as a whole
abbrev pub is_stray : Role → List Entry → Bool
is_stray Stray behind = true
is_stray Around behind = not (list_any (λ e. is_package_role e.role) behind)
is_stray r behind = false

-- a type of a feature that says nothing of which it is
abbrev pub is_empty_type : Entry → Bool
is_empty_type e = is_child_type e.role && is_none (given (codes "href") e.site.element)

abbrev pub is_not_ecore : Entry → List Entry → Bool
is_not_ecore e behind = is_stray e.role behind || is_empty_type e || has_text e.site.element || list_any (is_bad_flag e.site.element) (flags_of e.role) || is_misnamed e

abbrev pub is_attribute_role : Role → Bool
is_attribute_role AttributeRole = true
is_attribute_role r = false

abbrev pub is_reference_role : Role → Bool
is_reference_role Reference = true
is_reference_role r = false

abbrev pub is_sub_role : Role → Bool
is_sub_role SubPackage = true
is_sub_role r = false

-- ## Generics and names

abbrev pub generic_attribute : Element → Option (List ℕ)
generic_attribute e = option_map (λ a. a.name) (find (λ a. bytes_eq a.space [] && is_generic a.name) e.attributes)

abbrev pub generic_child : Element → Option (List ℕ)
generic_child e = option_map (λ c. c.name) (find (λ c. is_generic c.name) (sub_elements e.children))

abbrev pub generic_in : Element → Option Fault
generic_in e = or_else (option_map (λ n. (Generic, n)) (generic_attribute e)) (option_map (λ n. (Generic, n)) (generic_child e))

-- what has to have a name
abbrev pub is_named_role : Role → Bool
is_named_role Package = true
is_named_role Literal = true
is_named_role r = is_classifier_role r || is_feature_role r

-- ## Numbers and defaults

module _ (file : List Entry) where
  -- a text of an attribute's type
  abbrev pub is_text_of : FeatKind → List ℕ → Bool
  is_text_of Int text = is_int_text text
  is_text_of Truth text = bytes_eq text (codes "true") || bytes_eq text (codes "false")
  is_text_of (Enum n) text = list_any (λ l. bytes_eq (literal_text l) text) (literals_of file n)
  is_text_of k text = true

  abbrev pub is_bad_default : Typed → List ℕ → Bool
  is_bad_default (ByData t) text = not (is_text_of t.kind text)
  is_bad_default t text = false

  -- an attribute of the element that is a bad bound or a bad default
  abbrev pub is_bad_number : Role → Typed → Attribute → Bool
  is_bad_number role t a =
      if bytes_eq a.space [] && bytes_eq a.name (codes "upperBound") then is_feature_role role && not (is_upper a.value)
      else bytes_eq a.space [] && bytes_eq a.name (codes "defaultValueLiteral") && is_attribute_role role && is_bad_default t a.value

  abbrev pub number_fault : Role → Typed → Element → Option Fault
  number_fault role t e = option_map (λ a. (BadNumber, a.value)) (find (is_bad_number role t) e.attributes)

  -- ## Types

  abbrev pub typed_fault : Typed → Option Fault
  typed_fault (Foreign word) = Some (OtherFile, word)
  typed_fault (Untyped text) = Some (NoType, text)
  typed_fault t = None

  -- a child's type is judged at the child
  abbrev pub feature_type_fault : Entry → List Entry → Option Fault
  feature_type_fault e behind = if is_none (given (codes "eType") e.site.element) && is_some (type_behind behind) then None else typed_fault (typed file e behind)

  abbrev pub last_feature : Role → List Entry → Role
  last_feature role [] = role
  last_feature role (e ∷ es) = last_feature (if is_feature_role e.role then e.role else role) es

  abbrev pub supers_fault : List (List ℕ) → Option Fault
  supers_fault words = or_else (option_map (λ w. (OtherFile, w)) (foreign_word words)) (option_map (λ w. (NoType, w)) (find (λ w. is_none (class_named file w)) words))

  abbrev pub type_fault : List Entry → Entry → List Entry → Option Fault
  type_fault before e behind = by e.role
    where
      by : Role → Option Fault
      by Class = supers_fault (super_words e)
      by Super = supers_fault (href e ∷ [])
      by TypeOf = typed_fault (child_typed (last_feature Stray before) file (href e))
      by AttributeRole = feature_type_fault e behind
      by Reference = feature_type_fault e behind
      by r = None

  -- ## Opposites

  abbrev pub is_contained : Entry → Bool
  is_contained e = flag (codes "containment") e.site.element

  abbrev pub is_this : ℕ → Option Own → Bool
  is_this f (Some (Kept g e)) = g == f
  is_this f o = false

  -- the classes of two ends fit where both have one
  abbrev pub fit_both : Typed → ℕ → Typed → ℕ → Bool
  fit_both (ByClass c) owner (ByClass d) other = c == other && d == owner
  fit_both t owner u other = true

  abbrev pub fit : FeatureRow → Option FeatureRow → Bool
  fit row (Some other) = fit_both row.type row.owner other.type other.owner
  fit row None = false

  -- the reference that a feature names, of number g: it names the feature back, their classes fit, and not both contain
  abbrev pub is_opposite : ℕ → FeatureRow → ℕ → Entry → Bool
  is_opposite f row g e =
      is_reference_role e.role && option_map_or (λ text. is_this f (feature_named file text)) (given (codes "eOpposite") e.site.element) false
      && fit row (slice_get (feature_rows file) g) && not (is_contained row.entry && is_contained e)

  abbrev pub is_bad_end : ℕ → FeatureRow → Option Own → Bool
  is_bad_end f row None = true
  is_bad_end f row (Some Skips) = false
  is_bad_end f row (Some (Kept g e)) = not (is_opposite f row g e)

  abbrev pub is_bad_opposite : ℕ → FeatureRow → Bool
  is_bad_opposite f row = option_map_or (λ text. is_bad_end f row (feature_named file text)) (given (codes "eOpposite") row.entry.site.element) false

  abbrev pub opposite_fault : List Entry → Entry → Option Fault
  opposite_fault before e =
      let f = count is_feature_role before in
      if is_reference_role e.role then option_map_or (λ row. when (is_bad_opposite f row) BadOpposite (name_of e)) (slice_get (feature_rows file) f) None else None

  -- ## Names that stand twice

  abbrev pub is_same_literal : Entry → Entry → Bool
  is_same_literal e other = bytes_eq (name_of other) (name_of e) || bytes_eq (literal_text other) (literal_text e)

  abbrev pub is_same_package : Entry → Entry → Bool
  is_same_package e other = is_package_role other.role && (bytes_eq (uri_of other) (uri_of e) || bytes_eq (prefix_of other) (prefix_of e))

  abbrev pub is_same_classifier : Entry → Entry → Bool
  is_same_classifier e other = is_classifier_role other.role && bytes_eq (name_of other) (name_of e)

  abbrev pub classifier_twice : List Entry → Entry → Option Fault
  classifier_twice before e = when (list_any (is_same_classifier e) before) TwiceName (name_of e)

  abbrev pub twice_fault : List Entry → Entry → Option Fault
  twice_fault before e = by e.role
    where
      by : Role → Option Fault
      by Package = when (list_any (is_same_package e) before) TwiceName (name_of e)
      by Class = or_else (classifier_twice before e) (option_map (λ n. (TwiceName, n)) (twice_seen file (count is_class_role before)))
      by EnumRole = classifier_twice before e
      by Data = classifier_twice before e
      by Literal = when (list_any (is_same_literal e) (literals_of before (count is_enum_role before - 1))) TwiceName (name_of e)
      by r = None

  abbrev pub cycle_fault : List Entry → Entry → Option Fault
  cycle_fault before e = when (is_class_role e.role && is_own_super (super_numbers file) (count is_class_role before)) SuperCycle (name_of e)

  -- ## The first

  -- the first kind of fault at an element, where these stand before it and behind it
  abbrev pub fault_at : List Entry → Entry → List Entry → Option Fault
  fault_at before e behind = first_of (
      when (is_not_ecore e behind) NotEcore e.site.element.name
      ∷ when (is_sub_role e.role) IsSubPackage e.site.element.name
      ∷ generic_in e.site.element
      ∷ when (is_named_role e.role && bytes_eq (name_of e) []) NoName e.site.element.name
      ∷ twice_fault before e
      ∷ type_fault before e behind
      ∷ cycle_fault before e
      ∷ opposite_fault before e
      ∷ number_fault e.role (typed file e behind) e.site.element
      ∷ [])

  -- and the first element with one, from here on
  abbrev pub fault_from : List Entry → List Entry → Option (Fault × Place)
  fault_from before [] = None
  fault_from before (e ∷ behind) = option_map_or (λ f. Some (f, e.site.element.place)) (fault_at before e behind) (fault_from (before ++ (e ∷ [])) behind)

-- the first thing that is wrong in a file
abbrev pub first_fault : List Entry → Option (Fault × Place)
first_fault file = fault_from file [] file
