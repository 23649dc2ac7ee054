-- What is wrong at an element of a model's file before any reference is followed: of each kind the first thing, and of the kinds
-- the first of this order. Of a file the first element at which something is wrong.
use Rattle.std.specs.Prelude.{ℕ, ◌==◌, ◌&&◌, ◌||◌, not, Bool, true, false, List, [], ◌∷◌, ◌++◌, codes, bytes_eq, find, filter_map, flat_map, nat_le, slice_get, Option, Some, None, is_some, if◌then◌else◌}
use Rattle.std.specs.Option.{option_map_or}
use Rattle.std.specs.List.{list_all, list_any}
use Rattle.atl_base.specs.declared.place.Place.{Place}
use Rattle.atl_base.specs.declared.numbers.ClassId.{ClassId}
use Rattle.atl_base.specs.declared.numbers.FeatId.{FeatId}
use Rattle.atl_base.specs.declared.numbers.ObjId.{ObjId}
use Rattle.doc_text.specs.Names.{xmi_space, xsi_space}
use Rattle.doc_text.specs.declared.tree.Attribute.{Attribute}
use Rattle.ecore_meta.specs.declared.parts.FeatKind.{FeatKind}
use Rattle.ecore_meta.specs.declared.parts.FeatKind.TheVariants as holds
use Rattle.ecore_meta.specs.declared.parts.Parts.{Parts}
use Rattle.model_store.specs.Contents.{contains, is_many, refers}
use Rattle.xmi_text.specs.Numbers.{is_int_text}
use Rattle.xmi_text.specs.Markup.{is_called, is_blank, words_of}
use Rattle.xmi_text.specs.Fragments.{names_file}
use Rattle.xmi_text.specs.Options.{then_}
pub use Rattle.xmi_models.specs.declared.fault.Kind.{Kind}
pub use Rattle.xmi_models.specs.declared.fault.Kind.TheVariants.{NoClass, Abstract, NoFeature, StrayText, BadValue, Href, BadType, Full, BadPath, NoId, TwiceId, TwoContainers, TwoEnds}
use Rattle.xmi_models.specs.Outline.{Entry, Tag, Part, Around, Root, Content, Value, Cross, Unknown, Inner, is_object, objects_in, feature_named, is_skipped, is_sub, class_said, type_text}

-- a kind and its value
abbrev pub Fault : Type 0
Fault = Kind × List ℕ

abbrev pub when : Bool → Kind → List ℕ → Option Fault
when true kind value = Some (kind, value)
when false kind value = None

abbrev pub first_of : List (Option Fault) → Option Fault
first_of [] = None
first_of (Some f ∷ fs) = Some f
first_of (None ∷ fs) = first_of fs

abbrev pub of_kind : Kind → List (List ℕ) → Option Fault
of_kind kind [] = None
of_kind kind (value ∷ values) = Some (kind, value)

-- ## Texts of a type

abbrev pub is_text_of : Parts → FeatKind → List ℕ → Bool
is_text_of meta holds.Int text = is_int_text text
is_text_of meta holds.Truth text = bytes_eq text (codes "true") || bytes_eq text (codes "false")
is_text_of meta (holds.Enum e) text = list_any (λ l. bytes_eq l.text text) (option_map_or (λ d. d.literals) (slice_get meta.enums e) [])
is_text_of meta kind text = true

abbrev pub is_value_of : Parts → FeatId → List ℕ → Bool
is_value_of meta f text = option_map_or (λ feature. is_text_of meta feature.kind text) (slice_get meta.features f.0) false

-- the text that an element has
abbrev pub text_in : Tag → List ℕ
text_in t = flat_map (λ text. text) t.texts

-- ## What attributes are

-- what any element may bear and means nothing here
abbrev pub is_passed : Attribute → Bool
is_passed a = is_called xmi_space (codes "version") a || is_called xmi_space (codes "id") a || is_called xsi_space (codes "schemaLocation") a

abbrev pub is_type : Attribute → Bool
is_type a = is_called xsi_space (codes "type") a || is_called xmi_space (codes "type") a

abbrev pub is_nil : Attribute → Bool
is_nil = is_called xsi_space (codes "nil")

abbrev pub is_href : Attribute → Bool
is_href = is_called [] (codes "href")

-- the class whose features an element's attributes are
abbrev pub own_class : Part → Option ClassId
own_class (Root c) = c
own_class (Content o f c) = c
own_class (Cross f c) = c
own_class p = None

-- the class that an element is to have, where there is one of that name
abbrev pub asked_class : Part → Option (Option ClassId)
asked_class (Root c) = Some c
asked_class (Content o f c) = Some c
asked_class (Cross f c) = Some c
asked_class (Unknown c) = c
asked_class p = None

-- a child says its class; a root is named for it
abbrev pub may_have_type : Part → Bool
may_have_type (Content o f c) = true
may_have_type (Cross f c) = true
may_have_type (Unknown c) = true
may_have_type p = false

abbrev pub attribute_feature : Parts → Part → Attribute → Option FeatId
attribute_feature meta part a = if bytes_eq a.space [] then then_ (own_class part) (λ c. feature_named meta c a.name) else None

abbrev pub is_skipped_attribute : Parts → Part → Attribute → Bool
is_skipped_attribute meta part a = bytes_eq a.space [] && option_map_or (λ c. is_skipped meta c a.name) (own_class part) false

-- whether an attribute is none of the element's class
abbrev pub is_no_feature : Parts → Part → Attribute → Bool
is_no_feature meta part a =
    not (is_passed a || is_nil a || is_href a || (is_type a && may_have_type part) || is_some (attribute_feature meta part a) || is_skipped_attribute meta part a)

-- a reference to another file, in an attribute `href` that is no feature
abbrev pub is_foreign : Parts → Part → Attribute → Bool
is_foreign meta part a = is_href a && not (is_some (attribute_feature meta part a) || is_skipped_attribute meta part a)

-- ## At one element

-- the text of the type, or else the local name
abbrev pub class_value : Entry → List ℕ
class_value e = if may_have_type e.part then option_map_or (λ text. text) (type_text e.tag) e.tag.name else e.tag.name

abbrev pub is_loud : List ℕ → Bool
is_loud text = not (list_all is_blank text)

-- whether all text is out of place there: in `xmi:XMI` and in objects
abbrev pub is_without_text : Part → Bool
is_without_text Around = true
is_without_text (Root c) = true
is_without_text (Content o f c) = true
is_without_text p = false

abbrev pub has_stray_text : Entry → Bool
has_stray_text e = (is_without_text e.part || e.tag.has_elements) && list_any is_loud e.tag.texts

abbrev pub second : List (List ℕ) → Option (List ℕ)
second (a ∷ b ∷ words) = Some b
second words = None

-- whether an element before gives a value of the same feature, or an attribute of the object's does
abbrev pub gives : ObjId → FeatId → Entry → Bool
gives o f e = by e.part
  where
    by : Part → Bool
    by (Value p g) = p.0 == o.0 && g.0 == f.0
    by (Content p g c) = p.0 == o.0 && g.0 == f.0
    by p = false

-- the objects in their order
abbrev pub objects : List Entry → List Entry
objects [] = []
objects (e ∷ es) = if is_object e.part then e ∷ objects es else objects es

module _ (meta : Parts) where
  abbrev pub class_fault : Entry → Option ClassId → Option Fault
  class_fault e None = Some (NoClass, class_value e)
  class_fault e (Some c) = when (option_map_or (λ class. class.is_abstract) (slice_get meta.classes c.0) false) Abstract (class_value e)

  abbrev pub class_faults : Entry → Option Fault
  class_faults e = option_map_or (class_fault e) (asked_class e.part) None

  -- an element that is no feature; one of a reference that contains nothing may still lead to another file
  abbrev pub is_no_child : Entry → Bool
  is_no_child e = by e.part
    where
      by : Part → Bool
      by (Cross f c) = not (list_any (is_foreign meta e.part) e.tag.attributes)
      by (Unknown c) = true
      by Inner = true
      by p = false

  -- the element itself, and its attributes that are none
  abbrev pub feature_values : Entry → List (List ℕ)
  feature_values e =
      (if is_no_child e then e.tag.name ∷ [] else [])
      ++ filter_map (λ a. if is_no_feature meta e.part a then Some a.name else None) e.tag.attributes

  -- ## Values

  -- what is no value of a feature, where an attribute gives it
  abbrev pub bad_text : FeatId → List ℕ → Option (List ℕ)
  bad_text f text =
      if contains meta f then Some text
      else if refers meta f then (if is_many meta f then None else second (words_of text))
      else (if is_value_of meta f text then None else Some text)

  abbrev pub attribute_value : Part → Attribute → Option (List ℕ)
  attribute_value part a = if is_nil a then Some [] else then_ (attribute_feature meta part a) (λ f. bad_text f a.value)

  abbrev pub has_attribute : List Entry → ObjId → FeatId → Bool
  has_attribute before o f = option_map_or (λ e. list_any (λ a. option_map_or (λ g. g.0 == f.0) (attribute_feature meta e.part a) false) e.tag.attributes) (slice_get (objects before) o.0) false

  abbrev pub is_second : List Entry → ObjId → FeatId → Bool
  is_second before o f = not (is_many meta f) && (list_any (gives o f) before || has_attribute before o f)

  -- a second object in a single-valued reference
  abbrev pub second_object : List Entry → Part → List (List ℕ)
  second_object before (Content o f c) = if is_second before o f then [] ∷ [] else []
  second_object before p = []

  -- a second value of a single-valued attribute, or a text that is none
  abbrev pub bad_value : List Entry → Entry → List (List ℕ)
  bad_value before e = by e.part
    where
      by : Part → List (List ℕ)
      by (Value o f) = if is_second before o f || not (is_value_of meta f (text_in e.tag)) then text_in e.tag ∷ [] else []
      by p = []

  -- at an element, in its attributes, and in its text
  abbrev pub bad_values : List Entry → Entry → List (List ℕ)
  bad_values before e = second_object before e.part ++ (filter_map (attribute_value e.part) e.tag.attributes ++ bad_value before e)

  -- ## Other files, types of children, and the limit

  abbrev pub foreign_in : Part → Attribute → List (List ℕ)
  foreign_in part a =
      if is_foreign meta part a then a.value ∷ []
      else option_map_or (λ f. if refers meta f && not (contains meta f) then option_map_or (λ w. w ∷ []) (find names_file (words_of a.value)) [] else []) (attribute_feature meta part a) []

  abbrev pub all_foreign : Part → List Attribute → List (List ℕ)
  all_foreign part [] = []
  all_foreign part (a ∷ rest) = foreign_in part a ++ all_foreign part rest

  -- a child of a class that does not fit its feature
  abbrev pub is_misplaced : Part → Bool
  is_misplaced (Content o f (Some c)) = option_map_or (λ d. not (is_sub meta c d)) (class_said meta f) false
  is_misplaced p = false

  -- so many objects there may be
  abbrev pub is_too_many : List Entry → Part → Bool
  is_too_many before part = is_object part && nat_le 1000000 (objects_in before)

  -- what is wrong at an element behind those
  abbrev pub fault_at : List Entry → Entry → Option Fault
  fault_at before e = first_of (
      class_faults e
      ∷ of_kind NoFeature (feature_values e)
      ∷ when (has_stray_text e) StrayText e.tag.name
      ∷ of_kind BadValue (bad_values before e)
      ∷ of_kind Href (all_foreign e.part e.tag.attributes)
      ∷ when (is_misplaced e.part) BadType e.tag.name
      ∷ when (is_too_many before e.part) Full []
      ∷ [])

  -- the first element with a fault, from here on
  abbrev pub fault_from : List Entry → List Entry → Option (Fault × Place)
  fault_from before [] = None
  fault_from before (e ∷ es) = option_map_or (λ f. Some (f, e.tag.place)) (fault_at before e) (fault_from (before ++ (e ∷ [])) es)

-- the first thing wrong in the elements of a file
abbrev pub element_fault : Parts → List Entry → Option (Fault × Place)
element_fault meta file = fault_from meta [] file
