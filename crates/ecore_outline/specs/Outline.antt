-- The outline of a file: all its elements that a metamodel is made of, in document order, each with the part that it has.
-- (Ecore: EPackage, EClass, EEnum, EDataType, EAttribute, EReference, EEnumLiteral.)
use Rattle.std.specs.Prelude.{ℕ, suc, ◌&&◌, ◌||◌, not, Bool, true, false, List, [], ◌∷◌, ◌++◌, codes, bytes_eq, is_some, if◌then◌else◌}
use Rattle.doc_text.specs.Names.{xmi_space}
use Rattle.doc_text.specs.declared.tree.Doc.{Doc}
use Rattle.doc_text.specs.declared.tree.Element.{Element}
use Rattle.doc_text.specs.declared.tree.Prefix.{Prefix}
pub use Rattle.ecore_outline.specs.declared.outline.Role.{Role}
pub use Rattle.ecore_outline.specs.declared.outline.Role.TheVariants.{Around, Package, Class, Enum, Data, Literal, Attribute, Reference, SkippedAttribute, SkippedReference, Super, TypeOf, SkippedType, SubPackage, Stray}
use Rattle.xmi_text.specs.Markup.{Site, site, given, or_empty, flag, sub_elements, is_typed, ecore_space}

pub record Entry : Type 0 where
  pub role : Role
  pub site : Site

abbrev pub entry : Role → Site → Entry
entry r s = record { role = r; site = s }

-- ## Which child is what

abbrev pub is_named : List ℕ → Element → Bool
is_named name e = bytes_eq e.name name

-- what is passed over with all that it holds
abbrev pub is_passed : Element → Bool
is_passed e = is_named (codes "eAnnotations") e || is_named (codes "eOperations") e

-- what makes the element that has it generic
abbrev pub is_generic : List ℕ → Bool
is_generic name = bytes_eq name (codes "eTypeParameters") || bytes_eq name (codes "eGenericType") || bytes_eq name (codes "eGenericSuperTypes")

abbrev pub is_quiet : Element → Bool
is_quiet e = is_passed e || is_generic e.name

-- the children that are called so, each by its own outline; all others are not of the form
abbrev pub other_children : List Prefix → List Element → List Entry
other_children outer [] = []
other_children outer (e ∷ es) = (if is_quiet e then [] else entry Stray (site outer e) ∷ []) ++ other_children outer es

-- ## Features

abbrev pub is_skipped : Element → Bool
is_skipped e = flag (codes "derived") e || flag (codes "volatile") e || flag (codes "transient") e

-- The children of a feature: the first `eType` stands for its type, where no attribute does.
abbrev pub feature_children : Role → Bool → List Prefix → List Element → List Entry
feature_children role typed outer [] = []
feature_children role typed outer (e ∷ es) =
    if is_quiet e then feature_children role typed outer es
    else if is_named (codes "eType") e && not typed then entry role (site outer e) ∷ (other_children (e.declared ++ outer) (sub_elements e.children) ++ feature_children role true outer es)
    else entry Stray (site outer e) ∷ feature_children role typed outer es

abbrev pub has_type : Element → Bool
has_type e = is_some (given (codes "eType") e)

abbrev pub feature_outline : Role → Role → Site → List Entry
feature_outline role type_role s = entry role s ∷ feature_children type_role (has_type s.element) s.scope (sub_elements s.element.children)

abbrev pub feature : Site → List Entry
feature s =
    if is_typed (codes "EAttribute") s then (if is_skipped s.element then feature_outline SkippedAttribute SkippedType s else feature_outline Attribute TypeOf s)
    else if is_typed (codes "EReference") s then (if is_skipped s.element then feature_outline SkippedReference SkippedType s else feature_outline Reference TypeOf s)
    else entry Stray s ∷ []

-- ## Classifiers

abbrev pub class_children : List Prefix → List Element → List Entry
class_children outer [] = []
class_children outer (e ∷ es) =
    (if is_named (codes "eStructuralFeatures") e then feature (site outer e)
    else if is_named (codes "eSuperTypes") e && is_some (given (codes "href") e) then entry Super (site outer e) ∷ other_children (e.declared ++ outer) (sub_elements e.children)
    else if is_quiet e then []
    else entry Stray (site outer e) ∷ []) ++ class_children outer es

abbrev pub enum_children : List Prefix → List Element → List Entry
enum_children outer [] = []
enum_children outer (e ∷ es) =
    (if is_named (codes "eLiterals") e then entry Literal (site outer e) ∷ other_children (e.declared ++ outer) (sub_elements e.children)
    else if is_quiet e then []
    else entry Stray (site outer e) ∷ []) ++ enum_children outer es

abbrev pub classifier : Site → List Entry
classifier s =
    if is_typed (codes "EClass") s then entry Class s ∷ class_children s.scope (sub_elements s.element.children)
    else if is_typed (codes "EEnum") s then entry Enum s ∷ enum_children s.scope (sub_elements s.element.children)
    else if is_typed (codes "EDataType") s then entry Data s ∷ other_children s.scope (sub_elements s.element.children)
    else entry Stray s ∷ []

-- ## Packages

abbrev pub package_children : List Prefix → List Element → List Entry
package_children outer [] = []
package_children outer (e ∷ es) =
    (if is_named (codes "eClassifiers") e then classifier (site outer e)
    else if is_named (codes "eSubpackages") e then entry SubPackage (site outer e) ∷ []
    else if is_quiet e then []
    else entry Stray (site outer e) ∷ []) ++ package_children outer es

abbrev pub package_outline : Site → List Entry
package_outline s = entry Package s ∷ package_children s.scope (sub_elements s.element.children)

abbrev pub is_package : Element → Bool
is_package e = bytes_eq e.space ecore_space && is_named (codes "EPackage") e

abbrev pub is_around : Element → Bool
is_around e = bytes_eq e.space xmi_space && is_named (codes "XMI") e

abbrev pub around_children : List Prefix → List Element → List Entry
around_children outer [] = []
around_children outer (e ∷ es) = (if is_package e then package_outline (site outer e) else entry Stray (site outer e) ∷ []) ++ around_children outer es

abbrev pub outline : Doc → List Entry
outline doc =
    if is_package doc.root then package_outline (site [] doc.root)
    else if is_around doc.root then entry Around (site [] doc.root) ∷ around_children doc.root.declared (sub_elements doc.root.children)
    else entry Stray (site [] doc.root) ∷ []

-- ## Entries by their roles

abbrev pub is_package_role : Role → Bool
is_package_role Package = true
is_package_role r = false

abbrev pub is_class_role : Role → Bool
is_class_role Class = true
is_class_role r = false

abbrev pub is_enum_role : Role → Bool
is_enum_role Enum = true
is_enum_role r = false

abbrev pub is_classifier_role : Role → Bool
is_classifier_role Class = true
is_classifier_role Enum = true
is_classifier_role Data = true
is_classifier_role r = false

abbrev pub is_feature_role : Role → Bool
is_feature_role Attribute = true
is_feature_role Reference = true
is_feature_role r = false

abbrev pub is_skipped_role : Role → Bool
is_skipped_role SkippedAttribute = true
is_skipped_role SkippedReference = true
is_skipped_role r = false

-- how many there are
abbrev pub count : (Role → Bool) → List Entry → ℕ
count of [] = 0
count of (e ∷ es) = if of e.role then suc (count of es) else count of es

abbrev pub name_of : Entry → List ℕ
name_of e = or_empty (given (codes "name") e.site.element)
