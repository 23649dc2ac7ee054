-- Outlines whose faults and metamodels are computed, to see that the definitions say what they are to say.
use Rattle.std.proofs.Common.{◌≡◌, ℕ, List, [], ◌∷◌, refl}
use Rattle.std.specs.Prelude.{codes, Option, Some, None, map, true, false}
use Rattle.atl_base.specs.declared.place.Place.{Place}
use Rattle.doc_text.specs.declared.tree.Attribute.{Attribute}
use Rattle.ecore_meta.specs.declared.parts.FeatKind.TheVariants.{Str, Refer}
use Rattle.xmi_text.specs.Markup.{site, ecore_space}
use Rattle.ecore_outline.specs.declared.outline.Role.{Role}
use Rattle.ecore_outline.specs.declared.outline.Role.TheVariants.{Package, Class, Enum as EnumRole, Literal, Attribute as AttributeRole, Reference, SkippedReference, TypeOf, SubPackage}
use Rattle.ecore_outline.specs.Outline.{Entry, entry}
use Rattle.ecore_names.specs.Types.{ecore_types}
use Rattle.xmi_read.specs.Parts.{class_no, feature_no, parts_of}
use Rattle.ecore_faults.specs.declared.fault.Kind.{Kind}
use Rattle.ecore_faults.specs.declared.fault.Kind.TheVariants.{NotEcore, SubPackage as IsSubPackage, Generic, NoName, TwiceName, OtherFile, NoType, SuperCycle, BadOpposite, BadNumber}
use Rattle.ecore_faults.specs.Faults.{Fault, first_fault}

abbrev given : List ℕ → List ℕ → Attribute
given name value = record { space = []; name = name; value = value }

-- an element at the beginning of a line, without children of its own
abbrev at : ℕ → Role → List ℕ → List Attribute → Entry
at line role name attributes = entry role (site (record { prefix = codes "ecore"; uri = ecore_space } ∷ []) (record { space = []; name = name; declared = []; attributes = attributes; children = []; place = record { line = line; column = 1 } }))

abbrev named : ℕ → Role → List ℕ → List ℕ → List Attribute → Entry
named line role element name more = at line role element (given (codes "name") name ∷ more)

abbrev class : ℕ → List ℕ → List Attribute → Entry
class line = named line Class (codes "eClassifiers")

abbrev attribute : ℕ → List ℕ → List Attribute → Entry
attribute line = named line AttributeRole (codes "eStructuralFeatures")

abbrev reference : ℕ → List ℕ → List Attribute → Entry
reference line = named line Reference (codes "eStructuralFeatures")

abbrev in_package : List Entry → List Entry
in_package entries = named 1 Package (codes "EPackage") (codes "P") [] ∷ entries

abbrev supers : List ℕ → List Attribute
supers words = given (codes "eSuperTypes") words ∷ []

abbrev of_type : List ℕ → List Attribute → List Attribute
of_type words more = given (codes "eType") words ∷ more

abbrev text : List Attribute
text = of_type (codes "ecore:EDataType http://www.eclipse.org/emf/2002/Ecore#//EString") []

abbrev number : List Attribute → List Attribute
number = of_type (codes "ecore:EDataType http://www.eclipse.org/emf/2002/Ecore#//EInt")

abbrev is_wrong : Kind → List ℕ → ℕ → Option (Fault × Place)
is_wrong kind value line = Some ((kind, value), record { line = line; column = 1 })

-- ## A metamodel

abbrev items : List Entry
items = in_package (
    class 2 (codes "Item") []
    ∷ attribute 3 (codes "label") text
    ∷ reference 4 (codes "link") (of_type (codes "#//Item") [])
    ∷ reference 5 (codes "parts") (given (codes "upperBound") (codes "-1") ∷ of_type (codes "#/0/Item") (given (codes "containment") (codes "true") ∷ given (codes "eOpposite") (codes "#//Item/owner") ∷ []))
    ∷ reference 6 (codes "owner") (of_type (codes "/P/Item") (given (codes "eOpposite") (codes "//Item/parts") ∷ []))
    ∷ [])

items_are_sound : first_fault items ≡ None
items_are_sound = refl

kinds_of_items : map (λ f. f.kind) (parts_of items).features ≡ Str ∷ Refer (class_no 0) false None ∷ Refer (class_no 0) true (Some (feature_no 3)) ∷ Refer (class_no 0) false (Some (feature_no 2)) ∷ []
unfolding ecore_types
kinds_of_items = refl

many_of_items : map (λ f. f.many) (parts_of items).features ≡ false ∷ false ∷ true ∷ false ∷ []
many_of_items = refl

-- ## Classes

cycle : first_fault (in_package (class 2 (codes "A") (supers (codes "#//B")) ∷ class 3 (codes "B") (supers (codes " #//C ")) ∷ class 4 (codes "C") (supers (codes "/0/B")) ∷ [])) ≡ is_wrong SuperCycle (codes "B") 3
cycle = refl

seen_twice : first_fault (in_package (class 2 (codes "A") (supers (codes "#//B #/P/C")) ∷ class 3 (codes "B") [] ∷ attribute 4 (codes "x") text ∷ class 5 (codes "C") [] ∷ reference 6 (codes "x") (of_type (codes "#//A") []) ∷ [])) ≡ is_wrong TwiceName (codes "x") 2
seen_twice = refl

seen_once : first_fault (in_package (class 2 (codes "A") (supers (codes "#//B #//C")) ∷ class 3 (codes "B") (supers (codes "#//D")) ∷ class 4 (codes "C") (supers (codes "#//D")) ∷ class 5 (codes "D") [] ∷ attribute 6 (codes "x") text ∷ [])) ≡ None
seen_once = refl

elsewhere : first_fault (in_package (class 2 (codes "A") (supers (codes "#//Z o.ecore#//B")) ∷ [])) ≡ is_wrong OtherFile (codes "o.ecore#//B") 2
elsewhere = refl

-- ## Features

no_type : first_fault (in_package (class 2 (codes "A") [] ∷ reference 3 (codes "x") [] ∷ [])) ≡ is_wrong NoType [] 3
no_type = refl

type_of_child : first_fault (in_package (class 2 (codes "A") [] ∷ reference 3 (codes "x") [] ∷ at 4 TypeOf (codes "eType") (given (codes "href") (codes "o#//B") ∷ []) ∷ [])) ≡ is_wrong OtherFile (codes "o#//B") 4
type_of_child = refl

empty_type : first_fault (in_package (class 2 (codes "A") [] ∷ reference 3 (codes "x") [] ∷ at 4 TypeOf (codes "eType") [] ∷ [])) ≡ is_wrong NotEcore (codes "eType") 4
empty_type = refl

type_of_no_name : first_fault (in_package (class 2 (codes "A") [] ∷ reference 3 (codes "x") (of_type (codes "#//") []) ∷ class 4 [] [] ∷ [])) ≡ is_wrong NoType (codes "#//") 3
type_of_no_name = refl

no_bound : first_fault (in_package (class 2 (codes "A") [] ∷ reference 3 (codes "x") (of_type (codes "#//A") (given (codes "upperBound") (codes "0") ∷ [])) ∷ [])) ≡ is_wrong BadNumber (codes "0") 3
no_bound = refl

wide : first_fault (in_package (class 2 (codes "A") [] ∷ attribute 3 (codes "x") (number (given (codes "defaultValueLiteral") (codes "9223372036854775808") ∷ [])) ∷ [])) ≡ is_wrong BadNumber (codes "9223372036854775808") 3
unfolding ecore_types
wide = refl

least : first_fault (in_package (class 2 (codes "A") [] ∷ attribute 3 (codes "x") (number (given (codes "defaultValueLiteral") (codes "-9223372036854775808") ∷ [])) ∷ [])) ≡ None
unfolding ecore_types
least = refl

dotted : first_fault (in_package (class 2 (codes "A.b") [] ∷ attribute 3 (codes "x.y") text ∷ [])) ≡ is_wrong NotEcore (codes "eStructuralFeatures") 3
dotted = refl

one_sided : first_fault (in_package (class 2 (codes "A") [] ∷ reference 3 (codes "x") (of_type (codes "#//A") (given (codes "eOpposite") (codes "#//A/y") ∷ [])) ∷ reference 4 (codes "y") (of_type (codes "#//A") []) ∷ [])) ≡ is_wrong BadOpposite (codes "x") 3
one_sided = refl

skipped_end : first_fault (in_package (class 2 (codes "A") [] ∷ reference 3 (codes "x") (of_type (codes "#//A") (given (codes "eOpposite") (codes "#//A/y") ∷ [])) ∷ named 4 SkippedReference (codes "eStructuralFeatures") (codes "y") [] ∷ [])) ≡ None
skipped_end = refl

-- a reference goes before one of its name that is left out
abbrev real_behind : List Entry
real_behind = in_package (class 2 (codes "A") [] ∷ reference 3 (codes "x") (of_type (codes "#//A") (given (codes "eOpposite") (codes "#//A/y") ∷ []))
    ∷ named 4 SkippedReference (codes "eStructuralFeatures") (codes "y") [] ∷ reference 5 (codes "y") (of_type (codes "#//A") (given (codes "eOpposite") (codes "#//A/x") ∷ [])) ∷ [])

real_end : first_fault real_behind ≡ None
real_end = refl

real_opposites : map (λ f. f.kind) (parts_of real_behind).features ≡ Refer (class_no 0) false (Some (feature_no 1)) ∷ Refer (class_no 0) false (Some (feature_no 0)) ∷ []
real_opposites = refl

nameless_end : first_fault (in_package (class 2 (codes "A") [] ∷ reference 3 (codes "x") (of_type (codes "#//A") (given (codes "eOpposite") (codes "#//A/") ∷ [])) ∷ named 4 SkippedReference (codes "eStructuralFeatures") [] [] ∷ [])) ≡ is_wrong BadOpposite (codes "x") 3
nameless_end = refl

-- ## Packages and literals

inner : first_fault (in_package (at 2 SubPackage (codes "eSubpackages") [] ∷ [])) ≡ is_wrong IsSubPackage (codes "eSubpackages") 2
inner = refl

generic : first_fault (in_package (class 2 (codes "A") (given (codes "eGenericSuperTypes") [] ∷ []) ∷ [])) ≡ is_wrong Generic (codes "eGenericSuperTypes") 2
generic = refl

nameless : first_fault (in_package (class 2 [] [] ∷ [])) ≡ is_wrong NoName (codes "eClassifiers") 2
nameless = refl

abbrev literal : ℕ → List ℕ → List Attribute → Entry
literal line = named line Literal (codes "eLiterals")

abbrev enum : ℕ → List ℕ → Entry
enum line name = named line EnumRole (codes "eClassifiers") name []

same_text : first_fault (in_package (enum 2 (codes "E") ∷ literal 3 (codes "a") [] ∷ literal 4 (codes "b") (given (codes "literal") (codes "a") ∷ []) ∷ [])) ≡ is_wrong TwiceName (codes "b") 4
same_text = refl

abbrev two_enums : List Entry
two_enums = in_package (enum 2 (codes "E") ∷ literal 3 (codes "a") [] ∷ enum 4 (codes "F") ∷ literal 5 (codes "c") [] ∷ literal 6 (codes "a") [] ∷ class 7 (codes "A") [] ∷ attribute 8 (codes "x") (of_type (codes "#//F") []) ∷ [])

enums_apart : first_fault two_enums ≡ None
enums_apart = refl

first_literal : map (λ f. f.default) (parts_of two_enums).features ≡ Some (codes "c") ∷ []
first_literal = refl
