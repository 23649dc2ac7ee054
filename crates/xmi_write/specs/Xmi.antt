-- The text of a model: the document whose root is the one root object, or `xmi:XMI` around several or none. Each object is an element,
-- with its attributes and plain references as XML attributes, and its contents and many-valued attributes as children. (XMI 2.0.)
use Rattle.std.specs.Prelude.{ℕ, zero, suc, ◌==◌, List, [], ◌∷◌, ◌++◌, codes, flat_map, length, map, slice_get, Option, Some, None, false, if◌then◌else◌}
use Rattle.std.specs.Option.{option_map_or}
use Rattle.atl_base.specs.declared.place.Place.{Place}
use Rattle.atl_base.specs.declared.numbers.ClassId.{ClassId}
use Rattle.atl_base.specs.declared.numbers.FeatId.{FeatId}
use Rattle.atl_base.specs.declared.numbers.ObjId.{ObjId}
use Rattle.doc_text.specs.declared.tree.Attribute.{Attribute}
use Rattle.doc_text.specs.declared.tree.Child.{Child}
use Rattle.doc_text.specs.declared.tree.Child.TheVariants as child
use Rattle.doc_text.specs.declared.tree.Doc.{Doc}
use Rattle.doc_text.specs.declared.tree.Element.{Element}
use Rattle.doc_text.specs.declared.tree.Prefix.{Prefix}
use Rattle.doc_text.specs.Names.{xmi_space, xsi_space}
use Rattle.doc_text.specs.Written.{written}
use Rattle.ecore_meta.specs.declared.parts.Class.{Class}
use Rattle.ecore_meta.specs.declared.parts.Package.{Package}
use Rattle.ecore_meta.specs.declared.parts.Parts.{Parts}
use Rattle.ecore_meta.specs.Inheritance.{features, name_of}
use Rattle.ecore_meta.specs.Valid.{class_of}
use Rattle.model_store.specs.declared.parts.Cellv.{Cellv}
use Rattle.model_store.specs.declared.parts.Object.{Object}
use Rattle.model_store.specs.Contents.{Contents, object_at, objects_of, is_many, refers, contains}
use Rattle.model_store.specs.Texts.{value_text}
use Rattle.xmi_write.specs.declared.named.Named.{Named}
use Rattle.xmi_write.specs.declared.named.Named.TheVariants.{Around, Root, Inside}
use Rattle.xmi_write.specs.Values.{joined, is_attribute}

-- ## Names

abbrev pub class_name : Parts → ClassId → List ℕ
class_name meta c = option_map_or (λ class. class.name) (slice_get meta.classes c.0) []

abbrev pub package_of : Parts → ClassId → Option Package
package_of meta c = option_map_or (λ class. slice_get meta.packages class.«package») (slice_get meta.classes c.0) None

-- an element's namespace: features are in none
abbrev pub space_of : Parts → Named → List ℕ
space_of meta Around = xmi_space
space_of meta (Root c) = option_map_or (λ p. p.uri) (package_of meta c) []
space_of meta (Inside f) = []

abbrev pub local_name : Parts → Named → List ℕ
local_name meta Around = codes "XMI"
local_name meta (Root c) = class_name meta c
local_name meta (Inside f) = name_of meta.features f

-- Where nothing was read no place means anything.
abbrev pub nowhere : Place
nowhere = record { line = 0; column = 0 }

abbrev pub element_named : Parts → Named → List Attribute → List Child → Element
element_named meta named attributes children = record {
  space = space_of meta named;
  name = local_name meta named;
  declared = [];
  attributes = attributes;
  children = children;
  place = nowhere;
}

-- what is said slot by slot, in the order of the features
abbrev pub by_slot : {X : Type 0} → (FeatId → List Cellv → List X) → List FeatId → List (List Cellv) → List X
by_slot say [] slots = []
by_slot say (f ∷ fs) [] = []
by_slot say (f ∷ fs) (cells ∷ slots) = say f cells ++ by_slot say fs slots

-- ## Attributes

-- a class behind its package's prefix
abbrev pub type_text : Parts → ClassId → List ℕ
type_text meta c = option_map_or (λ p. p.prefix) (package_of meta c) [] ++ (58 ∷ class_name meta c)

abbrev pub type_attribute : Parts → ClassId → Attribute
type_attribute meta c = record { space = xsi_space; name = codes "type"; value = type_text meta c }

-- the class of what a reference refers to
abbrev pub said_class : Parts → FeatId → Option ClassId
said_class meta f = option_map_or (λ feature. class_of feature.kind) (slice_get meta.features f.0) None

-- An object in a reference has its type where it is not of the class that the reference says. A root is named for its class.
abbrev pub type_attributes : Parts → Named → ClassId → List Attribute
type_attributes meta (Inside f) class = if option_map_or (λ said. said.0 == class.0) (said_class meta f) false then [] else type_attribute meta class ∷ []
type_attributes meta named class = []

abbrev pub slot_attribute : Contents → FeatId → List Cellv → Attribute
slot_attribute m f cells = record { space = []; name = name_of m.meta.features f; value = joined (map (value_text m f) cells) }

abbrev pub slot_attributes : Contents → FeatId → List Cellv → List Attribute
slot_attributes m f cells = if is_attribute m.meta f cells then slot_attribute m f cells ∷ [] else []

abbrev pub attributes_of : Contents → Named → Object → List Attribute
attributes_of m named object = type_attributes m.meta named object.class ++ by_slot (slot_attributes m) (features m.meta.classes object.class) object.slots

-- ## Children

-- what stands in an object's element: an object that a reference contains, or a value of a many-valued attribute
pub data Part : Type 0 where
  Content : FeatId → ObjId → Part
  Value : FeatId → Cellv → Part

abbrev pub slot_parts : Parts → FeatId → List Cellv → List Part
slot_parts meta f cells =
    if contains meta f then map (Content f) (objects_of cells)
    else if refers meta f then []
    else if is_many meta f then map (Value f) cells
    else []

abbrev pub parts_of : Parts → Object → List Part
parts_of meta object = by_slot (slot_parts meta) (features meta.classes object.class) object.slots

-- an element with this text alone
abbrev pub words : List ℕ → List Child
words [] = []
words (c ∷ cs) = child.Words (c ∷ cs) ∷ []

abbrev pub value_element : Contents → FeatId → Cellv → Element
value_element m f v = element_named m.meta (Inside f) [] (words (value_text m f v))

-- the element of a part, where `below` gives those of objects
abbrev pub part_child : (Named → ObjId → Element) → Contents → Part → Child
part_child below m (Content f o) = child.Sub (below (Inside f) o)
part_child below m (Value f v) = child.Sub (value_element m f v)

abbrev pub object_element : (Named → ObjId → Element) → Contents → Named → Object → Element
object_element below m named object = element_named m.meta named (attributes_of m named object) (map (part_child below m) (parts_of m.meta object))

-- an object's element, with what stands in it at most so many levels below
unfoldable pub element_within : ℕ → Contents → Named → ObjId → Element
element_within zero m named o = element_named m.meta named [] []
element_within (suc n) m named o = option_map_or (object_element (element_within n m) m named) (object_at m.objects o) (element_named m.meta named [] [])

-- Without a cycle nothing stands more levels below than there are objects.
unfoldable pub element : Contents → Named → ObjId → Element
element m named o = element_within (suc (length m.objects)) m named o

-- ## The document

abbrev pub package_prefix : Package → Prefix
package_prefix p = record { prefix = p.prefix; uri = p.uri }

-- the namespaces of a file: XMI's, that of XML Schema's instances, and each package's
abbrev pub declared : Parts → List Prefix
declared meta = record { prefix = codes "xmi"; uri = xmi_space } ∷ (record { prefix = codes "xsi"; uri = xsi_space } ∷ map package_prefix meta.packages)

abbrev pub version : Attribute
version = record { space = xmi_space; name = codes "version"; value = codes "2.0" }

-- the element that a file begins with
abbrev pub outermost : Parts → Element → Element
outermost meta e = record e { declared = declared meta; attributes = version ∷ e.attributes }

-- a root is named for its class
abbrev pub root_name : Contents → ObjId → Named
root_name m o = option_map_or (λ object. Root object.class) (object_at m.objects o) Around

abbrev pub root_element : Contents → ObjId → Element
root_element m o = element m (root_name m o) o

-- `xmi:XMI` with roots in it
abbrev pub around : Parts → List Element → Element
around meta es = element_named meta Around [] (map child.Sub es)

-- a single root stands alone
abbrev pub root_of : Parts → List Element → Element
root_of meta (e ∷ []) = e
root_of meta es = around meta es

abbrev pub document : Contents → Doc
document m = record { root = outermost m.meta (root_of m.meta (map (root_element m) m.roots)) }

-- the bytes of its file
abbrev pub xmi : Contents → List ℕ
xmi m = written (document m)
