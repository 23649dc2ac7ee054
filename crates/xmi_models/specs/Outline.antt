-- The outline of a model's file: its elements in document order, each with what it is in the model. What stands in the element of a
-- skipped feature is passed over, and so is what stands in an element that is nothing. (XMI 2.0: objects by containment.)
use Rattle.std.specs.Prelude.{ℕ, suc, ◌+◌, ◌&&◌, Bool, true, false, List, [], ◌∷◌, ◌++◌, codes, bytes_eq, find, Option, Some, None, option_map, if◌then◌else◌}
use Rattle.std.specs.Option.{option_map_or}
use Rattle.std.specs.List.{list_any}
use Rattle.atl_base.specs.declared.place.Place.{Place}
use Rattle.atl_base.specs.declared.numbers.ClassId.{ClassId}
use Rattle.atl_base.specs.declared.numbers.FeatId.{FeatId}
use Rattle.atl_base.specs.declared.numbers.ObjId.{ObjId}
use Rattle.doc_text.specs.Names.{xmi_space, xsi_space}
use Rattle.doc_text.specs.declared.tree.Attribute.{Attribute}
use Rattle.doc_text.specs.declared.tree.Child.{Child, fold-Child}
use Rattle.doc_text.specs.declared.tree.Child.TheOpen as layer
use Rattle.doc_text.specs.declared.tree.Doc.{Doc}
use Rattle.doc_text.specs.declared.tree.Element.{Element, fold-Element}
use Rattle.doc_text.specs.declared.tree.Prefix.{Prefix}
use Rattle.ecore_meta.specs.declared.parts.Parts.{Parts}
use Rattle.model_store.specs.Contents.{contains, refers}
use Rattle.xmi_text.specs.Markup.{is_called, before_colon, behind_colon, uri_in}
use Rattle.xmi_text.specs.Options.{then_}
pub use Rattle.xmi_names.specs.Names.{class_named, is_sub, feature_named, is_skipped, class_said}

-- ## Elements

-- an element alone: of what stands in it the texts, and whether there are elements
pub record Tag : Type 0 where
  pub space : List ℕ
  pub name : List ℕ
  pub attributes : List Attribute
  pub texts : List (List ℕ)
  pub has_elements : Bool
  pub place : Place

abbrev pub value_in : List ℕ → List ℕ → Tag → Option (List ℕ)
value_in space name t = option_map (λ a. a.value) (find (is_called space name) t.attributes)

-- ## Types

abbrev pub class_behind : Parts → List Prefix → List ℕ → List ℕ → Option ClassId
class_behind meta scope prefix name = then_ (uri_in scope prefix) (λ space. class_named meta space name)

-- the class that a type's text names
abbrev pub class_of_text : Parts → List Prefix → List ℕ → Option ClassId
class_of_text meta scope text = option_map_or (λ prefix. class_behind meta scope prefix (behind_colon text)) (before_colon text) (class_behind meta scope [] text)

-- the type of a child: `xsi:type`, else `xmi:type`
abbrev pub type_text : Tag → Option (List ℕ)
type_text t = option_map_or (λ text. Some text) (value_in xsi_space (codes "type") t) (value_in xmi_space (codes "type") t)

-- ## What elements are

pub data Part : Type 0 where
  -- `xmi:XMI`
  Around : Part
  -- an object, where its class is one
  Root : Option ClassId → Part
  -- one that another contains by a feature
  Content : ObjId → FeatId → Option ClassId → Part
  -- a value of an object's attribute
  Value : ObjId → FeatId → Part
  -- a child of a reference that contains nothing, with its class
  Cross : FeatId → Option ClassId → Part
  -- a child of no feature; its type may ask for a class all the same
  Unknown : Option (Option ClassId) → Part
  -- what stands in a value
  Inner : Part

pub record Entry : Type 0 where
  pub part : Part
  pub tag : Tag

abbrev pub is_object : Part → Bool
is_object (Root c) = true
is_object (Content o f c) = true
is_object p = false

-- how many objects there are among them
abbrev pub objects_in : List Entry → ℕ
objects_in [] = 0
objects_in (e ∷ es) = if is_object e.part then suc (objects_in es) else objects_in es

abbrev pub is_around : Tag → Bool
is_around t = bytes_eq t.space xmi_space && bytes_eq t.name (codes "XMI")

-- ## The walk

-- Where an element stands: at the root of the file, in `xmi:XMI`, in an object, or in a value of an attribute
pub data Where : Type 0 where
  AtRoot : Where
  InAround : Where
  InObject : ClassId → ObjId → Where
  InValue : Where

-- the class of a child: its type's, else its feature's
abbrev pub child_class : Parts → List Prefix → Tag → Option ClassId → Option ClassId
child_class meta scope t said = option_map_or (class_of_text meta scope) (type_text t) said

abbrev pub child_part : Parts → ClassId → ObjId → List Prefix → Tag → Part
child_part meta class o scope t = option_map_or by_feature (feature_named meta class t.name) (Unknown (option_map (class_of_text meta scope) (type_text t)))
  where
    by_feature : FeatId → Part
    by_feature f =
        if contains meta f then Content o f (child_class meta scope t (class_said meta f))
        else if refers meta f then Cross f (child_class meta scope t (class_said meta f))
        else Value o f

abbrev pub part_of : Parts → Where → List Prefix → Tag → Part
part_of meta AtRoot scope t = if is_around t then Around else Root (class_named meta t.space t.name)
part_of meta InAround scope t = Root (class_named meta t.space t.name)
part_of meta (InObject c o) scope t = child_part meta c o scope t
part_of meta InValue scope t = Inner

-- where the children of an element stand, where it is the object of that number; what is nothing is not looked into
abbrev pub inside : Part → ℕ → Option Where
inside Around n = Some InAround
inside (Root (Some c)) n = Some (InObject c (record { 0 = n }))
inside (Content o f (Some c)) n = Some (InObject c (record { 0 = n }))
inside (Value o f) n = Some InValue
inside p n = None

-- what stands in an element: texts, and elements, each a function from where it stands, the declarations around it, and how
-- many objects there are before it
pub data Below : Type 0 where
  Sub : List ℕ → (Where → List Prefix → ℕ → List Entry) → Below
  Words : List ℕ → Below

abbrev pub texts_of : List Below → List (List ℕ)
texts_of [] = []
texts_of (Words text ∷ bs) = text ∷ texts_of bs
texts_of (Sub name walk ∷ bs) = texts_of bs

abbrev pub is_element : Below → Bool
is_element (Sub name walk) = true
is_element (Words text) = false

-- a child of a skipped feature
abbrev pub is_passed : Parts → Where → List ℕ → Bool
is_passed meta (InObject c o) name = is_skipped meta c name
is_passed meta w name = false

abbrev pub walk_all : Parts → Where → List Prefix → ℕ → List Below → List Entry
walk_all meta w scope n [] = []
walk_all meta w scope n (Words text ∷ bs) = walk_all meta w scope n bs
walk_all meta w scope n (Sub name walk ∷ bs) =
    if is_passed meta w name then walk_all meta w scope n bs
    else walk w scope n ++ walk_all meta w scope (n + objects_in (walk w scope n)) bs

abbrev pub walk_inside : Parts → Option Where → List Prefix → ℕ → List Below → List Entry
walk_inside meta None scope n bs = []
walk_inside meta (Some w) scope n bs = walk_all meta w scope n bs

module _ (meta : Parts) where
  abbrev pub walk_tag : Where → List Prefix → ℕ → Tag → List Below → List Entry
  walk_tag w scope n t bs =
      let part = part_of meta w scope t in
      record { part = part; tag = t }
      ∷ walk_inside meta (inside part n) scope (if is_object part then suc n else n) bs

  abbrev pub child_layer : layer.Child-F Below (List ℕ × (Where → List Prefix → ℕ → List Entry)) → Below
  child_layer (layer.Sub e) = Sub e.0 e.1
  child_layer (layer.Words text) = Words text

  -- an element's name goes with its walk
  abbrev pub named_layer : layer.Element-F Below (List ℕ × (Where → List Prefix → ℕ → List Entry)) → List ℕ × (Where → List Prefix → ℕ → List Entry)
  named_layer e = (
    e.name,
    λ w outer n. walk_tag w (e.declared ++ outer) n
        (record { space = e.space; name = e.name; attributes = e.attributes; texts = texts_of e.children; has_elements = list_any is_element e.children; place = e.place })
        e.children,
  )

  unfoldable pub walk_child : Child → Below
  walk_child = fold-Child Below (List ℕ × (Where → List Prefix → ℕ → List Entry)) child_layer named_layer

  unfoldable pub walk : Element → List ℕ × (Where → List Prefix → ℕ → List Entry)
  walk = fold-Element Below (List ℕ × (Where → List Prefix → ℕ → List Entry)) child_layer named_layer

  abbrev pub outline : Doc → List Entry
  outline doc = (walk doc.root).1 AtRoot [] 0
