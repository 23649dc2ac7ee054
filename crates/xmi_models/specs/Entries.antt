-- What the code's entries stand for: what an element is, and the element without what stands in it.
use Rattle.std.specs.Prelude.{◌≡◌, ℕ, Bool, true, false, List, [], ◌∷◌, ◌++◌, map, Option, Some, None}
use Rattle.std.specs.List.{list_any}
use Rattle.atl_base.specs.declared.numbers.ObjId.{ObjId}
use Rattle.doc_text.specs.declared.tree.Child.{Child, out-Child}
use Rattle.doc_text.specs.declared.tree.Child.TheOpen as layer
use Rattle.doc_text.specs.declared.tree.Element.{Element}
use Rattle.xmi_models.specs.declared.part.Part.{Part as CodePart}
use Rattle.xmi_models.specs.declared.part.Part.TheVariants as code
use Rattle.xmi_models.specs.declared.part.Where.{Where as CodeWhere}
use Rattle.xmi_models.specs.declared.part.Where.TheVariants as place
use Rattle.xmi_models.specs.declared.part.Entry.{Entry as CodeEntry}
use Rattle.xmi_models.specs.declared.outline.File.{File}
use Rattle.xmi_models.specs.Outline.{Tag, Part, Around, Root, Content, Value, Cross, Unknown, Inner, Where, AtRoot, InAround, InObject, InValue, Entry, objects_in}

-- ## Elements

abbrev pub words_in : layer.Child-F Child Element → List (List ℕ)
words_in (layer.Sub e) = []
words_in (layer.Words text) = text ∷ []

abbrev pub texts_in : List Child → List (List ℕ)
texts_in [] = []
texts_in (c ∷ cs) = words_in (out-Child c) ++ texts_in cs

abbrev pub is_element_in : layer.Child-F Child Element → Bool
is_element_in (layer.Sub e) = true
is_element_in (layer.Words text) = false

abbrev pub has_elements_in : List Child → Bool
has_elements_in cs = list_any (λ c. is_element_in (out-Child c)) cs

abbrev pub tag_of : Element → Tag
tag_of e = record { space = e.space; name = e.name; attributes = e.attributes; texts = texts_in e.children; has_elements = has_elements_in e.children; place = e.place }

-- ## Parts

abbrev pub object_no : ℕ → ObjId
object_no n = record { 0 = n }

abbrev pub part_in : CodePart → Part
part_in code.Around = Around
part_in (code.Root c) = Root c
part_in (code.Content o f c) = Content (object_no o) f c
part_in (code.Value o f) = Value (object_no o) f
part_in (code.Cross f c) = Cross f c
part_in (code.Unknown c) = Unknown c
part_in code.Inner = Inner

abbrev pub where_in : CodeWhere → Where
where_in place.AtRoot = AtRoot
where_in place.InAround = InAround
where_in (place.InObject c o) = InObject c (object_no o)
where_in place.InValue = InValue

abbrev pub maybe_where : Option CodeWhere → Option Where
maybe_where (Some w) = Some (where_in w)
maybe_where None = None

-- ## Entries

abbrev pub entry_of : CodeEntry → Entry
entry_of e = record { part = part_in e.part; tag = tag_of e.element.now }

abbrev pub entries_of : List CodeEntry → List Entry
entries_of = map entry_of

-- the objects are counted
abbrev pub IsCounted : File → Type 0
IsCounted o = o.objects ≡ objects_in (entries_of o.entries.items)
