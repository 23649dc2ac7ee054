-- Names with their namespaces (Namespaces in XML 1.0): which declarations are in force at a start tag, what is wrong
-- in one that has been read to its end, and the tree with its names resolved.
use Rattle.std.specs.Prelude.{ℕ, List, [], ◌∷◌, ◌++◌, Bool, true, false, if◌then◌else◌, ◌&&◌, ◌||◌, ◌==◌, bytes_eq, Option, None, Some, codes, is_some}
use Rattle.atl_base.specs.declared.place.Place.{Place}
use Rattle.doc_text.specs.Faults.{Fault, TwiceAttribute, Prefix}
pub use Rattle.doc_text.specs.Declarations.{is_default, is_declaration, declared_prefix}
use Rattle.doc_text.specs.Raw.{Name, Pair, Start, Trees, Node, Words, Nil, Also}
use Rattle.doc_text.specs.declared.tree.Prefix.{Prefix as SomePrefix}
use Rattle.doc_text.specs.declared.tree.Attribute.{Attribute}
use Rattle.doc_text.specs.declared.tree.Element.{Element}
use Rattle.doc_text.specs.declared.tree.Child.{Child}
use Rattle.doc_text.specs.declared.tree.Child.TheVariants as W
use Rattle.doc_text.specs.declared.tree.Child.TheVariants.{Sub}

abbrev pub xml_space : List ℕ
xml_space = codes "http://www.w3.org/XML/1998/namespace"

-- what these attributes declare of a prefix, else what stands further out
abbrev pub own_uri : List ℕ → List Pair → Option (List ℕ) → Option (List ℕ)
own_uri p [] outer = outer
own_uri p (a ∷ rest) outer = if is_declaration a.name && bytes_eq (declared_prefix a.name) p then Some a.value else own_uri p rest outer

-- the uri of a prefix under these open tags, the innermost first
abbrev pub uri_of : List ℕ → List Start → Option (List ℕ)
uri_of p [] = if bytes_eq p [] then Some [] else if bytes_eq p (codes "xml") then Some xml_space else None
uri_of p (t ∷ outer) = own_uri p t.pairs (uri_of p outer)

-- the space of an attribute's name: without a prefix it is in none
abbrev pub attribute_space : Name → List Start → Option (List ℕ)
attribute_space n open_tags = if bytes_eq n.prefix [] then Some [] else uri_of n.prefix open_tags

abbrev pub both : Option (List ℕ) → Option (List ℕ) → Bool
both (Some s) (Some t) = bytes_eq s t
both s t = false

-- two attributes of one tag are the same: declarations of one prefix, or names with one space and local name
abbrev pub is_twice : List Start → Name → Name → Bool
is_twice open_tags m n =
    if is_declaration m && is_declaration n then bytes_eq (declared_prefix m) (declared_prefix n)
    else if is_declaration m || is_declaration n then false
    else both (attribute_space m open_tags) (attribute_space n open_tags) && bytes_eq m.local n.local

abbrev pub stands_before : List Start → Name → List Pair → Bool
stands_before open_tags n [] = false
stands_before open_tags n (a ∷ rest) = is_twice open_tags a.name n || stands_before open_tags n rest

-- what is wrong with an attribute's name, where these stand before it
abbrev pub name_fault : List Start → List Pair → Name → Option (Fault × Place)
name_fault open_tags before n =
    if stands_before open_tags n before then Some (TwiceAttribute, n.at)
    else if is_declaration n || is_some (attribute_space n open_tags) then None
    else Some (Prefix, n.at)

abbrev pub or_else : Option (Fault × Place) → Option (Fault × Place) → Option (Fault × Place)
or_else (Some f) rest = Some f
or_else None rest = rest

abbrev pub pairs_fault : List Start → List Pair → List Pair → Option (Fault × Place)
pairs_fault open_tags before [] = None
pairs_fault open_tags before (a ∷ rest) = or_else (name_fault open_tags before a.name) (pairs_fault open_tags (before ++ (a ∷ [])) rest)

-- the first thing wrong with the names of a start tag in these open ones
abbrev pub tag_fault : List Start → Start → Option (Fault × Place)
tag_fault outer t =
    if is_some (uri_of t.name.prefix (t ∷ outer)) then pairs_fault (t ∷ outer) [] t.pairs
    else Some (Prefix, t.name.at)

abbrev pub or_empty : Option (List ℕ) → List ℕ
or_empty (Some s) = s
or_empty None = []

-- the declarations and the attributes of a tag, in their order
abbrev pub declared_of : List Pair → List SomePrefix
declared_of [] = []
declared_of (a ∷ rest) = if is_declaration a.name then record { prefix = declared_prefix a.name; uri = a.value } ∷ declared_of rest else declared_of rest

abbrev pub attributes_of : List Start → List Pair → List Attribute
attributes_of open_tags [] = []
attributes_of open_tags (a ∷ rest) = if is_declaration a.name then attributes_of open_tags rest else record { space = or_empty (attribute_space a.name open_tags); name = a.name.local; value = a.value } ∷ attributes_of open_tags rest

abbrev pub is_blank_text : List ℕ → Bool
is_blank_text [] = true
is_blank_text (c ∷ cs) = (c == 32 || c == 9 || c == 10 || c == 13) && is_blank_text cs

abbrev pub has_element : Trees → Bool
has_element Nil = false
has_element (Also ts (Node t us)) = true
has_element (Also ts (Words s)) = has_element ts

abbrev pub element : List Start → Start → List Child → Element
element outer t cs = record { space = or_empty (uri_of t.name.prefix (t ∷ outer)); name = t.name.local; declared = declared_of t.pairs; attributes = attributes_of (t ∷ outer) t.pairs; children = cs; place = t.at }

-- blank text beside elements is dropped
abbrev pub children : List Start → Bool → Trees → List Child
children outer beside Nil = []
children outer beside (Also ts (Node t us)) = children outer beside ts ++ (Sub (element outer t (children (t ∷ outer) (has_element us) us)) ∷ [])
children outer beside (Also ts (Words s)) = children outer beside ts ++ (if beside && is_blank_text s then [] else W.Words s ∷ [])

-- the root with its names resolved
abbrev pub resolved : Start → Trees → Element
resolved t ts = element [] t (children (t ∷ []) (has_element ts) ts)
