-- Which documents are read back from what is written of them, and what is the same but for places.
-- (Names as in Namespaces in XML 1.0; all namespaces are declared at the root, with prefixes that differ.)
use Rattle.std.specs.Prelude.{ℕ, zero, suc, ◌≡◌, ◌≢◌, ◌||◌, ◌⊎◌, List, [], ◌∷◌, ◌++◌, map, filter, not, true, codes, encode_utf8_all, bytes_eq, All, AllPairs}
use Rattle.std.specs.List.{list_all, list_any}
use Rattle.atl_base.specs.XmlText.{IsXmlText}
use Rattle.doc_text.specs.Characters.{place}
use Rattle.doc_text.specs.Symbols.{kind_of, is_start, is_name}
use Rattle.doc_text.specs.Written.{is_version, written}
use Rattle.doc_text.specs.Reading.{Gives, read_bytes}
use Rattle.doc_text.specs.declared.tree.Attribute.{Attribute}
use Rattle.doc_text.specs.declared.tree.Doc.{Doc}
use Rattle.doc_text.specs.declared.tree.Prefix.{Prefix}
use Rattle.doc_text.specs.declared.tree.Element.{Element, fold-Element}
use Rattle.doc_text.specs.declared.tree.Child.{Child, fold-Child}
use Rattle.doc_text.specs.declared.tree.Child.TheOpen as layer
use Rattle.doc_text.specs.declared.tree.Child.TheVariants.{Sub, Words}

-- a name without a colon, by its characters
pub record IsPlain (name : List ℕ) : Type 0 where
  pub first : ℕ
  pub others : List ℕ
  pub starts : is_start (kind_of first) ≡ true
  pub goes_on : list_all (λ c. is_name (kind_of c)) others ≡ true
  pub spelt : encode_utf8_all (first ∷ others) ≡ name

-- one that declares no namespace
pub record IsPlainName (name : List ℕ) : Type 0 where
  pub plain : IsPlain name
  pub no_declaration : name ≢ codes "xmlns"

-- a namespace that is none, or declared
abbrev pub IsDeclared : List Prefix → List ℕ → Type 0
IsDeclared ds space = (bytes_eq space [] || list_any (λ d. bytes_eq d.uri space) ds) ≡ true

pub record IsAttribute (ds : List Prefix) (a : Attribute) : Type 0 where
  pub name : IsPlainName a.name
  pub space : IsDeclared ds a.space
  pub value : IsXmlText a.value

abbrev pub Differ : Attribute → Attribute → Type 0
Differ a b = a.space ≡ b.space → a.name ≢ b.name

-- what may stand in a start tag, where these namespaces are declared: XMI's version stands first
pub record IsTag (ds : List Prefix) (e : Element) : Type 0 where
  pub name : IsPlainName e.name
  pub space : IsDeclared ds e.space
  pub attributes : All (IsAttribute ds) e.attributes
  pub differ : AllPairs Differ e.attributes
  pub version_first : filter is_version e.attributes ++ filter (λ a. not (is_version a)) e.attributes ≡ e.attributes

-- elements alone, or one text that is not empty
abbrev pub AreElements : (Element → Type 0) → List Child → Type 0
AreElements P children = (es : List Element) × (map Sub es ≡ children) × All P es

abbrev pub IsLoneText : List Child → Type 0
IsLoneText children = (text : List ℕ) × (Words text ∷ [] ≡ children) × (text ≢ []) × IsXmlText text

abbrev pub AreChildren : (Element → Type 0) → List Child → Type 0
AreChildren P children = AreElements P children ⊎ IsLoneText children

-- an element below the root, with at most so many open at once in it, itself included
abbrev pub IsBelow : List Prefix → ℕ → Element → Type 0
IsBelow ds zero e = ⊥
IsBelow ds (suc n) e = (e.declared ≡ []) × IsTag ds e × AreChildren (λ x. IsBelow ds n x) e.children

-- at most 200 elements are open at once
pub record IsWritable (doc : Doc) : Type 0 where
  pub prefixes : All (λ d. IsPlainName d.prefix) doc.root.declared
  pub uris : All (λ d. IsXmlText d.uri) doc.root.declared
  pub differ : AllPairs (λ c d. c.prefix ≢ d.prefix) doc.root.declared
  pub tag : IsTag doc.root.declared doc.root
  pub children : AreChildren (IsBelow doc.root.declared 199) doc.root.children

-- an element without its places
abbrev pub unplaced_layer : layer.Element-F Child Element → Element
unplaced_layer e = record { space = e.space; name = e.name; declared = e.declared; attributes = e.attributes; children = e.children; place = place 1 1 }

abbrev pub child_layer : layer.Child-F Child Element → Child
child_layer (layer.Sub e) = Sub e
child_layer (layer.Words text) = Words text

unfoldable pub unplaced : Element → Element
unplaced = fold-Element Child Element child_layer unplaced_layer

unfoldable pub unplaced_child : Child → Child
unplaced_child = fold-Child Child Element child_layer unplaced_layer

-- What is written of the document is read to its root, up to places.
abbrev pub IsReadBack : Doc → Type 0
IsReadBack doc = (root : Element) × Gives (read_bytes (written doc)) root × (unplaced root ≡ unplaced doc.root)
