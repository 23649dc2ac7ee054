-- What is written of a document: the declaration of XML 1.0 (section 2.8), then each element on a line of its own,
-- behind two blanks for each element around it. All namespaces are declared at the root.
use Rattle.std.specs.Prelude.{ℕ, suc, ◌*◌, ◌&&◌, Bool, not, List, [], ◌∷◌, ◌++◌, codes, filter, replicate, Option, Some, None}
use Rattle.std.specs.Option.{option_map_or}
use Rattle.std.specs.List.{flat_map}
use Rattle.std.specs.Str.{bytes_eq}
use Rattle.doc_text.specs.declared.tree.Attribute.{Attribute}
use Rattle.doc_text.specs.declared.tree.Doc.{Doc}
use Rattle.doc_text.specs.declared.tree.Child.{Child, fold-Child}
use Rattle.doc_text.specs.declared.tree.Child.TheOpen as layer
use Rattle.doc_text.specs.declared.tree.Element.{Element, fold-Element}
use Rattle.doc_text.specs.declared.tree.Prefix.{Prefix}
use Rattle.doc_text.specs.declared.escape.Escapes.TheVariants.{Value}
use Rattle.doc_text.specs.declared.escape.Escapes.TheVariants as escape
use Rattle.doc_text.specs.Escapes.{escaped}
use Rattle.doc_text.specs.Names.{xmi_space, written_name}

abbrev pub quoted : List ℕ → List ℕ
quoted value = codes "=\"" ++ (flat_map (escaped Value) value ++ codes "\"")

abbrev pub written_attribute : List Prefix → Attribute → List ℕ
written_attribute ds a = codes " " ++ (written_name ds a.space a.name ++ quoted a.value)

-- a declared prefix behind its colon; the default namespace has neither
abbrev pub behind_colon : List ℕ → List ℕ
behind_colon [] = []
behind_colon (c ∷ cs) = codes ":" ++ (c ∷ cs)

abbrev pub written_declaration : Prefix → List ℕ
written_declaration d = codes " xmlns" ++ (behind_colon d.prefix ++ quoted d.uri)

-- the attribute `version` of XMI
abbrev pub is_version : Attribute → Bool
is_version a = bytes_eq a.space xmi_space && bytes_eq a.name (codes "version")

-- What stands in a start tag after the name: XMI's version, then the declarations, then the other attributes.
abbrev pub written_attributes : List Prefix → List Prefix → List Attribute → List ℕ
written_attributes ds declared attributes =
    flat_map (written_attribute ds) (filter is_version attributes) ++ (flat_map written_declaration declared ++ flat_map (written_attribute ds) (filter (λ a. not (is_version a)) attributes))

abbrev pub indent : ℕ → List ℕ
indent depth = replicate (2 * depth) 32

-- what is written of a child, at the depth of its element's children: its lines, or its text
pub data Written : Type 0 where
  Lines : (ℕ → List ℕ) → Written
  Words : List ℕ → Written

abbrev pub lines : ℕ → Written → List ℕ
lines depth (Lines at) = at depth
lines depth (Words text) = indent depth ++ (flat_map (escaped escape.Text) text ++ codes "\n")

-- the text that an element has alone
abbrev pub lone_text : List Written → Option (List ℕ)
lone_text [] = None
lone_text (Words text ∷ []) = Some text
lone_text (Words text ∷ (c ∷ cs)) = None
lone_text (Lines at ∷ cs) = None

-- an element's line up to its attributes, and the end tag
abbrev pub opening : List Prefix → List ℕ → List ℕ → List Prefix → List Attribute → ℕ → List ℕ
opening ds space name declared attributes depth = indent depth ++ (codes "<" ++ (written_name ds space name ++ written_attributes ds declared attributes))

abbrev pub end_tag : List Prefix → List ℕ → List ℕ → List ℕ
end_tag ds space name = codes "</" ++ (written_name ds space name ++ codes ">\n")

-- What follows the attributes: a lone text stands in the element's line, elements on lines of their own.
abbrev pub contents : List ℕ → ℕ → List Written → List ℕ
contents end depth [] = codes "/>\n"
contents end depth (c ∷ cs) = option_map_or (λ text. codes ">" ++ (flat_map (escaped escape.Text) text ++ end)) (lone_text (c ∷ cs))
    (codes ">\n" ++ (flat_map (lines (suc depth)) (c ∷ cs) ++ (indent depth ++ end)))

-- one element, and its children as they are written
abbrev pub written_layer : List Prefix → layer.Element-F Written (ℕ → List ℕ) → ℕ → List ℕ
written_layer ds e depth = opening ds e.space e.name e.declared e.attributes depth ++ contents (end_tag ds e.space e.name) depth e.children

abbrev pub child_layer : layer.Child-F Written (ℕ → List ℕ) → Written
child_layer (layer.Sub e) = Lines e
child_layer (layer.Words text) = Words text

-- the lines of an element with these namespaces, behind as many elements as the depth says; and what is written of a child
unfoldable pub written_element : List Prefix → Element → ℕ → List ℕ
written_element ds = fold-Element Written (ℕ → List ℕ) child_layer (written_layer ds)

unfoldable pub written_child : List Prefix → Child → Written
written_child ds = fold-Child Written (ℕ → List ℕ) child_layer (written_layer ds)

abbrev pub declaration : List ℕ
declaration = codes "<?xml version=\"1.0\" encoding=\"UTF-8\"?>\n"

abbrev pub written : Doc → List ℕ
written doc = declaration ++ written_element doc.root.declared doc.root 0
