-- What the one rule makes of a flat source: of each element of its class, in order, an element of the target, with the
-- attribute where the source element has it; and the document that holds these elements.
use Rattle.std.specs.Prelude.{ℕ, List, [], ◌∷◌, Option, None, Some, map, codes}
use Rattle.doc_text.specs.declared.tree.Attribute.{Attribute}
use Rattle.doc_text.specs.declared.tree.Child.{Child}
use Rattle.doc_text.specs.declared.tree.Child.TheVariants.{Sub}
use Rattle.doc_text.specs.declared.tree.Doc.{Doc}
use Rattle.doc_text.specs.declared.tree.Element.{Element}
use Rattle.doc_text.specs.declared.tree.Prefix.{Prefix}
use Rattle.doc_text.specs.Names.{xmi_space, xsi_space}
use Rattle.doc_text.specs.Written.{written}
use Rattle.atl_cli.specs.declared.one_rule.OneRule.{OneRule}
use Rattle.atl_cli.specs.declared.source.SourceElement.{SourceElement}
use Rattle.atl_cli.specs.Source.{kept_values}

-- an element that was read from no place
abbrev pub element : List ℕ → List ℕ → List Prefix → List Attribute → List Child → Element
element space name declared attributes children =
    record { space = space; name = name; declared = declared; attributes = attributes; children = children; place = record { line = 0; column = 0 } }

abbrev pub attributes_of : List ℕ → Option (List ℕ) → List Attribute
attributes_of feature None = []
attributes_of feature (Some value) = record { space = []; name = feature; value = value } ∷ []

-- the target element of one source element
abbrev pub item : OneRule → Option (List ℕ) → Element
item m value = element m.target_metamodel m.made_class [] (attributes_of m.feature value) []

-- the target elements of a source's elements
abbrev pub flat : OneRule → List SourceElement → List Element
flat m es = map (item m) (kept_values m.class m.read es)

-- what a document's outermost element carries: XMI's version and three namespaces, the last under its own name
abbrev pub version : Attribute
version = record { space = xmi_space; name = codes "version"; value = codes "2.0" }

abbrev pub namespaces : List ℕ → List Prefix
namespaces space = record { prefix = codes "xmi"; uri = xmi_space } ∷ record { prefix = codes "xsi"; uri = xsi_space } ∷ record { prefix = space; uri = space } ∷ []

-- one element stands alone; none or several stand in xmi:XMI
abbrev pub document : List ℕ → List Element → Doc
document space (e ∷ []) = record { root = element e.space e.name (namespaces space) (version ∷ e.attributes) e.children }
document space es = record { root = element xmi_space (codes "XMI") (namespaces space) (version ∷ []) (map Sub es) }

-- the text of the target
abbrev pub text_of : OneRule → List Element → List ℕ
text_of m es = written (document m.target_metamodel es)
